use Rattle.std.proofs.Common.{refl, ◌∙◌}
use Rattle.trees.specs.declared.op.Op.TheVariants as op
use Rattle.trees.specs.Judgements.{WithName, trees}
use Rattle.trees.specs.Language.{Ty, Tm}
use Rattle.trees.specs.Things.{AContext, ATree}
use Rattle.rules.specs.Table.{at, i0, i1, pathp}
use Rattle.book.specs.Shown.{book_means}
use Rattle.typed_nodes.proofs.GrowthLaws.{says_later}
use Rattle.literal_types.proofs.GrowthLaws.{extends_extends}
use Rattle.recipe_runner.proofs.BuildLaws.{some-is}
use Rattle.behind_tests.proofs.AskLaws.{type_claim}
use Rattle.behind_tests.proofs.FormLaws.{made-of-three}
use Rattle.behind_tests.proofs.forms.is_line.Goals as goal

pub kid_row-requires : goal.kid_row-requires
kid_row-requires c =
    let (G, A, u, v, says, ctx) = c.requires in
    (G, pathp trees A u v, A, Ty (WithName G) A, says, refl, refl, refl)

pub kid_row-requires-2 : goal.kid_row-requires-2
kid_row-requires-2 c =
    let (G, A, u, v, says, ctx) = c.requires in
    (G, pathp trees A u v, u, Tm G u (at trees A (i0 trees)), says_later _ _ c.args.ty (Ty G (pathp trees A u v)) c.in_ok-line.ensures.extends says, refl, refl, refl)

pub returns-in_err-left : goal.returns-in_err-left
returns-in_err-left c = extends_extends c.in_ok-line.ensures.extends c.in_err-left.ensures.extends

pub kid_row-requires-3 : goal.kid_row-requires-3
kid_row-requires-3 c =
    let (G, A, u, v, says, ctx) = c.requires in
    (G, pathp trees A u v, v, Tm G v (at trees A (i1 trees)), says_later _ _ c.args.ty (Ty G (pathp trees A u v)) (extends_extends c.in_ok-line.ensures.extends c.in_ok-left.ensures.extends) says, refl, refl, refl)

pub returns-in_err-right : goal.returns-in_err-right
returns-in_err-right c = extends_extends (extends_extends c.in_ok-line.ensures.extends c.in_ok-left.ensures.extends) c.in_err-right.ensures.extends

pub make-requires : goal.make-requires
make-requires c =
    let (G, A, u, v, says, ctx) = c.requires in
    let T = pathp trees A u v in
    let e = c.in_ok-line.ensures in
    let f = c.in_ok-left.ensures in
    let g = c.in_ok-right.ensures in
    let line = g.extends.rows.keeps c.in_ok-line.line (ATree A) (f.extends.rows.keeps c.in_ok-line.line (ATree A) (e.row G T A (Ty (WithName G) A) says refl refl refl)) in
    let left = g.extends.rows.keeps c.in_ok-left.left (ATree u) (f.row G T u (Tm G u (at trees A (i0 trees))) (says_later _ _ c.args.ty (Ty G T) e.extends says) refl refl refl) in
    let right = g.row G T v (Tm G v (at trees A (i1 trees))) (says_later _ _ c.args.ty (Ty G T) (extends_extends e.extends f.extends) says) refl refl refl in
    some-is _ (ATree T) (made-of-three (book_means c.kid_row-3.new.book) op.PathP c.in_ok-line.line c.in_ok-left.left c.in_ok-right.right A u v line left right)

pub returns-in_err-tree : goal.returns-in_err-tree
returns-in_err-tree c = extends_extends (extends_extends (extends_extends c.in_ok-line.ensures.extends c.in_ok-left.ensures.extends) c.in_ok-right.ensures.extends) c.in_err-tree.ensures.extends

pub concludes-requires : goal.concludes-requires
concludes-requires c =
    let (G, A, u, v, says, ctx) = c.requires in
    let T = pathp trees A u v in
    let e = c.in_ok-line.ensures in
    let f = c.in_ok-left.ensures in
    let g = c.in_ok-right.ensures in
    let line = g.extends.rows.keeps c.in_ok-line.line (ATree A) (f.extends.rows.keeps c.in_ok-line.line (ATree A) (e.row G T A (Ty (WithName G) A) says refl refl refl)) in
    let left = g.extends.rows.keeps c.in_ok-left.left (ATree u) (f.row G T u (Tm G u (at trees A (i0 trees))) (says_later _ _ c.args.ty (Ty G T) e.extends says) refl refl refl) in
    let right = g.row G T v (Tm G v (at trees A (i1 trees))) (says_later _ _ c.args.ty (Ty G T) (extends_extends e.extends f.extends) says) refl refl refl in
    let grown = extends_extends (extends_extends (extends_extends e.extends f.extends) g.extends) c.in_ok-tree.ensures.extends in
    (Ty G T, Ty G T, says_later _ _ c.args.ty (Ty G T) grown says, type_claim c.make.new.self c.args.ctx c.in_ok-tree.tree G T (grown.rows.keeps c.args.ctx (AContext G) ctx) (c.in_ok-tree.ensures.meaning ∙ made-of-three (book_means c.kid_row-3.new.book) op.PathP c.in_ok-line.line c.in_ok-left.left c.in_ok-right.right A u v line left right))

pub returns-in_err-concludes : goal.returns-in_err-concludes
returns-in_err-concludes c = extends_extends (extends_extends (extends_extends c.in_ok-line.ensures.extends c.in_ok-left.ensures.extends) c.in_ok-right.ensures.extends) c.in_ok-tree.ensures.extends

pub returns : goal.returns
returns c = extends_extends (extends_extends (extends_extends c.in_ok-line.ensures.extends c.in_ok-left.ensures.extends) c.in_ok-right.ensures.extends) c.in_ok-tree.ensures.extends
