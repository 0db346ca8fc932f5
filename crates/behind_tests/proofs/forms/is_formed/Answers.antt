use Rattle.std.proofs.Common.{subst}
use Rattle.trees.specs.Language.{Tm}
use Rattle.trees.specs.Things.{AContext, ATree}
use Rattle.typed_nodes.proofs.GrowthLaws.{says_later}
use Rattle.literal_types.proofs.GrowthLaws.{extends_extends}
use Rattle.behind_tests.proofs.AskLaws.{term_claim}
use Rattle.behind_tests.proofs.FormLaws.{RowOr}
use Rattle.behind_tests.proofs.forms.is_formed.Goals as goal

pub opened_term-requires : goal.opened_term-requires
opened_term-requires c =
    let (G, t, T, says, literal, ctx, ty) = c.requires in
    (G, t, T, says, literal)

pub term_row-requires : goal.term_row-requires
term_row-requires c =
    let (G, t, T, says, literal, ctx, ty) = c.requires in
    let (S, kids, fits) = c.in_ok-opened.ensures.opened G t T says literal in
    (G, t, S, kids)

pub concludes-requires : goal.concludes-requires
concludes-requires c =
    let (G, t, T, says, literal, ctx, ty) = c.requires in
    let grown = extends_extends c.in_ok-opened.ensures.extends c.in_ok-tree.ensures.extends in
    let (u, row) = subst (RowOr c.term_row.new.book) c.in-Some.is c.in_ok-tree.ensures.row in
    (Tm G t T, Tm G u T, says_later _ _ c.args.typing (Tm G t T) grown says, term_claim c.term_row.new.book c.args.ctx c.in-Some.tree c.args.ty G u T (grown.rows.keeps c.args.ctx (AContext G) ctx) row (grown.rows.keeps c.args.ty (ATree T) ty))

pub returns-in_err-tree : goal.returns-in_err-tree
returns-in_err-tree c = extends_extends c.in_ok-opened.ensures.extends c.in_err-tree.ensures.extends

pub returns-in_err-concludes-in-Some : goal.returns-in_err-concludes-in-Some
returns-in_err-concludes-in-Some c = extends_extends c.in_ok-opened.ensures.extends c.in_ok-tree.ensures.extends

pub returns-in_ok-concludes-in-Some : goal.returns-in_ok-concludes-in-Some
returns-in_ok-concludes-in-Some c = extends_extends c.in_ok-opened.ensures.extends c.in_ok-tree.ensures.extends

pub returns-in-None : goal.returns-in-None
returns-in-None c = extends_extends c.in_ok-opened.ensures.extends c.in_ok-tree.ensures.extends
