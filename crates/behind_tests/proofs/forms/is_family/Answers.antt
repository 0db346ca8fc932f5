use Rattle.std.proofs.Common.{refl, ◌∙◌}
use Rattle.trees.specs.Judgements.{WithVar}
use Rattle.trees.specs.Language.{Ty}
use Rattle.trees.specs.Things.{AContext, ATree}
use Rattle.typed_nodes.proofs.GrowthLaws.{says_later}
use Rattle.literal_types.proofs.GrowthLaws.{extends_extends}
use Rattle.recipe_runner.proofs.BuildLaws.{some-is}
use Rattle.book.specs.Shown.{book_means}
use Rattle.behind_tests.proofs.AskLaws.{type_claim}
use Rattle.behind_tests.proofs.FormLaws.{over, domain_of, codomain_of, family_made}
use Rattle.behind_tests.proofs.forms.is_family.Goals as goal

pub kid_row-requires : goal.kid_row-requires
kid_row-requires c =
    let (G, A, B, says, ctx) = c.requires.ty in
    (G, over c.args.op A B, A, Ty G A, says, refl, domain_of c.args.op G A B c.requires.binder, refl)

pub kid_row-requires-2 : goal.kid_row-requires-2
kid_row-requires-2 c =
    let (G, A, B, says, ctx) = c.requires.ty in
    (G, over c.args.op A B, B, Ty (WithVar G A) B, says_later _ _ c.args.ty (Ty G (over c.args.op A B)) c.in_ok-domain.ensures.extends says, refl, codomain_of c.args.op G A B c.requires.binder, refl)

pub returns-in_err-codomain : goal.returns-in_err-codomain
returns-in_err-codomain c = extends_extends c.in_ok-domain.ensures.extends c.in_err-codomain.ensures.extends

pub make-requires : goal.make-requires
make-requires c =
    let (G, A, B, says, ctx) = c.requires.ty in
    let o = c.args.op in
    let later = says_later _ _ c.args.ty (Ty G (over o A B)) c.in_ok-domain.ensures.extends says in
    let left = c.in_ok-codomain.ensures.extends.rows.keeps c.in_ok-domain.domain (ATree A) (c.in_ok-domain.ensures.row G (over o A B) A (Ty G A) says refl (domain_of o G A B c.requires.binder) refl) in
    let right = c.in_ok-codomain.ensures.row G (over o A B) B (Ty (WithVar G A) B) later refl (codomain_of o G A B c.requires.binder) refl in
    some-is _ (ATree (over o A B)) (family_made (book_means c.kid_row-2.new.book) o c.in_ok-domain.domain c.in_ok-codomain.codomain A B c.requires.binder left right)

pub returns-in_err-tree : goal.returns-in_err-tree
returns-in_err-tree c = extends_extends (extends_extends c.in_ok-domain.ensures.extends c.in_ok-codomain.ensures.extends) c.in_err-tree.ensures.extends

pub concludes-requires : goal.concludes-requires
concludes-requires c =
    let (G, A, B, says, ctx) = c.requires.ty in
    let o = c.args.op in
    let later = says_later _ _ c.args.ty (Ty G (over o A B)) c.in_ok-domain.ensures.extends says in
    let left = c.in_ok-codomain.ensures.extends.rows.keeps c.in_ok-domain.domain (ATree A) (c.in_ok-domain.ensures.row G (over o A B) A (Ty G A) says refl (domain_of o G A B c.requires.binder) refl) in
    let right = c.in_ok-codomain.ensures.row G (over o A B) B (Ty (WithVar G A) B) later refl (codomain_of o G A B c.requires.binder) refl in
    let grown = extends_extends (extends_extends c.in_ok-domain.ensures.extends c.in_ok-codomain.ensures.extends) c.in_ok-tree.ensures.extends in
    let tree = c.in_ok-tree.ensures.meaning ∙ family_made (book_means c.kid_row-2.new.book) o c.in_ok-domain.domain c.in_ok-codomain.codomain A B c.requires.binder left right in
    (Ty G (over o A B), Ty G (over o A B), says_later _ _ c.args.ty (Ty G (over o A B)) grown says, type_claim c.make.new.self c.args.ctx c.in_ok-tree.tree G (over o A B) (grown.rows.keeps c.args.ctx (AContext G) ctx) tree)

pub returns-in_err-concludes : goal.returns-in_err-concludes
returns-in_err-concludes c = extends_extends (extends_extends c.in_ok-domain.ensures.extends c.in_ok-codomain.ensures.extends) c.in_ok-tree.ensures.extends

pub returns : goal.returns
returns c = extends_extends (extends_extends c.in_ok-domain.ensures.extends c.in_ok-codomain.ensures.extends) c.in_ok-tree.ensures.extends
