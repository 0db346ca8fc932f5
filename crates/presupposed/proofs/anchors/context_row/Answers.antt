use Rattle.std.proofs.Common.{◌<◌, ◌∙◌, refl, sym, ap, subst, length}
use Rattle.std.specs.Prelude.{slice_index}
use Rattle.trees.specs.Language.{Tm}
use Rattle.trees.specs.Things.{AContext}
use Rattle.book.specs.Shown.{book_means}
use Rattle.recipe_runner.proofs.BuildLaws.{claim-field}
use Rattle.typed_nodes.proofs.TypeLaws.{is_node}
use Rattle.presupposed.proofs.anchors.context_row.Goals as goal

pub conclusion-requires : goal.conclusion-requires
conclusion-requires c =
    let (G, a, A, says) = c.requires in
    is_node c.args.book.now c.args.typing (Tm G a A) says

pub bounds-as_slice-0 : goal.bounds-as_slice-0
bounds-as_slice-0 c =
    let (G, a, A, says) = c.requires in
    let there = claim-field c.args.book.now c.conclusion.result (Tm G a A) 0 (AContext G) (c.conclusion.ensures ∙ says) refl in
    subst (λ ns. 0 < length ns) (sym (c.as_slice.ensures ∙ c.rows-rows.ensures)) there.within

pub returns : goal.returns
returns c = λ G a A says.
    let there = claim-field c.args.book.now c.conclusion.result (Tm G a A) 0 (AContext G) (c.conclusion.ensures ∙ says) refl in
    ap (λ ns. book_means c.args.book.now (slice_index ns 0)) (c.as_slice.ensures ∙ c.rows-rows.ensures) ∙ there.is
