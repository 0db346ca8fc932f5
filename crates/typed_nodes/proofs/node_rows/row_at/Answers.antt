use Rattle.std.proofs.Common.{◌<◌, ◌∙◌, sym, ap, subst, length}
use Rattle.std.specs.Prelude.{slice_index}
use Rattle.book.specs.Shown.{book_means}
use Rattle.recipe_runner.proofs.BuildLaws.{claim-field}
use Rattle.typed_nodes.proofs.TypeLaws.{is_node}
use Rattle.typed_nodes.proofs.node_rows.row_at.Goals as goal

pub conclusion-requires : goal.conclusion-requires
conclusion-requires c =
    let (J, x, says, field) = c.requires in
    is_node c.args.book.now c.args.node J says

pub bounds-as_slice-place : goal.bounds-as_slice-place
bounds-as_slice-place c =
    let (J, x, says, field) = c.requires in
    let there = claim-field c.args.book.now c.conclusion.result J c.args.place x (c.conclusion.ensures ∙ says) field in
    subst (λ ns. c.args.place < length ns) (sym (c.as_slice.ensures ∙ c.rows-rows.ensures)) there.within

pub returns : goal.returns
returns c = λ J x says field.
    let there = claim-field c.args.book.now c.conclusion.result J c.args.place x (c.conclusion.ensures ∙ says) field in
    ap (λ ns. book_means c.args.book.now (slice_index ns c.args.place)) (c.as_slice.ensures ∙ c.rows-rows.ensures) ∙ there.is
