use Rattle.std.proofs.Common.{◌<◌, ◌∙◌, sym, ap, refl, subst, length}
use Rattle.std.specs.Prelude.{slice_index}
use Rattle.trees.specs.Language.{Ctx}
use Rattle.trees.specs.Things.{AContext}
use Rattle.book.specs.Shown.{book_means}
use Rattle.recipe_runner.proofs.BuildLaws.{claim-field}
use Rattle.kan_tests.proofs.TestLaws.{first-says}
use Rattle.kan_tests.proofs.calls.context_of.Goals as goal

pub bounds-nodes-0 : goal.bounds-nodes-0
bounds-nodes-0 c = (first-says c.args.book.now c.args.nodes.now c.requires.0 c.requires.1 c.requires.2).some

pub conclusion-requires : goal.conclusion-requires
conclusion-requires c = (first-says c.args.book.now c.args.nodes.now c.requires.0 c.requires.1 c.requires.2).there

pub bounds-as_slice-0 : goal.bounds-as_slice-0
bounds-as_slice-0 c =
    let b = c.args.book.now in
    let G = c.requires.0 in
    let s = first-says b c.args.nodes.now G c.requires.1 c.requires.2 in
    let t = claim-field b c.conclusion.result (Ctx G) 0 (AContext G) (c.conclusion.ensures ∙ s.concludes) refl in
    subst (λ ns. 0 < length ns) (sym (c.as_slice.ensures ∙ c.rows-rows.ensures)) t.within

pub returns : goal.returns
returns c = λ G Js e.
    let b = c.args.book.now in
    let s = first-says b c.args.nodes.now G Js e in
    let t = claim-field b c.conclusion.result (Ctx G) 0 (AContext G) (c.conclusion.ensures ∙ s.concludes) refl in
    ap (λ ns. book_means b (slice_index ns 0)) (c.as_slice.ensures ∙ c.rows-rows.ensures) ∙ t.is
