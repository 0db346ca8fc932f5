use Rattle.std.specs.Prelude.{slice_index_or}
use Rattle.std.proofs.Common.{[], ◌∷◌, ◌∙◌, sym, ap, subst, length, arith, Some, ◌≡◌}
use Rattle.trees.specs.Things.{meanings}
use Rattle.book.specs.Shown.{book_concludes}
use Rattle.recipes.specs.Derivations.{conclusions_at}
use Rattle.typed_nodes.proofs.FewerParts.{given-length}
use Rattle.typed_nodes.proofs.CallLaws.{first_two_numbers}
use Rattle.typed_nodes.proofs.calls.derive_two.Goals as goal

pub bounds-as_slice-0 : goal.bounds-as_slice-0
bounds-as_slice-0 c =
    let a = c.args in
    let (s, things, is, call) = c.requires.may in
    let said = c.in_ok-nodes.ensures.gives s is things call in
    let count = given-length s a.book.now c.derived.new.book a.rows.now a.gives.now a.parts.now a.premises.now c.in_ok-nodes.nodes things is call said in
    let same = ap length c.as_slice.ensures.value in
    let one = c.requires.two in
    omega (arith, count, same, one)

pub returns-clause-gives : goal.returns-clause-gives
returns-clause-gives c = λ s is things call.
    let a = c.args in
    let said = c.in_ok-nodes.ensures.gives s is things call in
    let count = given-length s a.book.now c.derived.new.book a.rows.now a.gives.now a.parts.now a.premises.now c.in_ok-nodes.nodes things is call said in
    let f = book_concludes c.derived.new.book in
    let there = subst (λ ks. meanings f ks ≡ Some (conclusions_at s things)) (sym c.as_slice.ensures.value) said in
    let same = c.as_slice-2.ensures.value ∙ sym c.as_slice.ensures.value in
    let both = first_two_numbers f c.as_slice.result.now (conclusions_at s things) (ap length c.as_slice.ensures.value ∙ count ∙ c.requires.two) there in
    subst (λ ks. meanings f (slice_index_or c.as_slice.result.now 0 0 ∷ slice_index_or ks 1 0 ∷ []) ≡ Some (conclusions_at s things)) (sym same) both

pub bounds-as_slice-1 : goal.bounds-as_slice-1
bounds-as_slice-1 c =
    let a = c.args in
    let (s, things, is, call) = c.requires.may in
    let said = c.in_ok-nodes.ensures.gives s is things call in
    let count = given-length s a.book.now c.derived.new.book a.rows.now a.gives.now a.parts.now a.premises.now c.in_ok-nodes.nodes things is call said in
    let same = ap length c.as_slice-2.ensures.value in
    let two = c.requires.two in
    omega (arith, count, same, two)
