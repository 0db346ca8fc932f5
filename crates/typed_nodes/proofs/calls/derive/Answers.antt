use Rattle.std.proofs.Common.{◌∙◌, sym, ap, subst, length, arith, Some, ◌≡◌}
use Rattle.trees.specs.Things.{meanings}
use Rattle.book.specs.Shown.{book_concludes}
use Rattle.recipes.specs.Derivations.{conclusions_at}
use Rattle.typed_nodes.proofs.FewerParts.{given-length}
use Rattle.typed_nodes.proofs.CallLaws.{first_number}
use Rattle.typed_nodes.proofs.calls.derive.Goals as goal

pub bounds-as_slice-0 : goal.bounds-as_slice-0
bounds-as_slice-0 c =
    let a = c.args in
    let (s, things, is, call) = c.requires.may in
    let said = c.in_ok-nodes.ensures.gives s is things call in
    let count = given-length s a.book.now c.derived.new.book a.rows.now a.gives.now a.parts.now a.premises.now c.in_ok-nodes.nodes things is call said in
    let same = ap length c.as_slice.ensures.value in
    let one = c.requires.one in
    omega (arith, count, same, one)

pub returns-clause-gives : goal.returns-clause-gives
returns-clause-gives c = λ s is things call.
    let a = c.args in
    let said = c.in_ok-nodes.ensures.gives s is things call in
    let count = given-length s a.book.now c.derived.new.book a.rows.now a.gives.now a.parts.now a.premises.now c.in_ok-nodes.nodes things is call said in
    let f = book_concludes c.derived.new.book in
    let there = subst (λ ks. meanings f ks ≡ Some (conclusions_at s things)) (sym c.as_slice.ensures.value) said in
    first_number f c.as_slice.result.now (conclusions_at s things) (ap length c.as_slice.ensures.value ∙ count ∙ c.requires.one) there
