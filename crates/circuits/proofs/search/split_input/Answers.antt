use Rattle.std.proofs.Common.{◌≡◌, ◌+◌, ◌*◌, ◌^◌, true, not, IsTrue, ◌⊎◌, inl, inr, ◌∙◌, ap, arith}
use Rattle.std.proofs.lemmas.Bool.{cases_Bool}
use Rattle.circuits.specs.declared.gates.Wire.{Wire}
use Rattle.circuits.specs.Circuits.{Labels, wire_truth}
use Rattle.circuits.specs.Branches.{Fits, Adds, weight}
use Rattle.circuits.proofs.SpreadLaws.{IsSame, same_fits, same_weight, adds_both, adds_wider, power_le}
use Rattle.circuits.proofs.search.split_input.Goals as goal

-- an input is false or true
either : (w : Labels) (input : Wire) (nx : Wire) → wire_truth w nx ≡ not (wire_truth w input) → IsTrue (wire_truth w input) ⊎ IsTrue (wire_truth w nx)
either w x nx e = elim (cases_Bool (wire_truth w x)) [ inl t ↦ inl t | inr f ↦ inr (e ∙ ap not f) ]

pub returns : goal.returns
returns c =
    let gates = c.args.gates.now in
    let b = c.args.branch in
    let other = c.in_ok-other.other in
    let x : Wire = record { gate = c.args.input; negated = true } in
    let nx = c.negation.result in
    let same : IsSame b other = record { known = c.in_ok-other.ensures.known; wanted = c.in_ok-other.ensures.wanted; unsettled = c.in_ok-other.ensures.unsettled } in
    let Q : Labels → Type 0 = λ w. Fits w other × IsTrue (wire_truth w x) in
    let R : Labels → Type 0 = λ w. Fits w b × IsTrue (wire_truth w nx) in
    let S : Labels → Type 0 = λ w. Fits w b in
    let old = c.args.branches.now.items in
    let mid = c.push_fixed.new.branches.items in
    let new = c.push_fixed-2.new.branches.items in
    let both : Adds gates S (3 ^ weight other + 3 ^ weight b) old new =
    adds_both gates Q R S (3 ^ weight other) (3 ^ weight b) old mid new c.in_ok-push_fixed.ensures c.in_ok-push_fixed-2.ensures
    (λ w o f. elim (either w x nx (c.negation.ensures.truth w)) [ inl a ↦ inl (same_fits w b other same f, a) | inr a ↦ inr (f, a) ])
    in
    let e = same_weight b other same in
    let p = power_le (weight other) (weight b) (omega arith) in
    adds_wider gates S S (3 ^ weight other + 3 ^ weight b) (2 * 3 ^ weight b) old new both (omega arith) (λ w o s. s)
