use Rattle.std.proofs.Common.{◌≡◌, ◌+◌, ◌*◌, ◌^◌, false, not, ◌&&◌, IsTrue, ◌⊎◌, inl, inr, [], ◌∷◌, length, get_or, sym, ◌∙◌, ap, arith}
use Rattle.std.proofs.lemmas.Bool.{cases_Bool, and_cases, both_ways}
use Rattle.std.proofs.lemmas.List.Elements.{All-nil, All-cons}
use Rattle.circuits.specs.declared.gates.Gate.TheVariants as gate
use Rattle.circuits.specs.declared.gates.Wire.{Wire}
use Rattle.circuits.specs.Circuits.{Labels, wire_truth, AreTrue, IsIn}
use Rattle.circuits.specs.Branches.{Fits, Adds, weight}
use Rattle.circuits.proofs.FixLaws.{as_gate, kids_in}
use Rattle.circuits.proofs.SpreadLaws.{IsSame, same_within, same_fits, same_weight, adds_both, adds_wider, power_le}
use Rattle.circuits.proofs.search.split_gate.Goals as goal

-- of two wires that are not both true, the left is false or the right alone is
which : (w : Labels) (l r nl nr : Wire) → wire_truth w nl ≡ not (wire_truth w l) → wire_truth w nr ≡ not (wire_truth w r) → (wire_truth w l && wire_truth w r) ≡ false → AreTrue w (l ∷ nr ∷ []) ⊎ AreTrue w (nl ∷ [])
which w l r nl nr el er h =
    let P : Wire → Type 0 = λ x. IsTrue (wire_truth w x) in
    elim (cases_Bool (wire_truth w l)) [
      | inl so ↦
          let other : wire_truth w r ≡ false =
          elim (and_cases (wire_truth w l) (wire_truth w r) h) [ inl f ↦ absurd (both_ways (wire_truth w l) f so) | inr f ↦ f ]
          in
          inl (All-cons P l (nr ∷ []) so (All-cons P nr [] (er ∙ ap not other) (All-nil P)))
      | inr f ↦ inr (All-cons P nl [] (el ∙ ap not f) (All-nil P))
    ]

pub returns-in_ok-push_wanting-in-Both-2 : goal.returns-in_ok-push_wanting-in-Both-2
returns-in_ok-push_wanting-in-Both-2 c =
    let gates = c.args.gates.now in
    let b = c.args.branch in
    let other = c.in_ok-other-in-Both.other in
    let l = c.in-Both.left in
    let r = c.in-Both.right in
    let nr = c.negation.result in
    let nl = c.negation-in-Both.result in
    let at : get_or gates c.args.gate gate.Top ≡ gate.Both l r = cc in
    let kids = kids_in gates c.args.gate l r c.requires.ordered c.requires.gate at in
    let same : IsSame b other = record { known = c.in_ok-other-in-Both.ensures.known; wanted = c.in_ok-other-in-Both.ensures.wanted; unsettled = c.in_ok-other-in-Both.ensures.unsettled } in
    let In : Wire → Type 0 = IsIn gates in
    let left_in = kids.0 in
    let right_in = kids.1 in
    let right_is = c.negation.ensures.gate in
    let left_is = c.negation-in-Both.ensures.gate in
    let both_in = All-cons In l (nr ∷ []) left_in (All-cons In nr [] (omega arith) (All-nil In)) in
    let one_in = All-cons In nl [] (omega arith) (All-nil In) in
    let first = c.in_ok-push_wanting-in-Both.ensures gates (same_within gates b other same c.requires.within) both_in in
    let second = c.in_ok-push_wanting-in-Both-2.ensures gates c.requires.within one_in in
    let Q : Labels → Type 0 = λ w. Fits w other × AreTrue w (l ∷ nr ∷ []) in
    let R : Labels → Type 0 = λ w. Fits w b × AreTrue w (nl ∷ []) in
    let S : Labels → Type 0 = λ w. Fits w b × (w c.args.gate ≡ false) in
    let mid = c.push_wanting.new.branches.items in
    let new = c.push_wanting-in-Both.new.branches.items in
    let old = c.args.branches.now.items in
    let both : Adds gates S (3 ^ (weight other + 3) + 3 ^ (weight b + 2)) old new =
    adds_both gates Q R S (3 ^ (weight other + 3)) (3 ^ (weight b + 2)) old mid new
    (adds_wider gates Q Q (3 ^ (weight other + length (l ∷ nr ∷ []) + 1)) (3 ^ (weight other + 3)) old mid first (power_le (weight other + length (l ∷ nr ∷ []) + 1) (weight other + 3) (omega arith)) (λ w o q. q))
    (adds_wider gates R R (3 ^ (weight b + length (nl ∷ []) + 1)) (3 ^ (weight b + 2)) mid new second (power_le (weight b + length (nl ∷ []) + 1) (weight b + 2) (omega arith)) (λ w o q. q))
    (λ w o q.
    elim (which w l r nl nr (c.negation-in-Both.ensures.truth w) (c.negation.ensures.truth w) (sym (as_gate gates w c.args.gate (gate.Both l r) o c.requires.gate at) ∙ q.1)) [
      | inl a ↦ inl (same_fits w b other same q.0, a)
      | inr a ↦ inr (q.0, a)
    ])
    in
    let e = same_weight b other same in
    let p = power_le (weight other + 3) (weight b + 3) (omega arith) in
    let q = power_le (weight b + 2) (weight b + 3) (omega arith) in
    adds_wider gates S S (3 ^ (weight other + 3) + 3 ^ (weight b + 2)) (2 * 3 ^ (weight b + 3)) old new both (omega arith) (λ w o s. s)

pub returns-in_ok-push_wanting-in-Top : goal.returns-in_ok-push_wanting-in-Top
returns-in_ok-push_wanting-in-Top c =
    let gates = c.args.gates.now in
    let b = c.args.branch in
    let Q : Labels → Type 0 = λ w. Fits w b × AreTrue w [] in
    let S : Labels → Type 0 = λ w. Fits w b × (w c.args.gate ≡ false) in
    let n = weight b + length {A = Wire} [] + 1 in
    let p = power_le n (weight b + 3) (omega arith) in
    adds_wider gates Q S (3 ^ n) (2 * 3 ^ (weight b + 3)) c.args.branches.now.items c.push_wanting-in-Top.new.branches.items
    (c.in_ok-push_wanting-in-Top.ensures gates c.requires.within (All-nil (IsIn gates))) (omega arith)
    (λ w o q. let P : Wire → Type 0 = λ x. IsTrue (wire_truth w x) in (q.0, All-nil P))
