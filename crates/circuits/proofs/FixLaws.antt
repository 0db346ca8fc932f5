-- What a branch says where one more gate is fixed.
use Rattle.std.proofs.Common.{◌≡◌, ◌<◌, ◌≤◌, ◌+◌, ◌*◌, ℕ, zero, suc, Bool, true, false, not, cond, IsTrue, List, [], ◌∷◌, ◌++◌, length, length-append, Option, Some, None, ◌⊎◌, inl, inr, refl, sym, ◌∙◌, ap, set, get_or, arith, length-set}
use Rattle.std.specs.List.{All, slice_get}
use Rattle.std.proofs.lemmas.Bool.{and_parts}
use Rattle.std.proofs.lemmas.List.Elements.{All-same, All-push}
use Rattle.std.proofs.lemmas.Option.{slice_get-get_or, slice_get_read}
use Rattle.circuits.specs.declared.gates.Gate.{Gate}
use Rattle.circuits.specs.declared.gates.Gate.TheVariants as gate
use Rattle.circuits.specs.declared.gates.Wire.{Wire}
use Rattle.circuits.specs.declared.branch.Branch.{Branch}
use Rattle.circuits.specs.Circuits.{Labels, wire_truth, AreTrue, Obeys, AreOrdered, IsIn, IsAsGate}
use Rattle.circuits.specs.Branches.{Fits, IsWithin, unknown, weight}

pub set_cases : {X : Type 0} (xs : List X) (k : ℕ) (v : X) (j : ℕ) (y : X) → slice_get (set xs k v) j ≡ Some y → (slice_get xs j ≡ Some y) ⊎ ((j ≡ k) × (v ≡ y))
set_cases [] k v j y h = inl h
set_cases (x ∷ xs) zero v zero y h = inr (refl, cc)
set_cases (x ∷ xs) zero v (suc j) y h = inl h
set_cases (x ∷ xs) (suc k) v zero y h = inl h
set_cases (x ∷ xs) (suc k) v (suc j) y h =
    elim (set_cases xs k v j y h) [ inl p ↦ inl p | inr p ↦ inr (ap suc p.0, p.1) ]

pub unknown_set : (xs : List (Option Bool)) (k : ℕ) (t : Bool) → slice_get xs k ≡ Some None → 1 + unknown (set xs k (Some t)) ≡ unknown xs
unknown_set [] k t h = absurd (cc)
unknown_set (None ∷ xs) zero t h = refl
unknown_set (Some s ∷ xs) zero t h = absurd (cc)
unknown_set (None ∷ xs) (suc k) t h = ap (λ n. 1 + n) (unknown_set xs k t h)
unknown_set (Some s ∷ xs) (suc k) t h = unknown_set xs k t h

of_true : (n t : Bool) → cond n (not t) t ≡ true → t ≡ not n
of_true true true h = sym h
of_true true false h = refl
of_true false true h = refl
of_true false false h = h

-- the truth that a wire which is true gives its gate
pub gate_of_true : (w : Labels) (x : Wire) → IsTrue (wire_truth w x) → w x.gate ≡ not x.negated
gate_of_true w x h = of_true x.negated (w x.gate) h

pub as_gate : (gates : List Gate) (w : Labels) (k : ℕ) (g : Gate) → Obeys gates w → k < length gates → get_or gates k gate.Top ≡ g → IsAsGate w k g
as_gate gates w k g o lt is = o.each k g (slice_get-get_or gates k gate.Top lt ∙ ap Some is)

-- what holds once the gate of a wire is fixed
pub record IsFixed (gates : List Gate) (old : Branch) (x : Wire) (new : Branch) (can : Bool) : Type 0 where
  pub within : IsWithin gates new
  pub fits : (w : Labels) → Obeys gates w → Fits w old → IsTrue (wire_truth w x) → IsTrue can × Fits w new
  pub less : weight new < weight old

-- what else it has to say
pub record Says (gates : List Gate) (old : Branch) (x : Wire) (new : Branch) (can : Bool) : Type 0 where
  pub wanted_in : All (IsIn gates) new.wanted.items
  pub unsettled_in : All (λ g. g < length gates) new.unsettled.items
  pub more : length new.wanted.items + 3 * length new.unsettled.items ≤ length old.wanted.items + 3 * length old.unsettled.items + 4
  pub fits : (w : Labels) → Obeys gates w → Fits w old → w x.gate ≡ not x.negated → IsTrue can × AreTrue w new.wanted.items × All (λ g. w g ≡ false) new.unsettled.items

pub fixed : (gates : List Gate) (old : Branch) (x : Wire) (new : Branch) (can : Bool) → IsWithin gates old → new.known.items ≡ set old.known.items x.gate (Some (not x.negated)) → slice_get old.known.items x.gate ≡ Some None → Says gates old x new can → IsFixed gates old x new can
fixed gates old x new can within is was s = record {
  within = record {
    known = ap length is ∙ length-set old.known.items x.gate (Some (not x.negated)) ∙ within.known;
    wanted = s.wanted_in;
    unsettled = s.unsettled_in;
  };
  fits = λ w o f h.
      let at = gate_of_true w x h in
      let says = s.fits w o f at in (
        says.0,
        record {
          known = λ j t k. elim (set_cases old.known.items x.gate (Some (not x.negated)) j (Some t) (rw is at k)) [ inl p ↦ f.known j t p | inr p ↦ cc ];
          wanted = says.1;
          unsettled = says.2;
        },
      );
  less =
      let u = unknown_set old.known.items x.gate (not x.negated) was in
      let e = ap unknown is in
      let m = s.more in omega arith;
}

pub was_none : (xs : List (Option Bool)) (i : ℕ) (x : Option Bool) → i < length xs → x ≡ get_or xs i x → x ≡ None → slice_get xs i ≡ Some None
was_none xs i x lt e is = slice_get_read xs (length xs) i x refl lt e ∙ ap Some is

pub kids_in : (gates : List Gate) (k : ℕ) (l r : Wire) → AreOrdered gates → k < length gates → get_or gates k gate.Top ≡ gate.Both l r → IsIn gates l × IsIn gates r
kids_in gates k l r o lt is =
    let over = o.each k (gate.Both l r) (slice_get-get_or gates k gate.Top lt ∙ ap Some is) in
    let left = over.0 in let right = over.1 in
    (omega arith, omega arith)

pub fixed_alone : (gates : List Gate) (old : Branch) (x : Wire) (new : Branch) (can : Bool) → IsWithin gates old → new.known.items ≡ set old.known.items x.gate (Some (not x.negated)) → slice_get old.known.items x.gate ≡ Some None → new.wanted.items ≡ old.wanted.items → new.unsettled.items ≡ old.unsettled.items → ((w : Labels) → Obeys gates w → w x.gate ≡ not x.negated → IsTrue can) → IsFixed gates old x new can
fixed_alone gates old x new can within is was wanted unsettled says =
    fixed gates old x new can within is was record {
      wanted_in = All-same (IsIn gates) new.wanted.items old.wanted.items wanted within.wanted;
      unsettled_in = All-same (λ g. g < length gates) new.unsettled.items old.unsettled.items unsettled within.unsettled;
      more = let e = ap length wanted in let u = ap length unsettled in omega arith;
      fits = λ w o f at. (
        says w o at,
        All-same (λ y. IsTrue (wire_truth w y)) new.wanted.items old.wanted.items wanted f.wanted,
        All-same (λ g. w g ≡ false) new.unsettled.items old.unsettled.items unsettled f.unsettled,
      );
    }

pub fixed_true : (gates : List Gate) (old : Branch) (x : Wire) (new : Branch) (l r : Wire) (pushed : List Wire) → AreOrdered gates → IsWithin gates old → new.known.items ≡ set old.known.items x.gate (Some (not x.negated)) → slice_get old.known.items x.gate ≡ Some None → x.gate < length gates → get_or gates x.gate gate.Top ≡ gate.Both l r → not x.negated ≡ true → pushed ≡ old.wanted.items ++ l ∷ [] → new.wanted.items ≡ pushed ++ r ∷ [] → new.unsettled.items ≡ old.unsettled.items → IsFixed gates old x new true
fixed_true gates old x new l r pushed ordered within is was lt at truth first second unsettled =
    let kids = kids_in gates x.gate l r ordered lt at in
    let all : new.wanted.items ≡ (old.wanted.items ++ l ∷ []) ++ r ∷ [] = second ∙ ap (λ ys. ys ++ r ∷ []) first in
    fixed gates old x new true within is was record {
      wanted_in =
          All-same (IsIn gates) new.wanted.items ((old.wanted.items ++ l ∷ []) ++ r ∷ []) all
          (All-push (IsIn gates) (old.wanted.items ++ l ∷ []) r (All-push (IsIn gates) old.wanted.items l within.wanted kids.0) kids.1);
      unsettled_in = All-same (λ g. g < length gates) new.unsettled.items old.unsettled.items unsettled within.unsettled;
      more =
          let e = ap length first in let e2 = ap length second in let u = ap length unsettled in
          omega (arith, length-append old.wanted.items (l ∷ []), length-append pushed (r ∷ []));
      fits = λ w o f k.
          let P : Wire → Type 0 = λ y. IsTrue (wire_truth w y) in
          let both = and_parts (wire_truth w l) (wire_truth w r) (sym (as_gate gates w x.gate (gate.Both l r) o lt at) ∙ k ∙ truth) in (
            refl,
            All-same P new.wanted.items ((old.wanted.items ++ l ∷ []) ++ r ∷ []) all (All-push P (old.wanted.items ++ l ∷ []) r (All-push P old.wanted.items l f.wanted both.0) both.1),
            All-same (λ g. w g ≡ false) new.unsettled.items old.unsettled.items unsettled f.unsettled,
          );
    }

pub fixed_false : (gates : List Gate) (old : Branch) (x : Wire) (new : Branch) → IsWithin gates old → new.known.items ≡ set old.known.items x.gate (Some (not x.negated)) → slice_get old.known.items x.gate ≡ Some None → x.gate < length gates → not x.negated ≡ false → new.wanted.items ≡ old.wanted.items → new.unsettled.items ≡ old.unsettled.items ++ x.gate ∷ [] → IsFixed gates old x new true
fixed_false gates old x new within is was lt truth wanted unsettled =
    fixed gates old x new true within is was record {
      wanted_in = All-same (IsIn gates) new.wanted.items old.wanted.items wanted within.wanted;
      unsettled_in =
          let P : ℕ → Type 0 = λ g. g < length gates in
          All-same P new.unsettled.items (old.unsettled.items ++ x.gate ∷ []) unsettled (All-push P old.unsettled.items x.gate within.unsettled lt);
      more =
          let e = ap length wanted in let u = ap length unsettled in
          omega (arith, length-append old.unsettled.items (x.gate ∷ []));
      fits = λ w o f k.
          let P : ℕ → Type 0 = λ g. w g ≡ false in (
            refl,
            All-same (λ y. IsTrue (wire_truth w y)) new.wanted.items old.wanted.items wanted f.wanted,
            All-same P new.unsettled.items (old.unsettled.items ++ x.gate ∷ []) unsettled (All-push P old.unsettled.items x.gate f.unsettled (k ∙ truth)),
          );
    }
