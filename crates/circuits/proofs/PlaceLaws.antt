-- Gates that are put behind others.
use Rattle.std.proofs.Common.{◌≡◌, ◌<◌, ℕ, Bool, true, false, not, ◌&&◌, ◌||◌, List, [], ◌∷◌, ◌++◌, inl, inr, length, length-append, Some, refl, sym, ◌∙◌, ap, subst, arith}
use Rattle.std.specs.List.{slice_get}
use Rattle.std.proofs.lemmas.Bool.{cases_lt}
use Rattle.std.proofs.lemmas.List.{append-nil, get_or_append_left, get_or_push}
use Rattle.std.proofs.lemmas.Option.{slice_get-get_or, slice_get_within}
use Rattle.circuits.specs.declared.gates.Gate.{Gate}
use Rattle.circuits.specs.declared.gates.Gate.TheVariants as gate
use Rattle.circuits.specs.declared.gates.Wire.{Wire}
use Rattle.circuits.specs.Circuits.{Labels, wire_truth, Obeys, AreOrdered, IsIn, IsOver, IsGrown, IsPlaced, IsAsGate}

pub get_before : (gates : List Gate) (g : Gate) (k : ℕ) → k < length gates → slice_get (gates ++ g ∷ []) k ≡ slice_get gates k
get_before gates g k lt =
    let more : k < length (gates ++ g ∷ []) = omega (arith, length-append gates (g ∷ [])) in
    slice_get-get_or (gates ++ g ∷ []) k gate.Top more ∙ ap Some (get_or_append_left gates (g ∷ []) gate.Top k lt) ∙ sym (slice_get-get_or gates k gate.Top lt)

pub get_last : (gates : List Gate) (g : Gate) → slice_get (gates ++ g ∷ []) (length gates) ≡ Some g
get_last gates g =
    let more : length gates < length (gates ++ g ∷ []) = omega (arith, length-append gates (g ∷ [])) in
    slice_get-get_or (gates ++ g ∷ []) (length gates) gate.Top more ∙ ap Some (get_or_push gates g gate.Top (length gates) refl)

pub ordered_push : (gates new : List Gate) (g : Gate) → new ≡ gates ++ g ∷ [] → AreOrdered gates → IsOver (length gates) g → AreOrdered new
ordered_push gates new g is o over =
    let P : List Gate → Type 0 = AreOrdered in
    subst P (sym is) record {
      each = λ k h at.
          let within = slice_get_within (gates ++ g ∷ []) k h at in
          elim (cases_lt k (length gates)) [
            | inl l ↦ o.each k h (sym (get_before gates g k l) ∙ at)
            | inr l ↦
                let last : k ≡ length gates = omega (arith, length-append gates (g ∷ [])) in
                let there : slice_get (gates ++ g ∷ []) k ≡ Some g = ap (slice_get (gates ++ g ∷ [])) last ∙ get_last gates g in
                let same : g ≡ h = cc in
                subst (λ x. IsOver k x) same (subst (λ n. IsOver n g) (sym last) over)
          ];
    }

pub ordered_none : (gates : List Gate) → gates ≡ [] → AreOrdered gates
ordered_none gates is =
    let P : List Gate → Type 0 = AreOrdered in
    subst P (sym is) record { each = λ k g at. absurd (cc) }

pub grown_push : (gates new : List Gate) (g : Gate) → new ≡ gates ++ g ∷ [] → IsGrown gates new
grown_push gates new g is = record { more = g ∷ []; grown = is }

pub grown_same : (gates : List Gate) → IsGrown gates gates
grown_same gates = record { more = []; grown = sym (append-nil gates) }

pub placed_push : (gates new : List Gate) (g : Gate) (x : Wire) → new ≡ gates ++ g ∷ [] → x.gate ≡ length gates → x.negated ≡ false → IsPlaced new g x
placed_push gates new g x is at plain = record {
  place = ap (λ gs. slice_get gs x.gate) is ∙ ap (slice_get (gates ++ g ∷ [])) at ∙ get_last gates g;
  plain = plain;
}

pub placed_in : (gates : List Gate) (g : Gate) (x : Wire) → IsPlaced gates g x → IsIn gates x
placed_in gates g x p = slice_get_within gates x.gate g p.place

plain_truth : (w : Labels) (x : Wire) → x.negated ≡ false → wire_truth w x ≡ w x.gate
plain_truth w x plain = rw plain

pub placed_truth : (gates : List Gate) (g : Gate) (x : Wire) → IsPlaced gates g x → (w : Labels) → Obeys gates w → IsAsGate w x.gate g
placed_truth gates g x p w o = o.each x.gate g p.place

pub top_truth : (gates : List Gate) (x : Wire) → IsPlaced gates gate.Top x → (w : Labels) → Obeys gates w → wire_truth w x ≡ true
top_truth gates x p w o = plain_truth w x p.plain ∙ o.each x.gate gate.Top p.place

pub both_truth : (gates : List Gate) (x l r : Wire) → IsPlaced gates (gate.Both l r) x → (w : Labels) → Obeys gates w → wire_truth w x ≡ (wire_truth w l && wire_truth w r)
both_truth gates x l r p w o = plain_truth w x p.plain ∙ o.each x.gate (gate.Both l r) p.place

de_morgan : (a b : Bool) → not (not a && not b) ≡ (a || b)
de_morgan true b = refl
de_morgan false true = refl
de_morgan false false = refl

pub either_truth : (t a b na nb x : Bool) → t ≡ not x → x ≡ (na && nb) → na ≡ not a → nb ≡ not b → t ≡ (a || b)
either_truth t a b na nb x e f g h = e ∙ ap not (f ∙ ap (λ y. y && nb) g ∙ ap (λ y. not a && y) h) ∙ de_morgan a b
