-- Of modules one is the first that is refused, or none is.
use Rattle.std.proofs.Common.{◌≡◌, ◌≢◌, ◌<◌, ℕ, zero, suc, List, [], ◌∷◌, take, length, get_or, refl, sym, ◌∙◌, ap, subst, arith, Option, Some, None, inl, inr}
use Rattle.std.proofs.lemmas.Bool.{cases_lt}
use Rattle.translation.specs.declared.fault.ScopeFault.{ScopeFault}
use Rattle.translation.specs.declared.fault.ScopeFault.TheVariants.{Unbound, Twice, NameKind, GlueSide, Memory}
use Rattle.translation.specs.declared.fault.Cause.{Cause}
use Rattle.translation.specs.declared.fault.Cause.TheVariants as cause
use Rattle.translation.specs.declared.fault.Refusal.{Refusal}
use Rattle.translation.specs.Scopes.{Scope}
use Rattle.translation.specs.Translated.{Translated, Refuses, done}
use Rattle.translation.specs.Names.{Word}
use Rattle.module_texts.specs.Texts.{Text}
use Rattle.linking.specs.Modules.{Known, and_known, meanings_after, meanings, AreFine, RefusedFirst}

-- faults of scope

-- a fault that the text decides
abbrev pub IsOfText : ScopeFault → Type 0
IsOfText Memory = ⊥
IsOfText f = Unit {0}

refused : (f : ScopeFault) (r : Option Refusal) → Refuses f r → IsOfText f → r ≢ None
refused (Unbound p) r e k = λ none. cc
refused (Twice p) r e k = λ none. cc
refused (NameKind p) r e k = λ none. cc
refused (GlueSide p) r e k = λ none. cc
refused Memory r e k = absurd k

place_of : Option Refusal → ℕ
place_of None = 0
place_of (Some r) = r.at

cause_in : Option Refusal → Cause
cause_in None = cause.Unbound
cause_in (Some r) = r.cause

one_refused : (f g : ScopeFault) (r : Option Refusal) → Refuses f r → Refuses g r → IsOfText f → IsOfText g → f ≡ g
unfolding place_of cause_in
one_refused (Unbound p) (Unbound q) r a b k l = ap Unbound (sym (ap place_of a) ∙ ap place_of b)
one_refused (Unbound p) (Twice q) r a b k l = absurd (let e = sym (ap cause_in a) ∙ ap cause_in b in cc)
one_refused (Unbound p) (NameKind q) r a b k l = absurd (let e = sym (ap cause_in a) ∙ ap cause_in b in cc)
one_refused (Unbound p) (GlueSide q) r a b k l = absurd (let e = sym (ap cause_in a) ∙ ap cause_in b in cc)
one_refused (Twice p) (Unbound q) r a b k l = absurd (let e = sym (ap cause_in a) ∙ ap cause_in b in cc)
one_refused (Twice p) (Twice q) r a b k l = ap Twice (sym (ap place_of a) ∙ ap place_of b)
one_refused (Twice p) (NameKind q) r a b k l = absurd (let e = sym (ap cause_in a) ∙ ap cause_in b in cc)
one_refused (Twice p) (GlueSide q) r a b k l = absurd (let e = sym (ap cause_in a) ∙ ap cause_in b in cc)
one_refused (NameKind p) (Unbound q) r a b k l = absurd (let e = sym (ap cause_in a) ∙ ap cause_in b in cc)
one_refused (NameKind p) (Twice q) r a b k l = absurd (let e = sym (ap cause_in a) ∙ ap cause_in b in cc)
one_refused (NameKind p) (NameKind q) r a b k l = ap NameKind (sym (ap place_of a) ∙ ap place_of b)
one_refused (NameKind p) (GlueSide q) r a b k l = absurd (let e = sym (ap cause_in a) ∙ ap cause_in b in cc)
one_refused (GlueSide p) (Unbound q) r a b k l = absurd (let e = sym (ap cause_in a) ∙ ap cause_in b in cc)
one_refused (GlueSide p) (Twice q) r a b k l = absurd (let e = sym (ap cause_in a) ∙ ap cause_in b in cc)
one_refused (GlueSide p) (NameKind q) r a b k l = absurd (let e = sym (ap cause_in a) ∙ ap cause_in b in cc)
one_refused (GlueSide p) (GlueSide q) r a b k l = ap GlueSide (sym (ap place_of a) ∙ ap place_of b)
one_refused Memory g r a b k l = absurd k
one_refused (Unbound p) Memory r a b k l = absurd l
one_refused (Twice p) Memory r a b k l = absurd l
one_refused (NameKind p) Memory r a b k l = absurd l
one_refused (GlueSide p) Memory r a b k l = absurd l

abbrev Meaning : Type 0
Meaning = Translated Word (Scope Word)

meanings_long : (known : List Known) (xs : List Text) → length (meanings_after known xs) ≡ length xs
meanings_long known [] = refl
meanings_long known (x ∷ xs) = let h = meanings_long (and_known known x) xs in omega arith

fine_at : (ms : List Meaning) (i : ℕ) (d : Meaning) → AreFine ms → i < length ms → (get_or ms i d).refusal ≡ None
fine_at ms i d fine l = fine i d l

fine_before : (ms : List Meaning) (i n : ℕ) (d : Meaning) → AreFine (take n ms) → i < n → i < length ms → (get_or ms i d).refusal ≡ None
fine_before [] i n d fine l m = absurd (omega arith)
fine_before (m ∷ ms) i zero d fine l k = absurd (omega arith)
fine_before (m ∷ ms) zero (suc n) d fine l k = fine 0 d (omega arith)
fine_before (m ∷ ms) (suc i) (suc n) d fine l k =
    fine_before ms i n d (λ j e less. fine (suc j) e (omega arith)) (omega arith) (omega arith)

-- Where none is refused, no first one is.
pub fine_or_refused : (texts : List Text) (at : ℕ) (f : ScopeFault) → AreFine (meanings texts) → RefusedFirst texts at f → IsOfText f → ⊥
fine_or_refused texts at f fine r k =
    let long = meanings_long [] texts in
    let inside = r.within in
    refused f (get_or (meanings texts) at (done [])).refusal r.refuses k (fine_at (meanings texts) at (done []) fine (omega arith))

not_before : (texts : List Text) (at other : ℕ) (f g : ScopeFault) → RefusedFirst texts at f → RefusedFirst texts other g → IsOfText f → at < other → ⊥
not_before texts at other f g a b k less =
    let long = meanings_long [] texts in
    let inside = a.within in
    refused f (get_or (meanings texts) at (done [])).refusal a.refuses k (fine_before (meanings texts) at other (done []) b.fine less (omega arith))

-- One module is the first that is refused, with one fault.
pub refused_once : (texts : List Text) (at other : ℕ) (f g : ScopeFault) → RefusedFirst texts at f → RefusedFirst texts other g → IsOfText f → IsOfText g → (at ≡ other) × (f ≡ g)
refused_once texts at other f g a b k l =
    let no : at < other → ⊥ = not_before texts at other f g a b k in
    let on : other < at → ⊥ = not_before texts other at g f b a l in
    let is : at ≡ other = elim (cases_lt at other) [
      | inl less ↦ absurd (no less)
      | inr more ↦ elim (cases_lt other at) [ inl less ↦ absurd (on less) | inr less ↦ omega arith ]
    ] in
    (is, one_refused f g (get_or (meanings texts) other (done [])).refusal (subst (λ i. Refuses f (get_or (meanings texts) i (done [])).refusal) is a.refuses) b.refuses k l)
