-- Names that the faces of a context fix, one after another.
use Rattle.std.proofs.Common.{◌≡◌, ◌<◌, ◌≤◌, ◌+◌, ◌⊎◌, inl, inr, ◌↔◌, ℕ, Bool, true, false, ◌||◌, List, [], ◌∷◌, ◌++◌, refl, sym, ◌∙◌, ap, subst, arith, IsTrue, nat_eq}
use Rattle.std.proofs.lemmas.Bool.{cases_lt, eq-eqb, eqb-true, true≢false}
use Rattle.trees.specs.Judgements.{Context}
use Rattle.side_conditions.specs.Levels.{count_indices}
use Rattle.side_conditions.proofs.AgreementLaws.{name_within}
use Rattle.fixed_names.specs.Fixed.{Fixed, fix, none_fixed}
use Rattle.normality.specs.Worlds.{fix_each, fix_more}
use Rattle.evidence.specs.Contexts.{FixesExactly, IsFixed}

fix_last : (ks : List ℕ) (k : ℕ) (z : Fixed) → fix_more (ks ++ k ∷ []) z ≡ fix k (fix_more ks z)
fix_last [] k z = refl
fix_last (x ∷ ks) k z = fix_last ks k (fix x z)

-- of the names below an index, these are all that are fixed
abbrev pub FixesBelow : Context → ℕ → List ℕ → Type 0
FixesBelow G n ks = (k : ℕ) → IsTrue (fix_each ks k) ↔ ((k < n) × IsFixed G k)

pub fixes_none : (G : Context) → FixesBelow G 0 []
fixes_none G k = (λ t. absurd (true≢false (sym t)), λ is. absurd (omega (arith, is.0)))

or_true : (x y : Bool) → IsTrue (x || y) → IsTrue x ⊎ IsTrue y
or_true true y t = inl refl
or_true false y t = inr t

or_left : (x y : Bool) → IsTrue x → IsTrue (x || y)
or_left x y e = ap (λ b. b || y) e

or_right : (x y : Bool) → IsTrue y → IsTrue (x || y)
or_right true y e = refl
or_right false y e = e

-- one more is fixed
pub fixes_more : (G : Context) (n : ℕ) (ks new : List ℕ) → new ≡ ks ++ n ∷ [] → IsFixed G n → FixesBelow G n ks → FixesBelow G (n + 1) new
fixes_more G n ks new is here below k =
    let same : fix_each new k ≡ (nat_eq k n || fix_each ks k) = ap (λ xs. fix_each xs k) is ∙ ap (λ (z : Fixed). z k) (fix_last ks n none_fixed) in (
      λ t. elim (or_true (nat_eq k n) (fix_each ks k) (sym same ∙ t)) [
        | inl e ↦ let at : k ≡ n = eqb-true k n e in (omega (arith, at), subst (IsFixed G) (sym at) here)
        | inr e ↦ let b = (below k).0 e in (omega (arith, b.0), b.1)
      ],
      λ fixed. same ∙ elim (cases_lt k n) [
        | inl less ↦ or_right (nat_eq k n) (fix_each ks k) ((below k).1 (less, fixed.1))
        | inr more ↦ or_left (nat_eq k n) (fix_each ks k) (eq-eqb k n (omega (arith, more, fixed.0)))
      ],
    )

-- or is not
pub fixes_same : (G : Context) (n : ℕ) (ks : List ℕ) → (IsFixed G n → ⊥) → FixesBelow G n ks → FixesBelow G (n + 1) ks
fixes_same G n ks not_here below k = (
  λ t. let b = (below k).0 t in (omega (arith, b.0), b.1),
  λ fixed. elim (cases_lt k n) [
    | inl less ↦ (below k).1 (less, fixed.1)
    | inr more ↦ let at : k ≡ n = omega (arith, more, fixed.0) in absurd (not_here (subst (IsFixed G) at fixed.1))
  ],
)

-- after all indices
pub fixes_all : (G : Context) (n : ℕ) (ks : List ℕ) → count_indices G ≤ n → FixesBelow G n ks → FixesExactly G ks
fixes_all G n ks all below k = (
  λ t. ((below k).0 t).1,
  λ fixed. (below k).1 (let within = name_within G k fixed.0 in omega (arith, within, all), fixed),
)
