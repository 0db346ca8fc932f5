-- Each test of the literals of a form is that of some valuation.
use Rattle.std.proofs.Common.{◌≡◌, ℕ, ⊎_elim, Bool, true, false, List, [], ◌∷◌, ◌++◌, refl, sym, ◌∙◌, ap}
use Rattle.std.specs.List.{Contains}
use Rattle.std.proofs.lemmas.Bool.{cases_eq}
use Rattle.std.proofs.lemmas.List.Elements.{Contains-append_left, Contains-append_right}
use Rattle.antichains.specs.Antichains.{some_all, HaveSameTruth}
use Rattle.antichains.proofs.Members.{Contains-none, Contains-cons_cases}
use Rattle.antichains.proofs.Truth.{some_all-agree}
use Rattle.points.specs.Values.{Value, Valuation, value_at, with_value}
use Rattle.points.proofs.Valuations.{with_value_same, with_value_other}
use Rattle.interval.specs.declared.literals.Literal.{Literal}
use Rattle.interval.specs.Literals.{signed}
use Rattle.interval.specs.Forms.{form_value}
use Rattle.interval.proofs.Truths.{holds_under, form_holds}

-- the value that a test gives a name
abbrev told : (Literal → Bool) → ℕ → Value
told test name = record {
  holds = test (record { name = name; negated = false });
  fails = test (record { name = name; negated = true });
}

told_literal : (test : Literal → Bool) (name : ℕ) (negated : Bool) → (signed negated (told test name)).holds ≡ test (record { name = name; negated = negated })
told_literal test name true = refl
told_literal test name false = refl

abbrev realized : (Literal → Bool) → List Literal → Valuation
realized test [] = []
realized test (literal ∷ rest) = with_value literal.name (told test literal.name) (realized test rest)

realized_cons : (test : Literal → Bool) (l : Literal) (rest : List Literal) (literal : Literal) → (Contains rest literal → value_at (realized test rest) literal.name ≡ told test literal.name) → Contains (l ∷ rest) literal → value_at (realized test (l ∷ rest)) literal.name ≡ told test literal.name
realized_cons test l rest literal later c =
    ⊎_elim
    (λ e.
    ap (value_at (realized test (l ∷ rest))) e
    ∙ with_value_same l.name (told test l.name) (realized test rest)
    ∙ ap (told test) (sym e))
    (λ n.
    with_value_other l.name (told test l.name) (realized test rest) literal.name n
    ∙ ⊎_elim (λ e. absurd (n (ap (λ (z : Literal). z.name) (sym e)))) later (Contains-cons_cases l rest literal c))
    (cases_eq literal.name l.name)

realized_at : (test : Literal → Bool) (literals : List Literal) (literal : Literal) → Contains literals literal → value_at (realized test literals) literal.name ≡ told test literal.name
realized_at test [] literal c = absurd (Contains-none literal c)
realized_at test (l ∷ rest) literal c = realized_cons test l rest literal (realized_at test rest literal) c

holds_realized : (test : Literal → Bool) (literals : List Literal) (literal : Literal) → Contains literals literal → holds_under (realized test literals) literal ≡ test literal
holds_realized test literals literal c =
    ap (λ v. (signed literal.negated v).holds) (realized_at test literals literal c) ∙ told_literal test literal.name literal.negated

abbrev literals_of : List (List Literal) → List Literal
literals_of [] = []
literals_of (product ∷ rest) = product ++ literals_of rest

among_literals : (form : List (List Literal)) (product : List Literal) (literal : Literal) → Contains form product → Contains product literal → Contains (literals_of form) literal
among_literals [] product literal c d = absurd (Contains-none product c)
among_literals (p ∷ rest) product literal c d =
    ⊎_elim
    (λ e. Contains-append_left p (literals_of rest) literal (rw e d))
    (λ h. Contains-append_right p (literals_of rest) literal (among_literals rest product literal h d))
    (Contains-cons_cases p rest product c)

-- the truth of a form under a test is that of a valuation
truth_realized : (test : Literal → Bool) (form : List (List Literal)) (literals : List Literal) → ((literal : Literal) → Contains (literals_of form) literal → Contains literals literal) → (form_value form (realized test literals)).holds ≡ some_all test form
truth_realized test form literals all =
    form_holds form (realized test literals)
    ∙ some_all-agree (holds_under (realized test literals)) test form
    (λ product literal c d. holds_realized test literals literal (all literal (among_literals form product literal c d)))

-- forms with the same values have the same truth
pub truth_from_values : (left right : List (List Literal)) → ((valuation : Valuation) → form_value left valuation ≡ form_value right valuation) → HaveSameTruth left right
truth_from_values left right same test =
    let literals : List Literal = literals_of left ++ literals_of right in
    sym (truth_realized test left literals (λ l c. Contains-append_left (literals_of left) (literals_of right) l c))
    ∙ ap (λ (v : Value). v.holds) (same (realized test literals))
    ∙ truth_realized test right literals (λ l c. Contains-append_right (literals_of left) (literals_of right) l c)
