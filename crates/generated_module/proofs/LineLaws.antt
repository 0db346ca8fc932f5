-- Which line comes at a place.
use Rattle.std.proofs.Common.{◌≡◌, ◌≤◌, ◌-◌, ◌%◌, ℕ, List, ◌++◌, sym, ◌∙◌, ap, arith, Bool, false, if◌then◌else◌, ◌==◌}
use Rattle.std.proofs.lemmas.Bool.{ne_eqb}
use Rattle.std.specs.Prelude.{codes}
use Rattle.generated_module.specs.Generated.{composition, d, line, number, pair, path}

line_at : ℕ → ℕ → List ℕ
line_at m k = if m == 0 then number k else if m == 1 then composition k else if m == 2 then path k else pair k

pub of_number : (k before : ℕ) (text : List ℕ) → k % 4 ≡ 0 → 4 ≤ k → before ≡ k - 4 → text ≡ d k (codes " : nat = suc " ++ d before (codes "\n")) → text ≡ line k
unfolding line_at
of_number k before text is least here e =
    let later : List ℕ = d k (codes " : nat = suc " ++ d (k - 4) (codes "\n")) in
    let some : (k == 0) ≡ false = ne_eqb k 0 (λ none. omega (arith, none, least)) in
    e ∙ ap (λ b. d k (codes " : nat = suc " ++ d b (codes "\n"))) here
    ∙ sym (ap (λ b. if b then d k (codes " : nat = zero\n") else later) some)
    ∙ sym (ap (λ m. line_at m k) is)

pub of_composition : (k : ℕ) (text : List ℕ) → k % 4 ≡ 1 → text ≡ composition k → text ≡ line k
unfolding line_at
of_composition k text is e = e ∙ sym (ap (λ m. line_at m k) is)

pub of_path : (k : ℕ) (text : List ℕ) → k % 4 ≡ 2 → text ≡ path k → text ≡ line k
unfolding line_at
of_path k text is e = e ∙ sym (ap (λ m. line_at m k) is)
