-- Slices that begin with so many items.
use Rattle.std.proofs.Common.{◌≡◌, ◌-◌, ◌<◌, ◌≤◌, ℕ, suc, List, [], ◌∷◌, length, take, drop, get_or, take_all, refl, sym, ap, ◌∙◌, arith}
use Rattle.layout_lexer.specs.declared.token.Span.{Span}

module _ {X : Type 0} where
  -- what is left of a slice after so many items
  abbrev pub rest_after : ℕ → List X → List X
  rest_after k xs = take (length xs - k) (drop k xs)

  pub none : (xs : List X) → length xs < 1 → xs ≡ []
  none [] h = refl
  none (x ∷ xs) h = absurd (omega arith)

  pub only_one : (xs : List X) (x : X) → length xs ≡ 1 → x ≡ get_or xs 0 x → xs ≡ x ∷ []
  only_one [] x h e = absurd (omega arith)
  only_one (y ∷ []) x h e = ap (λ z. z ∷ []) (sym e)
  only_one (y ∷ z ∷ zs) x h e = absurd (omega arith)

  pub front_one : (xs : List X) (x : X) → 1 ≤ length xs → x ≡ get_or xs 0 x → xs ≡ x ∷ rest_after 1 xs
  front_one [] x h e = absurd (omega arith)
  front_one (y ∷ ys) x h e =
      let all : take (suc (length ys) - 1) ys ≡ ys = take_all _ ys (omega arith) in
      ap (λ z. z ∷ ys) (sym e) ∙ ap (λ zs. x ∷ zs) (sym all)

  -- the same, whichever item is first
  pub begins : (xs : List X) → 1 ≤ length xs → (x : X) × (xs ≡ x ∷ rest_after 1 xs)
  begins [] h = absurd (omega arith)
  begins (y ∷ ys) h = (y, front_one (y ∷ ys) y h refl)

  -- the first, read with any default
  pub front_any : (xs : List X) (d : X) → 1 ≤ length xs → xs ≡ get_or xs 0 d ∷ rest_after 1 xs
  front_any [] d h = absurd (omega arith)
  front_any (y ∷ ys) d h = front_one (y ∷ ys) y h refl

  pub front_four : (xs : List X) (a b c d : X) → 4 ≤ length xs → a ≡ get_or xs 0 a → b ≡ get_or xs 1 b → c ≡ get_or xs 2 c → d ≡ get_or xs 3 d
      → xs ≡ a ∷ b ∷ c ∷ d ∷ rest_after 4 xs
  front_four [] a b c d h i j k l = absurd (omega arith)
  front_four (x ∷ []) a b c d h i j k l = absurd (omega arith)
  front_four (x ∷ y ∷ []) a b c d h i j k l = absurd (omega arith)
  front_four (x ∷ y ∷ z ∷ []) a b c d h i j k l = absurd (omega arith)
  front_four (x ∷ y ∷ z ∷ w ∷ ys) a b c d h i j k l =
      let all : take (suc (suc (suc (suc (length ys)))) - 4) ys ≡ ys = take_all _ ys (omega arith) in
      ap (λ v. v ∷ y ∷ z ∷ w ∷ ys) (sym i) ∙ ap (λ v. a ∷ v ∷ z ∷ w ∷ ys) (sym j) ∙ ap (λ v. a ∷ b ∷ v ∷ w ∷ ys) (sym k)
      ∙ ap (λ v. a ∷ b ∷ c ∷ v ∷ ys) (sym l) ∙ ap (λ vs. a ∷ b ∷ c ∷ d ∷ vs) (sym all)

-- what a place that is not there is read as
abbrev pub no_span : Span
no_span = record { start = 0; end = 0 }
