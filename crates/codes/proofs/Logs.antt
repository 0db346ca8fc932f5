-- What is translated, one text after another.
use Rattle.std.proofs.Common.{◌≡◌, ◌+◌, ◌&&◌, ◌||◌, ◌==◌, ℕ, Bool, true, false, List, [], ◌∷◌, ◌++◌, map, length, Option, Some, None, refl, sym, ap, ◌∙◌, arith, append_assoc, nat_lt, if◌then◌else◌}
use Rattle.std.proofs.lemmas.Bool.Decides.{nat_tests}
use Rattle.trees.specs.Language.{Ty, Tm}
use Rattle.translation.specs.declared.fault.Refusal.{Refusal}
use Rattle.translation.specs.Translated.{Translated, Stated, done, ◌>>=◌, judgements_of, earlier, is_before, rank_of}

pub append_empty : {A : Type 0} (xs : List A) → xs ++ [] ≡ xs
append_empty [] = refl
append_empty (x ∷ xs) = ap (λ ys. x ∷ ys) (append_empty xs)

pub judgements_append : {N : Type 0} (xs ys : List (Stated N)) → judgements_of (xs ++ ys) ≡ judgements_of xs ++ judgements_of ys
judgements_append [] ys = refl
judgements_append (d ∷ ds) ys = ap (λ js. Ty d.context d.type ∷ Tm d.context d.body d.type ∷ js) (judgements_append ds ys)

pub map_append : {A B : Type 0} (f : A → B) (xs ys : List A) → map f (xs ++ ys) ≡ map f xs ++ map f ys
map_append f [] ys = refl
map_append f (x ∷ xs) ys = ap (λ zs. f x ∷ zs) (map_append f xs ys)

pub length_append : {A : Type 0} (xs ys : List A) → length (xs ++ ys) ≡ length xs + length ys
length_append [] ys = omega arith
length_append (x ∷ xs) ys = let h = length_append xs ys in omega arith

differ : {b : Bool} → b ≡ true → b ≡ false → ⊥
differ e d = cc

-- Refusals in any grouping: the first is named.

before : ℕ → ℕ → ℕ → ℕ → Bool
before a r b s = nat_lt a b || ((a == b) && nat_lt r s)

before_before : (a r b s c t : ℕ) → before c t b s ≡ true → before b s a r ≡ true → before c t a r ≡ true
unfolding before
before_before a r b s c t = grind (arith, nat_tests)

not_before : (a r b s c t : ℕ) → before c t b s ≡ false → before b s a r ≡ false → before c t a r ≡ false
unfolding before
not_before a r b s c t = grind (arith, nat_tests)

first_of_three : (a b c : Refusal) (cb ba ca : Bool) → is_before c b ≡ cb → is_before b a ≡ ba → is_before c a ≡ ca
    → earlier (Some a) (if cb then Some c else Some b) ≡ earlier (if ba then Some b else Some a) (Some c)
unfolding before
first_of_three a b c true true true h i j = rw h (rw j refl)
first_of_three a b c true true false h i j =
    absurd (differ (before_before a.at (rank_of a.cause) b.at (rank_of b.cause) c.at (rank_of c.cause) h i) j)
first_of_three a b c true false ca h i j = refl
first_of_three a b c false true ca h i j = rw h (rw i refl)
first_of_three a b c false false true h i j =
    absurd (differ j (not_before a.at (rank_of a.cause) b.at (rank_of b.cause) c.at (rank_of c.cause) h i))
first_of_three a b c false false false h i j = rw i (rw j refl)

pub earlier_assoc : (x y z : Option Refusal) → earlier x (earlier y z) ≡ earlier (earlier x y) z
earlier_assoc None y z = refl
earlier_assoc (Some a) None z = refl
earlier_assoc (Some a) (Some b) None = elim (is_before b a) as (λ v. (if v then Some b else Some a) ≡ earlier (if v then Some b else Some a) None) [ true ↦ refl | false ↦ refl ]
earlier_assoc (Some a) (Some b) (Some c) = first_of_three a b c (is_before c b) (is_before b a) (is_before c a) refl refl refl

pub earlier_none : (x : Option Refusal) → earlier x None ≡ x
earlier_none None = refl
earlier_none (Some a) = refl

-- laws of texts one after another

-- what comes after a text is asked for at what it gives alone
pub then_same : {N A B : Type 0} (m : Translated N A) (f g : A → Translated N B) → f m.value ≡ g m.value → (m >>= f) ≡ (m >>= g)
then_same m f g e = ap (λ y. record { value = y.value; stated = m.stated ++ y.stated; refusal = earlier m.refusal y.refusal }) e

pub then_done : {N A : Type 0} (m : Translated N A) → (m >>= λ a. done a) ≡ m
then_done m =
    ap (λ s. record { value = m.value; stated = s; refusal = earlier m.refusal None }) (append_empty m.stated)
    ∙ ap (λ r. record { value = m.value; stated = m.stated; refusal = r }) (earlier_none m.refusal)

pub then_assoc : {N A B C : Type 0} (m : Translated N A) (f : A → Translated N B) (g : B → Translated N C)
    → ((m >>= f) >>= g) ≡ (m >>= λ a. f a >>= g)
then_assoc m f g =
    let y = f m.value in
    let z = g y.value in
    ap (λ s. record { value = z.value; stated = s; refusal = earlier (earlier m.refusal y.refusal) z.refusal }) (append_assoc m.stated y.stated z.stated)
    ∙ ap (λ r. record { value = z.value; stated = m.stated ++ (y.stated ++ z.stated); refusal = r }) (sym (earlier_assoc m.refusal y.refusal z.refusal))
