-- The truth of a sum of products under a test of the elements.
use Rattle.std.proofs.Common.{◌≡◌, ℕ, ◌<◌, ◌≤◌, ◌+◌, length, take, get_or, ⊎_elim, Bool, true, false, ◌&&◌, ◌||◌, List, [], ◌∷◌, ◌++◌, refl, sym, ◌∙◌, ap}
use Rattle.std.specs.List.{Contains, list_all, list_any}
use Rattle.std.proofs.lemmas.Bool.{and_parts, and_from, or_cases, or_left, or_right, false≢true}
use Rattle.std.proofs.lemmas.List.{take_all}
use Rattle.std.proofs.lemmas.List.Folds.{list_any-append, list_any_more}
use Rattle.antichains.specs.Antichains.{IsWithin, IsUnion, some_all}
use Rattle.antichains.specs.Reductions.{Covers}
use Rattle.antichains.proofs.Members.{Contains-head, Contains-rest, Contains-none, Contains-cons_cases}

-- two tests that answer true together answer the same
pub same_truth : (a b : Bool) → (a ≡ true → b ≡ true) → (b ≡ true → a ≡ true) → a ≡ b
same_truth true true f g = refl
same_truth true false f g = sym (f refl)
same_truth false true f g = g refl
same_truth false false f g = refl

pub passes_at : {X : Type 0} (test : X → Bool) (xs : List X) (x : X) → list_all test xs ≡ true → Contains xs x → test x ≡ true
passes_at test [] x h c = absurd (Contains-none x c)
passes_at test (y ∷ xs) x h c =
    let both = and_parts (test y) (list_all test xs) h in
    ⊎_elim (λ e. rw (← e) both.0) (passes_at test xs x both.1) (Contains-cons_cases y xs x c)

pub passes_from : {X : Type 0} (test : X → Bool) (xs : List X) → ((x : X) → Contains xs x → test x ≡ true) → list_all test xs ≡ true
passes_from test [] h = refl
passes_from test (y ∷ xs) h =
    and_from (test y) (list_all test xs) (h y (Contains-head y xs)) (passes_from test xs (λ x c. h x (Contains-rest y xs x c)))

pub passes_within : {X : Type 0} (test : X → Bool) (xs ys : List X) → IsWithin xs ys → list_all test ys ≡ true → list_all test xs ≡ true
passes_within test xs ys w h = passes_from test xs (λ x c. passes_at test ys x h (w.each x c))

pub some_passes : {X : Type 0} (test : X → Bool) (xs : List X) → list_any test xs ≡ true → (x : X) × Contains xs x × (test x ≡ true)
some_passes test [] h = absurd (false≢true h)
some_passes test (y ∷ xs) h =
    ⊎_elim
    (λ e. (y, Contains-head y xs, e))
    (λ e. let found = some_passes test xs e in (found.0, Contains-rest y xs found.0 found.1, found.2))
    (or_cases (test y) (list_any test xs) h)

pub some_from : {X : Type 0} (test : X → Bool) (xs : List X) (x : X) → Contains xs x → test x ≡ true → list_any test xs ≡ true
some_from test [] x c h = absurd (Contains-none x c)
some_from test (y ∷ xs) x c h =
    ⊎_elim
    (λ e. or_left (test y) (list_any test xs) (rw e h))
    (λ d. or_right (test y) (list_any test xs) (some_from test xs x d h))
    (Contains-cons_cases y xs x c)

pub list_all-union : {X : Type 0} (test : X → Bool) (xs ys union : List X) → IsUnion xs ys union → list_all test union ≡ (list_all test xs && list_all test ys)
list_all-union test xs ys union u =
    same_truth (list_all test union) (list_all test xs && list_all test ys)
    (λ h. and_from (list_all test xs) (list_all test ys) (passes_within test xs union u.left h) (passes_within test ys union u.right h))
    (λ h.
    let both = and_parts (list_all test xs) (list_all test ys) h in
    passes_from test union (λ x c. ⊎_elim (passes_at test xs x both.0) (passes_at test ys x both.1) (u.from x c)))

pub some_all-covers : {X : Type 0} (test : X → Bool) (kept all : List (List X)) → Covers kept all → some_all test kept ≡ some_all test all
some_all-covers test kept all c =
    same_truth (some_all test kept) (some_all test all)
    (λ h.
    let found = some_passes (list_all test) kept h in
    some_from (list_all test) all found.0 (c.among found.0 found.1) found.2)
    (λ h.
    let found = some_passes (list_all test) all h in
    let under = c.below found.0 found.1 in
    some_from (list_all test) kept under.0 under.1 (passes_within test under.0 found.0 under.2 found.2))

pub some_all-append : {X : Type 0} (test : X → Bool) (left right : List (List X)) → some_all test (left ++ right) ≡ (some_all test left || some_all test right)
some_all-append test left right = list_any-append (list_all test) left right

one_more : (a x y z : Bool) → ((a || (x && y)) || ((x && z) || false)) ≡ (a || (x && (y || z)))
one_more true x y z = refl
one_more false false y z = refl
one_more false true true z = refl
one_more false true false true = refl
one_more false true false false = refl

each_of_one : (a x b : Bool) → ((a && b) || (x && b)) ≡ ((a || x) && b)
each_of_one true x true = refl
each_of_one true true false = refl
each_of_one true false false = refl
each_of_one false x b = refl

-- the meet of two sums, product by product
module _ {X : Type 0} (test : X → Bool) (left right : List (List X)) where
  -- one product of the left with one more of the right
  pub meet_more : (before done new : List (List X)) (j : ℕ) (xs ys both : List X) → j < length right → ys ≡ get_or right j ys → IsUnion xs ys both → new ≡ done ++ both ∷ [] → some_all test done ≡ (some_all test before || (list_all test xs && some_all test (take j right))) → some_all test new ≡ (some_all test before || (list_all test xs && some_all test (take (j + 1) right)))
  meet_more before done new j xs ys both l e u n h =
      ap (some_all test) n
      ∙ some_all-append test done (both ∷ [])
      ∙ ap (λ b. b || (list_all test both || false)) h
      ∙ ap (λ b. (some_all test before || (list_all test xs && some_all test (take j right))) || (b || false)) (list_all-union test xs ys both u)
      ∙ one_more (some_all test before) (list_all test xs) (some_all test (take j right)) (list_all test ys)
      ∙ ap (λ b. some_all test before || (list_all test xs && (some_all test (take j right) || b))) (ap (list_all test) e)
      ∙ ap (λ b. some_all test before || (list_all test xs && b)) (sym (list_any_more (list_all test) right j ys l))

  -- one product of the left with all of the right
  pub meet_each : (before done : List (List X)) (i j : ℕ) (xs : List X) → i < length left → xs ≡ get_or left i xs → length right ≤ j → some_all test before ≡ (some_all test (take i left) && some_all test right) → some_all test done ≡ (some_all test before || (list_all test xs && some_all test (take j right))) → some_all test done ≡ (some_all test (take (i + 1) left) && some_all test right)
  meet_each before done i j xs l e k b h =
      h
      ∙ ap (λ zs. some_all test before || (list_all test xs && some_all test zs)) (take_all j right k)
      ∙ ap (λ a. a || (list_all test xs && some_all test right)) b
      ∙ each_of_one (some_all test (take i left)) (list_all test xs) (some_all test right)
      ∙ ap (λ a. (some_all test (take i left) || a) && some_all test right) (ap (list_all test) e)
      ∙ ap (λ a. a && some_all test right) (sym (list_any_more (list_all test) left i xs l))

pub list_all-agree : {X : Type 0} (test other : X → Bool) (xs : List X) → ((x : X) → Contains xs x → test x ≡ other x) → list_all test xs ≡ list_all other xs
list_all-agree test other [] h = refl
list_all-agree test other (x ∷ xs) h =
    ap (λ b. b && list_all test xs) (h x (Contains-head x xs))
    ∙ ap (λ b. other x && b) (list_all-agree test other xs (λ y c. h y (Contains-rest x xs y c)))

-- tests that agree on every element of a sum give it one truth
pub some_all-agree : {X : Type 0} (test other : X → Bool) (lists : List (List X)) → ((xs : List X) (x : X) → Contains lists xs → Contains xs x → test x ≡ other x) → some_all test lists ≡ some_all other lists
some_all-agree test other [] h = refl
some_all-agree test other (xs ∷ lists) h =
    ap (λ b. b || some_all test lists) (list_all-agree test other xs (λ x. h xs x (Contains-head xs lists)))
    ∙ ap (λ b. list_all other xs || b) (some_all-agree test other lists (λ ys x c. h ys x (Contains-rest xs lists ys c)))
