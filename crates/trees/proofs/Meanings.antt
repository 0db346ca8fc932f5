-- What lists of numbered rows mean, and go on to mean.
use Rattle.std.proofs.Common.{◌≡◌, ℕ, zero, suc, ◌+◌, ◌<◌, ◌≤◌, List, [], ◌∷◌, ◌++◌, length, get_or, take, drop, refl, sym, ◌∙◌, ap, ap₂, arith, Option, Some, IsSome}
use Rattle.std.specs.Prelude.{slice_get}
use Rattle.std.proofs.lemmas.List.{take_all}
use Rattle.trees.proofs.OptionLaws.{some_of, both_of_some}
use Rattle.trees.specs.Things.{Thing, Meanings, Kept, both, consed, meanings}

-- a list that means something means its first and its rest
pub record MeansCons {A : Type 0} (f : ℕ → Option A) (k : ℕ) (ks : List ℕ) (xs : List A) : Type 0 where
  pub first : A
  pub rest : List A
  pub first_is : f k ≡ Some first
  pub rest_is : meanings f ks ≡ Some rest
  pub whole : xs ≡ first ∷ rest

pub meanings-cons : {A : Type 0} (f : ℕ → Option A) (k : ℕ) (ks : List ℕ) (xs : List A) → meanings f (k ∷ ks) ≡ Some xs → MeansCons f k ks xs
meanings-cons f k ks xs e =
    let b = both_of_some consed (f k) (meanings f ks) xs e in
    record { first = b.left; rest = b.right; first_is = b.left_is; rest_is = b.right_is; whole = let p : Some xs ≡ Some (b.left ∷ b.right) = sym b.gives in cc }

pub meanings-length : {A : Type 0} (f : ℕ → Option A) (ks : List ℕ) (xs : List A) → meanings f ks ≡ Some xs → length ks ≡ length xs
meanings-length f [] [] e = refl
meanings-length f [] (x ∷ xs) e = cc
meanings-length f (k ∷ ks) xs e =
    let m = meanings-cons f k ks xs e in
    ap suc (meanings-length f ks m.rest m.rest_is) ∙ sym (ap length m.whole)

-- each of the rows means its place in the list
pub meanings-at : {A : Type 0} (f : ℕ → Option A) (ks : List ℕ) (xs : List A) → meanings f ks ≡ Some xs → (i : ℕ) (x : A) → slice_get xs i ≡ Some x → f (get_or ks i 0) ≡ Some x
meanings-at f [] [] e i x at = cc
meanings-at f [] (y ∷ ys) e i x at = cc
meanings-at f (k ∷ ks) xs e zero x at =
    let m = meanings-cons f k ks xs e in
    m.first_is ∙ rw m.whole at at
meanings-at f (k ∷ ks) xs e (suc i) x at =
    let m = meanings-cons f k ks xs e in
    meanings-at f ks m.rest m.rest_is i x (rw m.whole at at)

pub meanings-drop : {A : Type 0} (f : ℕ → Option A) (n : ℕ) (ks : List ℕ) (xs : List A) → meanings f ks ≡ Some xs → meanings f (drop n ks) ≡ Some (drop n xs)
meanings-drop f zero ks xs e = e
meanings-drop f (suc n) [] [] e = refl
meanings-drop f (suc n) [] (x ∷ xs) e = cc
meanings-drop f (suc n) (k ∷ ks) xs e =
    let m = meanings-cons f k ks xs e in
    rw m.whole (meanings-drop f n ks m.rest m.rest_is)

-- a prefix of a list of numbers that mean something, with one more
pub meanings-more : {A : Type 0} (f : ℕ → Option A) (ks : List ℕ) (xs : List A) (i : ℕ) → i < length ks → length ks ≡ length xs → meanings f (take i ks) ≡ Some (take i xs) → f (get_or ks i 0) ≡ slice_get xs i → meanings f (take (i + 1) ks) ≡ Some (take (i + 1) xs)
meanings-more f [] xs i lt n e at = absurd (omega arith)
meanings-more f (k ∷ ks) [] i lt n e at = absurd (omega arith)
meanings-more f (k ∷ ks) (x ∷ xs) zero lt n e at = rw at refl
meanings-more {A} f (k ∷ ks) (x ∷ xs) (suc i) lt n e at =
    let s : suc i + 1 ≡ suc (i + 1) = omega arith in
    let m = meanings-cons f k (take i ks) (x ∷ take i xs) e in
    let w = m.whole in
    let first : m.first ≡ x = cc in
    let rest : m.rest ≡ take i xs = cc in
    let h = meanings-more f ks xs i (omega arith) (omega arith) (m.rest_is ∙ ap Some rest) at in
    rw s (ap₂ (both consed) (m.first_is ∙ ap Some first) h)

pub meanings-all : {A : Type 0} (f : ℕ → Option A) (ks : List ℕ) (xs : List A) (i : ℕ) → length ks ≤ i → length ks ≡ length xs → meanings f (take i ks) ≡ Some (take i xs) → meanings f ks ≡ Some xs
meanings-all f ks xs i le n e = let a : take i ks ≡ ks = take_all i ks le in let b : take i xs ≡ xs = take_all i xs (omega arith) in rw (a, b) at e

-- at a place the meaning is what stands there
pub meanings-place : {A : Type 0} (f : ℕ → Option A) (ks : List ℕ) (xs : List A) (i : ℕ) → meanings f ks ≡ Some xs → i < length ks → f (get_or ks i 0) ≡ slice_get xs i
meanings-place f [] xs i e lt = absurd (omega arith)
meanings-place f (k ∷ ks) xs zero e lt = let m = meanings-cons f k ks xs e in m.first_is ∙ sym (ap (λ ys. slice_get ys 0) m.whole)
meanings-place f (k ∷ ks) xs (suc i) e lt = let m = meanings-cons f k ks xs e in meanings-place f ks m.rest i m.rest_is (omega arith) ∙ sym (ap (λ ys. slice_get ys (suc i)) m.whole)

pub meanings-push : {A : Type 0} (f : ℕ → Option A) (ks : List ℕ) (xs : List A) (k : ℕ) (x : A) → meanings f ks ≡ Some xs → f k ≡ Some x → meanings f (ks ++ k ∷ []) ≡ Some (xs ++ x ∷ [])
meanings-push f [] [] k x e at = rw at refl
meanings-push f [] (y ∷ ys) k x e at = cc
meanings-push f (j ∷ ks) xs k x e at =
    let m = meanings-cons f j ks xs e in
    rw (m.first_is, meanings-push f ks m.rest k x m.rest_is at) (ap (λ ys. Some (ys ++ x ∷ [])) (sym m.whole))

-- the rows go on to mean what they mean
pub meanings-kept : (f g : Meanings) → Kept f g → (ks : List ℕ) (xs : List Thing) → meanings f ks ≡ Some xs → meanings g ks ≡ Some xs
meanings-kept f g kept [] xs e = e
meanings-kept f g kept (k ∷ ks) xs e =
    let m = meanings-cons f k ks xs e in
    rw (kept.keeps k m.first m.first_is, meanings-kept f g kept ks m.rest m.rest_is) (ap Some (sym m.whole))

pub meanings-later : (f g : Meanings) → Kept f g → (ks : List ℕ) → IsSome (meanings f ks) → meanings g ks ≡ meanings f ks
meanings-later f g kept ks some =
    let s = some_of (meanings f ks) some in
    meanings-kept f g kept ks s.value s.is ∙ sym s.is

pub kept-same : (f : Meanings) → Kept f f
kept-same f = record { keeps = λ k x e. e }

pub kept-kept : (f g h : Meanings) → Kept f g → Kept g h → Kept f h
kept-kept f g h a b = record { keeps = λ k x e. b.keeps k x (a.keeps k x e) }
