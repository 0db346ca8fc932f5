-- What each kind of instruction leaves on the stack.
use Rattle.std.proofs.Common.{◌≡◌, ℕ, zero, suc, ◌<◌, ◌≤◌, List, [], ◌∷◌, length, take, drop, nat_le, Bool, true, false, cond, refl, ◌∙◌, ap, arith, Option, Some, None, IsSome, get_or}
use Rattle.std.specs.Prelude.{slice_get, option_and_then}
use Rattle.std.proofs.lemmas.Bool.{leb-true}
use Rattle.std.proofs.lemmas.Option.{slice_get_within}
use Rattle.trees.specs.Trees.{shift_by, greatest_shift}
use Rattle.trees.specs.Things.{Thing, ASubst, Meanings, Kept, both, consed, meanings}
use Rattle.trees.proofs.Meanings.{MeansCons, meanings-cons, meanings-length, meanings-at, meanings-drop, meanings-kept}
use Rattle.rules.specs.Run.{exactly, many_on, part_on, one_on, two_on, shift_on}

-- a part

pub record PartOf (f : Meanings) (parts : List ℕ) (k : ℕ) (stack : List ℕ) : Type 0 where
  pub within : k < length parts
  pub stacked : both consed (f (get_or parts k 0)) (meanings f stack) ≡ both (part_on k) (meanings f parts) (meanings f stack)

pub part_of : (f : Meanings) (parts : List ℕ) (k : ℕ) (stack : List ℕ) → IsSome (both (part_on k) (meanings f parts) (meanings f stack)) → PartOf f parts k stack
part_of f parts k stack some = from (meanings f parts) (meanings f stack) refl refl some
  where
    found : (xs ys : List Thing) (o : Option Thing) → meanings f parts ≡ Some xs → meanings f stack ≡ Some ys → slice_get xs k ≡ o → IsSome (option_and_then (λ x. Some (x ∷ ys)) o) → PartOf f parts k stack
    found xs ys None ep es eo some = cc
    found xs ys (Some x) ep es eo some =
        let row : f (get_or parts k 0) ≡ Some x = meanings-at f parts xs ep k x eo in
        let count = meanings-length f parts xs ep in
        let place = slice_get_within xs k x eo in
        record { within = omega arith; stacked = rw (row, ep, es, eo) refl }

    from : (p s : Option (List Thing)) → meanings f parts ≡ p → meanings f stack ≡ s → IsSome (both (part_on k) p s) → PartOf f parts k stack
    from None s ep es some = cc
    from (Some xs) None ep es some = cc
    from (Some xs) (Some ys) ep es some = found xs ys (slice_get xs k) ep es refl some

-- one more row

pub one_more : (f g : Meanings) (x : Thing) (row : ℕ) (stack : List ℕ) → Kept f g → IsSome (option_and_then (consed x) (meanings f stack)) → g row ≡ Some x → both consed (g row) (meanings g stack) ≡ option_and_then (consed x) (meanings f stack)
one_more f g x row stack kept some e = from (meanings f stack) refl some
  where
    from : (s : Option (List Thing)) → meanings f stack ≡ s → IsSome (option_and_then (consed x) s) → both consed (g row) (meanings g stack) ≡ option_and_then (consed x) s
    from None es some = cc
    from (Some xs) es some = rw (e, meanings-kept f g kept stack xs es) refl

-- a shift

pub record ShiftOf (f : Meanings) (n : ℕ) (stack : List ℕ) : Type 0 where
  pub small : n ≤ greatest_shift
  pub stacked : (g : Meanings) (row : ℕ) → Kept f g → g row ≡ Some (ASubst (shift_by n)) → both consed (g row) (meanings g stack) ≡ option_and_then (shift_on n) (meanings f stack)

pub shift_of : (f : Meanings) (n : ℕ) (stack : List ℕ) → IsSome (option_and_then (shift_on n) (meanings f stack)) → ShiftOf f n stack
shift_of f n stack some = from (meanings f stack) (nat_le n greatest_shift) refl refl some
  where
    from : (s : Option (List Thing)) (b : Bool) → meanings f stack ≡ s → nat_le n greatest_shift ≡ b → IsSome (option_and_then (λ xs. cond b (Some (ASubst (shift_by n) ∷ xs)) None) s) → ShiftOf f n stack
    from None b es eb some = cc
    from (Some xs) false es eb some = cc
    from (Some xs) true es eb some = record { small = leb-true n greatest_shift eb; stacked = λ g row kept e. rw (e, meanings-kept f g kept stack xs es, es, eb) refl }

-- what is made of the first row, or of the first two

pub one_enough : (h : Thing → Option Thing) (f : Meanings) (stack : List ℕ) → IsSome (option_and_then (one_on h) (meanings f stack)) → 0 < length stack
one_enough h f [] some = cc
one_enough h f (a ∷ stack) some = omega arith

pub record OneOf (h : Thing → Option Thing) (f : Meanings) (stack : List ℕ) (a : ℕ) (rest : List ℕ) : Type 0 where
  pub live : IsSome (option_and_then h (f a))
  pub stacked : (g : Meanings) (row : ℕ) → Kept f g → g row ≡ option_and_then h (f a) → both consed (g row) (meanings g rest) ≡ option_and_then (one_on h) (meanings f stack)

pub one_of : (h : Thing → Option Thing) (f : Meanings) (stack : List ℕ) (a : ℕ) (rest : List ℕ) → stack ≡ a ∷ rest → IsSome (option_and_then (one_on h) (meanings f stack)) → OneOf h f stack a rest
one_of h f stack a rest e some = from (f a) (meanings f rest) refl refl (rw e at some)
  where
    whole : (x : Thing) (xs : List Thing) (o : Option Thing) → f a ≡ Some x → meanings f rest ≡ Some xs → h x ≡ o → IsSome (option_and_then (λ z. Some (z ∷ xs)) o) → OneOf h f stack a rest
    whole x xs None ea er eo some = cc
    whole x xs (Some z) ea er eo some = record { live = rw (ea, eo) refl; stacked = λ g row kept eg. rw (eg, meanings-kept f g kept rest xs er, e, ea, er, eo) refl }

    from : (o : Option Thing) (r : Option (List Thing)) → f a ≡ o → meanings f rest ≡ r → IsSome (option_and_then (one_on h) (both consed o r)) → OneOf h f stack a rest
    from None r ea er some = cc
    from (Some x) None ea er some = cc
    from (Some x) (Some xs) ea er some = whole x xs (h x) ea er refl some

pub two_enough : (h : Thing → Thing → Option Thing) (f : Meanings) (stack : List ℕ) → IsSome (option_and_then (two_on h) (meanings f stack)) → 2 ≤ length stack
two_enough h f [] some = cc
two_enough h f (a ∷ []) some = absurd (none (f a) some)
  where
    none : (o : Option Thing) → IsSome (option_and_then (two_on h) (both consed o (Some []))) → ⊥
    none None some = cc
    none (Some x) some = cc
two_enough h f (a ∷ b ∷ stack) some = omega arith

pub record TwoOf (h : Thing → Thing → Option Thing) (f : Meanings) (stack : List ℕ) (a b : ℕ) (rest : List ℕ) : Type 0 where
  pub live : IsSome (both h (f a) (f b))
  pub stacked : (g : Meanings) (row : ℕ) → Kept f g → g row ≡ both h (f a) (f b) → both consed (g row) (meanings g rest) ≡ option_and_then (two_on h) (meanings f stack)

pub two_of : (h : Thing → Thing → Option Thing) (f : Meanings) (stack : List ℕ) (a b : ℕ) (rest : List ℕ) → stack ≡ a ∷ b ∷ rest → IsSome (option_and_then (two_on h) (meanings f stack)) → TwoOf h f stack a b rest
two_of h f stack a b rest e some = from (f a) (f b) (meanings f rest) refl refl refl (rw e at some)
  where
    whole : (x y : Thing) (xs : List Thing) (o : Option Thing) → f a ≡ Some x → f b ≡ Some y → meanings f rest ≡ Some xs → h x y ≡ o → IsSome (option_and_then (λ z. Some (z ∷ xs)) o) → TwoOf h f stack a b rest
    whole x y xs None ea eb er eo some = cc
    whole x y xs (Some z) ea eb er eo some = record { live = rw (ea, eb, eo) refl; stacked = λ g row kept eg. rw (eg, meanings-kept f g kept rest xs er, e, ea, eb, er, eo) refl }

    from : (o p : Option Thing) (r : Option (List Thing)) → f a ≡ o → f b ≡ p → meanings f rest ≡ r → IsSome (option_and_then (two_on h) (both consed o (both consed p r))) → TwoOf h f stack a b rest
    from None p r ea eb er some = cc
    from (Some x) None r ea eb er some = cc
    from (Some x) (Some y) None ea eb er some = cc
    from (Some x) (Some y) (Some xs) ea eb er some = whole x y xs (h x y) ea eb er refl some

-- an operator or a derived tree

-- the first n rows mean the first n things
record Prefix (f : Meanings) (n : ℕ) (stack : List ℕ) (ys : List Thing) : Type 0 where
  pub enough : n ≤ length stack
  pub means : meanings f (take n stack) ≡ Some ys

prefix : (f : Meanings) (n : ℕ) (stack : List ℕ) (xs ys : List Thing) → meanings f stack ≡ Some xs → exactly n xs ≡ Some ys → Prefix f n stack ys
prefix f zero stack xs ys e ey = record { enough = omega arith; means = ey }
prefix f (suc n) [] [] ys e ey = cc
prefix f (suc n) [] (x ∷ xs) ys e ey = cc
prefix f (suc n) (k ∷ ks) xs ys e ey =
    let m = meanings-cons f k ks xs e in
    split m (exactly n m.rest) refl (rw m.whole at ey) (λ zs. prefix f n ks m.rest zs m.rest_is)
  where
    split : (m : MeansCons f k ks xs) (r : Option (List Thing)) → exactly n m.rest ≡ r → option_and_then (consed m.first) r ≡ Some ys → ((zs : List Thing) → exactly n m.rest ≡ Some zs → Prefix f n ks zs) → Prefix f (suc n) (k ∷ ks) ys
    split m None er e below = cc
    split m (Some zs) er e below =
        let h = below zs er in
        record { enough = let g = h.enough in omega arith; means = rw (m.first_is, h.means) e }

pub record ManyOf (n : ℕ) (h : List Thing → Option Thing) (f : Meanings) (stack : List ℕ) : Type 0 where
  pub enough : n ≤ length stack
  pub means : IsSome (meanings f (take n stack))
  pub live : IsSome (option_and_then h (meanings f (take n stack)))
  pub stacked : (g : Meanings) (row : ℕ) → Kept f g → g row ≡ option_and_then h (meanings f (take n stack)) → both consed (g row) (meanings g (drop n stack)) ≡ option_and_then (many_on n h) (meanings f stack)

pub many_of : (n : ℕ) (h : List Thing → Option Thing) (f : Meanings) (stack : List ℕ) → IsSome (option_and_then (many_on n h) (meanings f stack)) → ManyOf n h f stack
many_of n h f stack some = from (meanings f stack) refl some
  where
    whole : (xs ys : List Thing) (o : Option Thing) → meanings f stack ≡ Some xs → exactly n xs ≡ Some ys → h ys ≡ o → IsSome (option_and_then (λ x. Some (x ∷ drop n xs)) o) → ManyOf n h f stack
    whole xs ys None es ey eo some = cc
    whole xs ys (Some x) es ey eo some =
        let p = prefix f n stack xs ys es ey in
        let rest = meanings-drop f n stack xs es in
        let all : option_and_then h (meanings f (take n stack)) ≡ Some x = ap (option_and_then h) p.means ∙ eo in
        record {
          enough = p.enough;
          means = rw p.means refl;
          live = rw all refl;
          stacked = λ g row kept e. rw (e, all, meanings-kept f g kept (drop n stack) (drop n xs) rest, es, ey, eo) refl;
        }

    taken : (xs : List Thing) (r : Option (List Thing)) → meanings f stack ≡ Some xs → exactly n xs ≡ r → IsSome (option_and_then (λ x. Some (x ∷ drop n xs)) (option_and_then h r)) → ManyOf n h f stack
    taken xs None es er some = cc
    taken xs (Some ys) es er some = whole xs ys (h ys) es er refl some

    from : (s : Option (List Thing)) → meanings f stack ≡ s → IsSome (option_and_then (many_on n h) s) → ManyOf n h f stack
    from None es some = cc
    from (Some xs) es some = taken xs (exactly n xs) es refl some
