-- What `then` takes off the stack has a shift that it takes.
use Rattle.std.proofs.Common.{◌≡◌, length, drop, get_or, subst, arith, ℕ, zero, suc, ◌<◌, nat_le, Bool, true, false, not, ◌||◌, cond, IsTrue, List, [], ◌∷◌, refl, sym, ◌∙◌, ap, Option, Some, None, IsSome}
use Rattle.std.specs.Prelude.{slice_get, option_and_then}
use Rattle.std.specs.List.{All}
use Rattle.std.proofs.lemmas.Bool.{leb-true, and_parts}
use Rattle.trees.specs.Trees.{greatest_shift, shift_by}
use Rattle.trees.specs.Things.{Thing, ATree, ASubst, AContext, Meanings, both, meanings, then_of}
use Rattle.trees.proofs.OptionLaws.{some_of}
use Rattle.trees.proofs.Meanings.{meanings-cons}
use Rattle.rows.specs.Views.{ShiftAtMost}
use Rattle.rules.specs.declared.instruction.Instruction.{Instruction}
use Rattle.rules.specs.declared.instruction.Instruction.TheVariants as make
use Rattle.rules.specs.Run.{part_on, shift_on, two_on, stepped, run, is_then, then_takes}
use Rattle.rules.specs.Schemas.{thens_fit, has_then, fits, is_shallow}
use Rattle.rules.proofs.RunLaws.{run-drop, run-one}
use Rattle.rules.specs.Shifts.{ShiftFits, ShiftsFit, ThenFits}

-- what a part or a shift leaves on top
record Top (r stack : Option (List Thing)) : Type 0 where
  pub thing : Thing
  pub rest : List Thing
  pub is : r ≡ Some (thing ∷ rest)
  pub before : stack ≡ Some rest
  pub fits : ShiftFits thing

fits_at : (xs : List Thing) → All ShiftFits xs → (k : ℕ) (x : Thing) → slice_get xs k ≡ Some x → ShiftFits x
fits_at [] all k x e = cc
fits_at (y ∷ xs) all zero x e = let p : y ≡ x = cc in subst ShiftFits p (all 0 x (omega arith))
fits_at (y ∷ xs) all (suc k) x e = fits_at xs (λ j d lt. all (suc j) d (omega arith)) k x e

part_top : (xs : List Thing) → All ShiftFits xs → (k : ℕ) (stack : Option (List Thing)) → IsSome (both (part_on k) (Some xs) stack) → Top (both (part_on k) (Some xs) stack) stack
part_top xs all k None some = cc
part_top xs all k (Some ys) some = from (slice_get xs k) refl some
  where
    from : (o : Option Thing) → slice_get xs k ≡ o → IsSome (option_and_then (λ x. Some (x ∷ ys)) o) → Top (option_and_then (λ x. Some (x ∷ ys)) (slice_get xs k)) (Some ys)
    from None e some = cc
    from (Some x) e some = record { thing = x; rest = ys; is = rw e refl; before = refl; fits = fits_at xs all k x e }

shift_top : (n : ℕ) (stack : Option (List Thing)) → IsSome (option_and_then (shift_on n) stack) → Top (option_and_then (shift_on n) stack) stack
shift_top n None some = cc
shift_top n (Some ys) some = from (nat_le n greatest_shift) refl some
  where
    from : (b : Bool) → nat_le n greatest_shift ≡ b → IsSome (cond b (Some (ASubst (shift_by n) ∷ ys)) None) → Top (shift_on n ys) (Some ys)
    from false e some = cc
    from true e some = record { thing = ASubst (shift_by n); rest = ys; is = rw e refl; before = refl; fits = leb-true n greatest_shift e }

record TopTwo (r : Option (List Thing)) : Type 0 where
  pub first : Thing
  pub second : Thing
  pub rest : List Thing
  pub is : r ≡ Some (first ∷ second ∷ rest)
  pub first_fits : ShiftFits first
  pub second_fits : ShiftFits second

some_of_top : (r stack : Option (List Thing)) → Top r stack → IsSome stack
some_of_top r stack t = rw t.before refl

two_tops : (r p stack : Option (List Thing)) → Top r p → Top p stack → TopTwo r
two_tops r p stack a b =
    let e : Some (b.thing ∷ b.rest) ≡ Some a.rest = sym b.is ∙ a.before in
    let s : b.thing ∷ b.rest ≡ a.rest = cc in
    record { first = a.thing; second = b.thing; rest = b.rest; is = a.is ∙ ap (λ xs. Some (a.thing ∷ xs)) (sym s); first_fits = a.fits; second_fits = b.fits }

top_two : (xs : List Thing) → All ShiftFits xs → (place : List Instruction) → then_takes place ≡ true → IsSome (run place (Some xs)) → TopTwo (run place (Some xs))
top_two xs all [] t some = cc
top_two xs all (make.Part k ∷ []) t some = cc
top_two xs all (make.Part k ∷ make.Part j ∷ rest) t some =
    let a = part_top xs all k _ some in
    two_tops _ _ _ a (part_top xs all j (run rest (Some xs)) (some_of_top _ _ a))
top_two xs all (make.Part k ∷ make.Shift n ∷ rest) t some =
    let a = part_top xs all k _ some in
    two_tops _ _ _ a (shift_top n (run rest (Some xs)) (some_of_top _ _ a))
top_two xs all (make.Part k ∷ other ∷ rest) t some = cc
top_two xs all (other ∷ rest) t some = cc

both_fit : (x y : Thing) → ShiftFits x → ShiftFits y → IsSome (then_of x y) → ShiftAtMost greatest_shift (Some x) × ShiftAtMost greatest_shift (Some y)
both_fit (ASubst d) (ASubst e) p q some = (p, q)
both_fit (ASubst d) (ATree t) p q some = cc
both_fit (ASubst d) (AContext G) p q some = cc
both_fit (ATree t) y p q some = cc
both_fit (AContext G) y p q some = cc

then_some : (x y : Thing) (rest : List Thing) → IsSome (option_and_then (λ z. Some (z ∷ rest)) (then_of x y)) → IsSome (then_of x y)
then_some x y rest = from (then_of x y)
  where
    from : (o : Option Thing) → IsSome (option_and_then (λ z. Some (z ∷ rest)) o) → IsSome o
    from None some = cc
    from (Some z) some = refl

stack_fits : (f : Meanings) (x y : Thing) (rest : List Thing) → ShiftAtMost greatest_shift (Some x) → ShiftAtMost greatest_shift (Some y) → (stack : List ℕ) → meanings f stack ≡ Some (x ∷ y ∷ rest) → ThenFits f make.Then stack
stack_fits f x y rest p q [] e = tt
stack_fits f x y rest p q (a ∷ []) e = tt
stack_fits f x y rest p q (a ∷ b ∷ stack) e =
    let m = meanings-cons f a (b ∷ stack) (x ∷ y ∷ rest) e in
    let ex : f a ≡ Some x = let w = m.whole in m.first_is ∙ ap Some (cc) in
    let er : meanings f (b ∷ stack) ≡ Some (y ∷ rest) = let w = m.whole in m.rest_is ∙ ap Some (cc) in
    let n = meanings-cons f b stack (y ∷ rest) er in
    let ey : f b ≡ Some y = let w = n.whole in n.first_is ∙ ap Some (cc) in
    rw (ex, ey) (p, q)

-- an instruction that comes before these finds what it may take
then_fits : (f : Meanings) (xs : List Thing) (place : List Instruction) (stack : List ℕ) (i : Instruction) → (not (is_then i) || then_takes place) ≡ true → (IsTrue (is_then i) → All ShiftFits xs) → meanings f stack ≡ run place (Some xs) → IsSome (stepped i (Some xs) (run place (Some xs))) → ThenFits f i stack
then_fits f xs place stack make.Then t small e some =
    let all = small refl in
    let h = top_two xs all place t (before (run place (Some xs)) some) in
    let fit = both_fit h.first h.second h.first_fits h.second_fits (then_some h.first h.second h.rest (rw h.is at some)) in
    stack_fits f h.first h.second h.rest fit.0 fit.1 stack (e ∙ h.is)
  where
    before : (r : Option (List Thing)) → IsSome (option_and_then (two_on then_of) r) → IsSome r
    before None some = cc
    before (Some x) some = refl
then_fits f xs place stack _ t small e some = tt

shifts_of : (P : Option (List Thing)) (xs : List Thing) → P ≡ Some xs → ShiftsFit P → All ShiftFits xs
shifts_of None xs e s = cc
shifts_of (Some ys) xs e s = let p : ys ≡ xs = cc in let R : List Thing → Type 0 = All ShiftFits in subst R p s

thens_at : (place : List Instruction) (j : ℕ) (d : Instruction) → j < length place → thens_fit place ≡ true → (not (is_then (get_or place j d)) || then_takes (drop (suc j) place)) ≡ true
thens_at [] j d lt e = absurd (omega arith)
thens_at (i ∷ rest) zero d lt e = (and_parts (not (is_then i) || then_takes rest) (thens_fit rest) e).0
thens_at (i ∷ rest) (suc j) d lt e = thens_at rest j d (omega arith) (and_parts (not (is_then i) || then_takes rest) (thens_fit rest) e).1

has_then_at : (place : List Instruction) (j : ℕ) (d : Instruction) → j < length place → IsTrue (is_then (get_or place j d)) → IsTrue (has_then place)
has_then_at [] j d lt t = absurd (omega arith)
has_then_at (i ∷ rest) zero d lt t = from (is_then i) (has_then rest) t
  where
    from : (a b : Bool) → IsTrue a → IsTrue (a || b)
    from false b t = cc
    from true b t = refl
has_then_at (i ∷ rest) (suc j) d lt t = from (is_then i) (has_then rest) (has_then_at rest j d (omega arith) t)
  where
    from : (a b : Bool) → IsTrue b → IsTrue (a || b)
    from false b t = t
    from true b t = refl

-- the same in the run of a place
pub then_fits_at : (old now : Meanings) (parts : List ℕ) (place : List Instruction) (stack : List ℕ) (k j : ℕ) (d : Instruction) → j < length place → k ≡ suc j → fits place ≡ true → IsSome (meanings old parts) → IsSome (run place (meanings old parts)) → (IsTrue (has_then place) → ShiftsFit (meanings old parts)) → meanings now stack ≡ run (drop k place) (meanings old parts) → ThenFits now (get_or place j d) stack
then_fits_at old now parts place stack k j d lt next fit live runs small e =
    let s = some_of (meanings old parts) live in
    let xs = s.value in
    let runs' : IsSome (run place (Some xs)) = rw (s.is) at runs in
    let step : IsSome (stepped (get_or place j d) (Some xs) (run (drop k place) (Some xs))) = rw (← run-one place (Some xs) k j d lt next) (run-drop place (Some xs) j runs') in
    let there : (not (is_then (get_or place j d)) || then_takes (drop k place)) ≡ true = rw next (thens_at place j d lt (and_parts (is_shallow place) (thens_fit place) fit).1) in
    then_fits now xs (drop k place) stack (get_or place j d) there (λ t. shifts_of (meanings old parts) xs s.is (small (has_then_at place j d lt t))) (e ∙ ap (run (drop k place)) s.is) step
