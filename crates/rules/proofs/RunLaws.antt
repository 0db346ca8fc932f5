-- What the ends of a program leave on the stack.
use Rattle.std.proofs.Common.{◌≡◌, ℕ, zero, suc, ◌+◌, ◌-◌, ◌<◌, ◌≤◌, nat_le, true, List, [], ◌∷◌, length, drop, get_or, drop-cons, refl, arith, Option, Some, None, IsSome}
use Rattle.std.specs.Prelude.{option_and_then}
use Rattle.std.proofs.lemmas.Bool.{leb-true, and_parts}
use Rattle.std.proofs.Math.Nat.{le-max_left, le-max_right}
use Rattle.trees.specs.Things.{Thing}
use Rattle.rules.specs.declared.instruction.Instruction.{Instruction}
use Rattle.rules.specs.declared.instruction.Instruction.TheVariants as make
use Rattle.rules.specs.Run.{stepped, run, only, thing_of, rows_for, rows_in, takes, left, rank_for, rank_in}
use Rattle.rules.specs.Schemas.{is_shallow, thens_fit, fits}

stepped-none : (i : Instruction) (parts : Option (List Thing)) → stepped i parts None ≡ None
stepped-none (make.Part k) None = refl
stepped-none (make.Part k) (Some xs) = refl
stepped-none _ parts = refl

some_before : (i : Instruction) (parts r : Option (List Thing)) → IsSome (stepped i parts r) → IsSome r
some_before i parts None some = rw (stepped-none i parts) at some
some_before i parts (Some xs) some = refl

-- a place that makes something runs
pub run-place : (place : List Instruction) (parts : Option (List Thing)) → IsSome (thing_of parts place) → IsSome (run place parts)
run-place place parts = from (run place parts)
  where
    from : (r : Option (List Thing)) → IsSome (option_and_then only r) → IsSome r
    from None some = cc
    from (Some xs) some = refl

-- each end of a program that runs runs too
pub run-drop : (place : List Instruction) (parts : Option (List Thing)) (k : ℕ) → IsSome (run place parts) → IsSome (run (drop k place) parts)
run-drop place parts zero some = some
run-drop [] parts (suc k) some = some
run-drop (i ∷ rest) parts (suc k) some = run-drop rest parts k (some_before i parts (run rest parts) some)

-- one more instruction
pub run-one : (place : List Instruction) (parts : Option (List Thing)) (k j : ℕ) (d : Instruction) → j < length place → k ≡ suc j → run (drop j place) parts ≡ stepped (get_or place j d) parts (run (drop k place) parts)
run-one place parts k j d lt e = rw (e, drop-cons place j d) refl

pub rows-one : (place : List Instruction) (k j : ℕ) (d : Instruction) → j < length place → k ≡ suc j → rows_in (drop j place) ≡ rows_for (get_or place j d) + rows_in (drop k place)
rows-one place k j d lt e = rw (e, drop-cons place j d) refl

pub rows-drop : (place : List Instruction) (k : ℕ) → rows_in (drop k place) ≤ rows_in place
rows-drop place zero = omega arith
rows-drop [] (suc k) = omega arith
rows-drop (i ∷ rest) (suc k) = omega (arith, rows-drop rest k)

-- how much stands on the stack

pub left-one : (place : List Instruction) (k j : ℕ) (d : Instruction) → j < length place → k ≡ suc j → left (drop j place) ≡ left (drop k place) + 1 - takes (get_or place j d)
left-one place k j d lt e = rw (e, drop-cons place j d) refl

pub shallow_of : (place : List Instruction) → fits place ≡ true → is_shallow place ≡ true
shallow_of place e = (and_parts (is_shallow place) (thens_fit place) e).0

pub left-few : (place : List Instruction) → is_shallow place ≡ true → (k : ℕ) → left (drop k place) ≤ 16
left-few [] e zero = omega arith
left-few [] e (suc k) = omega arith
left-few (i ∷ rest) e zero = leb-true (left (i ∷ rest)) 16 (and_parts (nat_le (left (i ∷ rest)) 16) (is_shallow rest) e).0
left-few (i ∷ rest) e (suc k) = left-few rest (and_parts (nat_le (left (i ∷ rest)) 16) (is_shallow rest) e).1 k

-- the rank of each instruction

pub rank-at : (place : List Instruction) (k : ℕ) (d : Instruction) → k < length place → rank_for (get_or place k d) ≤ rank_in place
rank-at [] k d lt = absurd (omega arith)
rank-at (i ∷ rest) zero d lt = le-max_left (rank_for i) (rank_in rest)
rank-at (i ∷ rest) (suc k) d lt =
    let h = rank-at rest k d (omega arith) in
    let m = le-max_right (rank_for i) (rank_in rest) in
    omega arith
