-- What instructions make of a rule's parts: prefix notation, read from its end.
use Rattle.std.specs.Prelude.{ℕ, zero, suc, ◌+◌, ◌-◌, max, nat_le, cond, Bool, true, false}
use Rattle.std.specs.Prelude.{List, [], ◌∷◌}
use Rattle.std.specs.Prelude.{Option, Some, None, slice_get, drop, map, option_and_then}
use Rattle.std.proofs.Common.{Bor}
use Rattle.trees.specs.declared.op.Op.{Op}
use Rattle.trees.specs.Operators.{kids_of}
use Rattle.trees.specs.Trees.{Var, shift_by, greatest_shift}
use Rattle.trees.specs.Judgements.{Nil}
use Rattle.trees.specs.Things.{Thing, ATree, ASubst, AContext, both, consed, made, instance_of}
use Rattle.trees.specs.Things.{pushed_on, then_of, with_variable, with_a_name, with_a_face}
use Rattle.rules.specs.declared.derived.Derived.{Derived}
use Rattle.rules.specs.DerivedTrees.{arity_of, rank_of, rows_of, derived_over}
use Rattle.rules.specs.declared.instruction.Instruction.{Instruction}
use Rattle.rules.specs.declared.instruction.Instruction.TheVariants as make

-- the part k, where there is one
abbrev pub part_on : ℕ → List Thing → List Thing → Option (List Thing)
part_on k parts stack = option_and_then (λ x. Some (x ∷ stack)) (slice_get parts k)

-- the first n, where there are so many
abbrev pub exactly : ℕ → List Thing → Option (List Thing)
exactly zero xs = Some []
exactly (suc n) [] = None
exactly (suc n) (x ∷ xs) = option_and_then (consed x) (exactly n xs)

-- what comes of the first n things, in their place
abbrev pub many_on : ℕ → (List Thing → Option Thing) → List Thing → Option (List Thing)
many_on n f stack = option_and_then (λ x. Some (x ∷ drop n stack))
    (option_and_then f (exactly n stack))

-- the operator over the trees on top of the stack
abbrev pub make_on : Op → List Thing → Option (List Thing)
make_on op = many_on (kids_of op) (made op)

-- the derived tree of the trees on top of the stack
abbrev pub call_on : Derived → List Thing → Option (List Thing)
call_on d = many_on (arity_of d) (derived_over d)

-- what comes of the first thing, or of the first two, in their place
abbrev pub one_on : (Thing → Option Thing) → List Thing → Option (List Thing)
one_on f [] = None
one_on f (x ∷ stack) = option_and_then (λ z. Some (z ∷ stack)) (f x)

abbrev pub two_on : (Thing → Thing → Option Thing) → List Thing → Option (List Thing)
two_on f [] = None
two_on f (x ∷ []) = None
two_on f (x ∷ y ∷ stack) = option_and_then (λ z. Some (z ∷ stack)) (f x y)

-- a shift that may be spelt
abbrev pub shift_on : ℕ → List Thing → Option (List Thing)
shift_on n stack = cond (nat_le n greatest_shift) (Some (ASubst (shift_by n) ∷ stack)) None

-- the stack after an instruction
abbrev pub stepped : Instruction → Option (List Thing) → Option (List Thing) → Option (List Thing)
stepped (make.Part k) parts stack = both (part_on k) parts stack
stepped (make.Var k) parts stack = option_and_then (consed (ATree (Var k))) stack
stepped (make.Make op) parts stack = option_and_then (make_on op) stack
stepped make.Instance parts stack = option_and_then (two_on instance_of) stack
stepped (make.Shift n) parts stack = option_and_then (shift_on n) stack
stepped make.Push parts stack = option_and_then (two_on pushed_on) stack
stepped make.Then parts stack = option_and_then (two_on then_of) stack
stepped make.CtxNil parts stack = option_and_then (consed (AContext Nil)) stack
stepped make.CtxVar parts stack = option_and_then (two_on with_variable) stack
stepped make.CtxName parts stack = option_and_then (one_on with_a_name) stack
stepped make.CtxFace parts stack = option_and_then (two_on with_a_face) stack
stepped (make.Call d) parts stack = option_and_then (call_on d) stack

-- the stack after all instructions, the last first
abbrev pub run : List Instruction → Option (List Thing) → Option (List Thing)
run [] parts = Some []
run (instruction ∷ rest) parts = stepped instruction parts (run rest parts)

-- the only thing on the stack
abbrev pub only : List Thing → Option Thing
only (x ∷ []) = Some x
only _ = None

-- the lists that references point to
abbrev pub lists_of : List (Bor (List Instruction)) → List (List Instruction)
lists_of = map (λ place. place.now)

-- what the instructions make of the parts
abbrev pub thing_of : Option (List Thing) → List Instruction → Option Thing
thing_of parts place = option_and_then only (run place parts)

-- what each of some places makes, where each makes something
abbrev pub things_of : Option (List Thing) → List (List Instruction) → Option (List Thing)
things_of parts [] = Some []
things_of parts (place ∷ places) = both consed (thing_of parts place) (things_of parts places)

-- how many rows the instructions add at most
abbrev pub rows_for : Instruction → ℕ
rows_for (make.Part k) = 0
rows_for (make.Call d) = rows_of d
rows_for _ = 1

abbrev pub rows_in : List Instruction → ℕ
rows_in [] = 0
rows_in (instruction ∷ rest) = rows_for instruction + rows_in rest

abbrev pub rows_of_all : List (List Instruction) → ℕ
rows_of_all [] = 0
rows_of_all (place ∷ places) = rows_in place + rows_of_all places

-- how many things an instruction takes off the stack
abbrev pub takes : Instruction → ℕ
takes (make.Make op) = kids_of op
takes (make.Call d) = arity_of d
takes make.Instance = 2
takes make.Push = 2
takes make.Then = 2
takes make.CtxVar = 2
takes make.CtxName = 1
takes make.CtxFace = 2
takes _ = 0

-- how many things the instructions leave on it
abbrev pub left : List Instruction → ℕ
left [] = 0
left (instruction ∷ rest) = left rest + 1 - takes instruction

-- the rank from which on an instruction, and each of some, may be followed
abbrev pub rank_for : Instruction → ℕ
rank_for (make.Call d) = suc (rank_of d)
rank_for _ = 0

abbrev pub rank_in : List Instruction → ℕ
rank_in [] = 0
rank_in (instruction ∷ rest) = max (rank_for instruction) (rank_in rest)

abbrev pub is_then : Instruction → Bool
is_then make.Then = true
is_then _ = false

-- what `then` takes: a part, then a part or a shift
abbrev pub then_takes : List Instruction → Bool
then_takes (make.Part k ∷ make.Part j ∷ rest) = true
then_takes (make.Part k ∷ make.Shift n ∷ rest) = true
then_takes _ = false
