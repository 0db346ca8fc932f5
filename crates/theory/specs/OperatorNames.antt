-- The operators that files of a version may name.
use Rattle.std.specs.Prelude.{ℕ, List, Bool, nat_le, ◌≡◌, IsTrue}
use Rattle.trees.specs.declared.op.Op.{Op}
use Rattle.trees.specs.Operators.{name_of}

-- the version from which on files may name the operator, whether a rule speaks of it or not
abbrev pub first_version : Op → ℕ
first_version op = 1

abbrev pub has_operator : ℕ → Op → Bool
has_operator version op = nat_le (first_version op) version

-- the operator has that name, and files of the version may name it
abbrev pub IsOperator : ℕ → List ℕ → Op → Type 0
IsOperator version name op = (name ≡ name_of op) × IsTrue (has_operator version op)
