-- Bounds on the table of operators.
use Rattle.std.proofs.Common.{◌≡◌, ◌&&◌, ℕ, zero, suc, ◌≤◌, nat_le, Bool, true, List, [], ◌∷◌, get_or, refl, arith}
use Rattle.std.specs.List.{list_all}
use Rattle.std.proofs.lemmas.Bool.{and_parts, leb-true}
use Rattle.trees.specs.declared.op.Op.{Op}
use Rattle.trees.specs.declared.op.Op.TheVariants.{I0}
use Rattle.trees.specs.Operators.{signature_of, kids_of, binds_of}

-- Of each operator by computation: the first line makes the second run through the others.

few_kids : (op : Op) → nat_le (kids_of op) 4 ≡ true
few_kids I0 = refl
few_kids _ = refl

one_each : (op : Op) → list_all (λ count. nat_le count 1) (signature_of op).binds ≡ true
one_each I0 = refl
one_each _ = refl

each_at : (counts : List ℕ) → list_all (λ count. nat_le count 1) counts ≡ true → (k : ℕ) → get_or counts k 0 ≤ 1
each_at [] e k = omega arith
each_at (count ∷ counts) e zero = leb-true count 1 (and_parts (nat_le count 1) (list_all (λ n. nat_le n 1) counts) e).0
each_at (count ∷ counts) e (suc k) = each_at counts (and_parts (nat_le count 1) (list_all (λ n. nat_le n 1) counts) e).1 k

pub kids_of-most : (op : Op) → kids_of op ≤ 4
kids_of-most op = leb-true (kids_of op) 4 (few_kids op)

pub binds_of-most : (op : Op) (kid : ℕ) → binds_of op kid ≤ 1
binds_of-most op kid = each_at (signature_of op).binds (one_each op) kid
