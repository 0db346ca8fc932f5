-- Names with a sign: their order, and the trees that they stand for.
use Rattle.std.specs.Prelude.{◌≢◌, ◌<◌, ℕ, Bool, true, false, List, [], ◌∷◌, map, Vec}
use Rattle.std.specs.Prelude.{Option, Some, None}
use Rattle.std.specs.declared.alloc.Global.{Global}
use Rattle.std.specs.declared.cmp.Ordering.{Ordering}
use Rattle.std.specs.Ordering.{nat_cmp, bool_cmp, then_cmp, on}
use Rattle.trees.specs.declared.op.Op.{Op}
use Rattle.trees.specs.declared.op.Op.TheVariants as op
use Rattle.trees.specs.Trees.{Tree, Var, Make, NoTrees, More}
use Rattle.normal_formulas.specs.declared.atoms.Atom.{Atom}
use Rattle.normal_formulas.specs.declared.atoms.Sort.{Sort}
use Rattle.normal_formulas.specs.declared.atoms.Sort.TheVariants as sort

-- by level, so that a greater index comes first
abbrev pub level_cmp : Atom → Atom → Ordering
level_cmp a b = nat_cmp b.index.0 a.index.0

-- and `false` before `true`
abbrev pub atom_cmp : Atom → Atom → Ordering
atom_cmp = then_cmp level_cmp (on (λ a. a.sign) bool_cmp)

-- the lists that vectors hold
abbrev pub lists_of : {X : Type 0} → List (Vec X Global) → List (List X)
lists_of vectors = map (λ v. v.items) vectors

-- a name, or its negation
abbrev pub signed_name : ℕ → Bool → Tree
signed_name k false = Var k
signed_name k true = Make op.Neg (More (Var k) NoTrees)

-- a name at an end
abbrev pub at_end : ℕ → Bool → Tree
at_end k false = Make op.Eq0 (More (Var k) NoTrees)
at_end k true = Make op.Eq1 (More (Var k) NoTrees)

abbrev pub atom_tree : Sort → Atom → Tree
atom_tree sort.Literals a = signed_name a.index.0 a.sign
atom_tree sort.Equations a = at_end a.index.0 a.sign

-- the operator over names that an atom of that sign is
abbrev pub sign_of : Sort → Op → Option Bool
sign_of sort.Literals op.Neg = Some true
sign_of sort.Equations op.Eq0 = Some false
sign_of sort.Equations op.Eq1 = Some true
sign_of _ _ = None

-- trees under an operator, nested to the right
abbrev pub nested : Op → Op → List Tree → Tree
nested o none [] = Make none NoTrees
nested o none (t ∷ []) = t
nested o none (t ∷ u ∷ us) = Make o (More t (More (nested o none (u ∷ us)) NoTrees))

abbrev pub joiner_of : Sort → Op
joiner_of sort.Literals = op.Min
joiner_of sort.Equations = op.Meet

abbrev pub none_of : Sort → Op
none_of sort.Literals = op.I1
none_of sort.Equations = op.F1

-- the product of literals, and the conjunction of equations
abbrev pub product : Sort → List Atom → Tree
product s atoms = nested (joiner_of s) (none_of s) (map (atom_tree s) atoms)

abbrev pub conjunction : List Atom → Tree
conjunction = product sort.Equations

abbrev pub sum_of_products : List (List Atom) → Tree
sum_of_products products = nested op.Max op.I0 (map (product sort.Literals) products)

-- the face that is true where one of these is
abbrev pub cover : List (List Atom) → Tree
cover [] = Make op.F0 NoTrees
cover (c ∷ cs) = Make op.Join (More (conjunction c) (More (cover cs) NoTrees))

-- the tree does not begin with that operator
abbrev pub IsNot : Op → Tree → Type 0
IsNot o (Var k) = Unit {0}
IsNot o (Make other kids) = other ≢ o

-- the names come in order of level, none twice
abbrev pub Falls : List Atom → Type 0
Falls [] = Unit {0}
Falls (a ∷ []) = Unit {0}
Falls (a ∷ b ∷ rest) = (b.index.0 < a.index.0) × Falls (b ∷ rest)
