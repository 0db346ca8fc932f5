-- Which trees are normal: nothing is left to compute in them, and they have one way to be written.
-- It is said of a tree in a context whose faces together are one conjunction, and names that this
-- fixes do not occur. It is a condition on the tree alone.
use Rattle.std.specs.Prelude.{◌≡◌, ◌≢◌, ◌⊎◌, ◌↔◌, ℕ, suc, Bool, List, [], ◌∷◌, map, IsTrue}
use Rattle.std.specs.List.{All}
use Rattle.std.specs.List.Sorted.{IsStrictlySortedBy}
use Rattle.trees.specs.declared.op.Op.{Op}
use Rattle.trees.specs.declared.op.Op.TheVariants as op
use Rattle.trees.specs.Trees.{Tree, Var, Make, NoTrees, More}
use Rattle.antichains.specs.Antichains.{IsNormal}
use Rattle.normal_formulas.specs.declared.atoms.Atom.{Atom}
use Rattle.normal_formulas.specs.Atoms.{level_cmp, atom_cmp, sum_of_products, conjunction, cover}
use Rattle.normal_formulas.specs.Atoms.{IsNot}
use Rattle.fixed_names.specs.Fixed.{Fixed, IsFree, fix, bind}

-- the names of a conjunction are fixed too
abbrev pub fix_all : List Atom → Fixed → Fixed
fix_all [] z = z
fix_all (e ∷ es) z = fix_all es (fix e.index.0 z)

-- a conjunction below one more binder
abbrev pub raised : List Atom → List Atom
raised es = map (λ e. record { index = record { 0 = suc e.index.0 }; sign = e.sign }) es

-- A formula is a sum of products of names and their negations, none of which is fixed. Products are
-- in order, and none contains another.
pub record IsNormalFormula (z : Fixed) (r : Tree) : Type 0 where
  pub products : List (List Atom)
  pub is : r ≡ sum_of_products products
  pub ordered : IsNormal atom_cmp products
  pub free : All (All (λ a. IsFree z a.index.0)) products

-- Conjunctions in order, none implied by another, each of names in order of level, none of which is
-- fixed. None is that of no equation: where one is, the face holds.
pub record AreConjunctions (z : Fixed) (cs : List (List Atom)) : Type 0 where
  pub ordered : IsNormal atom_cmp cs
  pub rising : All (IsStrictlySortedBy level_cmp) cs
  pub some : All (λ c. c ≢ []) cs
  pub free : All (All (λ e. IsFree z e.index.0)) cs

-- a face is the Cover of such conjunctions
pub record IsNormalFace (z : Fixed) (p : Tree) (cs : List (List Atom)) : Type 0 where
  pub is : p ≡ cover cs
  pub conjunctions : AreConjunctions z cs

-- the tree begins with that operator
abbrev pub Begins : Op → Tree → Type 0
Begins o (Var k) = ⊥
Begins o (Make other kids) = other ≡ o

-- each side does
abbrev pub SidesBegin : Op → Tree → Type 0
SidesBegin o (Make op.Sys (More p (More q (More t (More rest NoTrees))))) =
    Begins o t × SidesBegin o rest
SidesBegin o _ = Unit {0}

-- `comp` over `nat` whose base and sides are all `zero`, or all `suc`
abbrev pub Computes : Tree → Tree → Tree → Type 0
Computes A b a = Begins op.Nat A
    × ((Begins op.Zero a × SidesBegin op.Zero b) ⊎ (Begins op.Suc a × SidesBegin op.Suc b))

-- no composition computes over that line for what it is
abbrev pub IsLine : Tree → Type 0
IsLine A = IsNot op.Pi A × IsNot op.Sig A × IsNot op.PathP A × IsNot op.GlueType A × IsNot op.U A

abbrev mutual
  pub Normal : Fixed → Tree → Type 0
  Normal z (Var k) = IsFree z k
  Normal z (Make op.U NoTrees) = Unit {0}
  Normal z (Make op.Pi (More A (More B NoTrees))) = Normal z A × Normal (bind z) B
  Normal z (Make op.Lam (More A (More b NoTrees))) = Normal z A × Normal (bind z) b
  Normal z (Make op.App (More f (More a NoTrees))) = IsNot op.Lam f × Normal z f × Normal z a
  Normal z (Make op.Sig (More A (More B NoTrees))) = Normal z A × Normal (bind z) B
  Normal z (Make op.Pair (More a (More b NoTrees))) = Normal z a × Normal z b
  Normal z (Make op.Fst (More c NoTrees)) = IsNot op.Pair c × Normal z c
  Normal z (Make op.Snd (More c NoTrees)) = IsNot op.Pair c × Normal z c
  Normal z (Make op.PathP (More A (More a (More b NoTrees)))) =
      Normal (bind z) A × Normal z a × Normal z b
  Normal z (Make op.PLam (More b NoTrees)) = Normal (bind z) b
  Normal z (Make op.PApp (More c (More r NoTrees))) =
      IsNot op.PLam c × Normal z c × IsNot op.I0 r × IsNot op.I1 r × IsNormalFormula z r
  Normal z (Make op.Nat NoTrees) = Unit {0}
  Normal z (Make op.Zero NoTrees) = Unit {0}
  Normal z (Make op.Suc (More m NoTrees)) = Normal z m
  Normal z (Make op.NatRec (More P (More a (More b (More m NoTrees))))) =
      Normal (bind z) P × Normal z a × Normal z b × IsNot op.Zero m × IsNot op.Suc m × Normal z m
  Normal z (Make op.Comp (More A (More p (More b (More a NoTrees))))) =
      (cs : List (List Atom)) × IsNormalFace z p cs × IsLine A × Normal (bind z) A
      × AreSides (bind z) (map raised cs) b × Normal z a × (Computes A b a → ⊥)
  Normal z (Make op.GlueType (More A (More p (More T (More w NoTrees))))) =
      (cs : List (List Atom)) × IsNormalFace z p cs
      × Normal z A × AreSides z cs T × AreSides z cs w
  Normal z (Make op.Glue (More p (More c (More a NoTrees)))) =
      (cs : List (List Atom)) × IsNormalFace z p cs × AreSides z cs c × Normal z a
  Normal z (Make op.Unglue (More p (More T (More w (More b NoTrees))))) =
      (cs : List (List Atom)) × IsNormalFace z p cs
      × AreSides z cs T × AreSides z cs w × IsNot op.Glue b × Normal z b
  Normal z _ = ⊥

  -- one side for each conjunction, normal where this fixes its names
  pub AreSides : Fixed → List (List Atom) → Tree → Type 0
  AreSides z [] (Make op.Empty NoTrees) = Unit {0}
  AreSides z (c ∷ cs) (Make op.Sys (More p (More q (More t (More rest NoTrees))))) =
      (p ≡ conjunction c) × (q ≡ cover cs) × Normal (fix_all c z) t × AreSides z cs rest
  AreSides z _ _ = ⊥
