-- Names that the faces of contexts fix, and trees that are normal there.
use Rattle.std.specs.Prelude.{◌⊎◌, ◌↔◌, ℕ, List, IsTrue}
use Rattle.trees.specs.declared.op.Op.TheVariants as op
use Rattle.trees.specs.Trees.{Tree, Var, Make, NoTrees}
use Rattle.trees.specs.Judgements.{Context}
use Rattle.conditions.specs.Formulas.{eq0, eq1}
use Rattle.conditions.specs.Sides.{HoldsIn, is_name}
use Rattle.normal_parts.specs.Normal.{Normal}
use Rattle.normality.specs.Worlds.{fix_each}

-- its faces are true together somewhere
abbrev pub IsConsistent : Context → Type 0
IsConsistent G = HoldsIn G (Make op.F0 NoTrees) → ⊥

-- the faces fix the name of that index at an end
abbrev pub IsFixed : Context → ℕ → Type 0
IsFixed G k = IsTrue (is_name G k) × (HoldsIn G (eq0 (Var k)) ⊎ HoldsIn G (eq1 (Var k)))

-- they fix these names, and no others
abbrev pub FixesExactly : Context → List ℕ → Type 0
FixesExactly G names = (k : ℕ) → IsTrue (fix_each names k) ↔ IsFixed G k

-- a tree is normal in a context whose faces are true together somewhere
pub record IsNormalIn (G : Context) (n : Tree) : Type 0 where
  pub names : List ℕ
  pub fixed : FixesExactly G names
  pub normal : Normal (fix_each names) n
  pub consistent : IsConsistent G
