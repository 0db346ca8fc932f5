-- The table of operators: their names, and how many variables or names each of their kids binds.
use Rattle.std.specs.Prelude.{◌≡◌, ℕ, List, [], ◌∷◌, codes, length, slice_index}
use Rattle.trees.specs.declared.op.Op.{Op}
use Rattle.trees.specs.declared.op.Op.TheVariants.{I0, I1, Neg, Min, Max, F0, F1, Eq0, Eq1, Meet}
use Rattle.trees.specs.declared.op.Op.TheVariants.{Join, All, U, Pi, Lam, App, Sig, Pair, Fst, Snd}
use Rattle.trees.specs.declared.op.Op.TheVariants.{PathP, PLam, PApp, Nat, Zero, Suc, NatRec, Sys}
use Rattle.trees.specs.declared.op.Op.TheVariants.{Empty, Comp, GlueType, Glue, Unglue}
use Rattle.trees.specs.declared.op.OpSignature.{OpSignature}

-- the name, and how many variables or names each kid binds
pub record Signature : Type 0 where
  pub name : List ℕ
  pub binds : List ℕ

abbrev pub signed : List ℕ → List ℕ → Signature
signed name binds = record { name = name; binds = binds }

abbrev pub signature_of : Op → Signature
signature_of I0 = signed (codes "i0") []
signature_of I1 = signed (codes "i1") []
signature_of Neg = signed (codes "neg") (0 ∷ [])
signature_of Min = signed (codes "min") (0 ∷ 0 ∷ [])
signature_of Max = signed (codes "max") (0 ∷ 0 ∷ [])
signature_of F0 = signed (codes "f0") []
signature_of F1 = signed (codes "f1") []
signature_of Eq0 = signed (codes "eq0") (0 ∷ [])
signature_of Eq1 = signed (codes "eq1") (0 ∷ [])
signature_of Meet = signed (codes "meet") (0 ∷ 0 ∷ [])
signature_of Join = signed (codes "join") (0 ∷ 0 ∷ [])
signature_of All = signed (codes "all") (1 ∷ [])
signature_of U = signed (codes "U") []
signature_of Pi = signed (codes "pi") (0 ∷ 1 ∷ [])
signature_of Lam = signed (codes "lam") (0 ∷ 1 ∷ [])
signature_of App = signed (codes "app") (0 ∷ 0 ∷ [])
signature_of Sig = signed (codes "sig") (0 ∷ 1 ∷ [])
signature_of Pair = signed (codes "pair") (0 ∷ 0 ∷ [])
signature_of Fst = signed (codes "fst") (0 ∷ [])
signature_of Snd = signed (codes "snd") (0 ∷ [])
signature_of PathP = signed (codes "pathp") (1 ∷ 0 ∷ 0 ∷ [])
signature_of PLam = signed (codes "plam") (1 ∷ [])
signature_of PApp = signed (codes "papp") (0 ∷ 0 ∷ [])
signature_of Nat = signed (codes "nat") []
signature_of Zero = signed (codes "zero") []
signature_of Suc = signed (codes "suc") (0 ∷ [])
signature_of NatRec = signed (codes "natrec") (1 ∷ 0 ∷ 0 ∷ 0 ∷ [])
signature_of Sys = signed (codes "sys") (0 ∷ 0 ∷ 0 ∷ 0 ∷ [])
signature_of Empty = signed (codes "empty") []
signature_of Comp = signed (codes "comp") (1 ∷ 0 ∷ 1 ∷ 0 ∷ [])
signature_of GlueType = signed (codes "Glue") (0 ∷ 0 ∷ 0 ∷ 0 ∷ [])
signature_of Glue = signed (codes "glue") (0 ∷ 0 ∷ 0 ∷ [])
signature_of Unglue = signed (codes "unglue") (0 ∷ 0 ∷ 0 ∷ 0 ∷ [])

-- the row in the program is that signature
abbrev pub Shows : Signature → OpSignature → Type 0
Shows s row = (row.name.now ≡ s.name) × (row.binds.now ≡ s.binds)

abbrev pub name_of : Op → List ℕ
name_of op = (signature_of op).name

abbrev pub kids_of : Op → ℕ
kids_of op = length (signature_of op).binds

-- how many variables or names a kid binds, the kids counted from 0
abbrev pub binds_of : Op → ℕ → ℕ
binds_of op kid = slice_index (signature_of op).binds kid
