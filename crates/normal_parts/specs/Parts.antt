-- Formulas and faces of normal trees, and faces that are written again in systems.
use Rattle.std.specs.Prelude.{◌≡◌, ◌≢◌, suc, Bool, true, false, List, [], ◌∷◌, map}
use Rattle.std.specs.Prelude.{Option, Some, None}
use Rattle.std.specs.List.{All}
use Rattle.std.specs.List.Sorted.{IsStrictlySortedBy}
use Rattle.trees.specs.declared.op.Op.TheVariants as op
use Rattle.trees.specs.Trees.{Tree}
use Rattle.normal_formulas.specs.declared.atoms.Atom.{Atom}
use Rattle.normal_formulas.specs.Atoms.{conjunction, cover, level_cmp, IsNot}
use Rattle.fixed_names.specs.Fixed.{Fixed, IsFree}
use Rattle.normal_parts.specs.Normal.{IsNormalFormula, IsNormalFace}

-- no name in these is fixed
abbrev pub AreFree : Fixed → List Atom → Type 0
AreFree z atoms = All (λ a. IsFree z a.index.0) atoms

abbrev pub AreAllFree : Fixed → List (List Atom) → Type 0
AreAllFree z lists = All (AreFree z) lists

-- the sum of these products is 0 or 1
abbrev pub IsEnd : List (List Atom) → Type 0
IsEnd [] = Unit {0}
IsEnd ([] ∷ []) = Unit {0}
IsEnd _ = ⊥

-- a path may be applied to the formula in a normal tree
abbrev pub MayApply : Fixed → Tree → Type 0
MayApply z r = IsNot op.I0 r × IsNot op.I1 r × IsNormalFormula z r

-- some names, in order of level
abbrev pub IsRising : List Atom → Type 0
IsRising c = (c ≢ []) × IsStrictlySortedBy level_cmp c

abbrev pub HasNormalFace : Fixed → Tree → Type 0
HasNormalFace z p = (cs : List (List Atom)) × IsNormalFace z p cs

-- an atom as it is written there: below one binder more, or not
abbrev pub written_for : Bool → Atom → Atom
written_for true a = record { index = record { 0 = suc a.index.0 }; sign = a.sign }
written_for false a = a

abbrev pub all_written : Bool → List Atom → List Atom
all_written raised atoms = map (written_for raised) atoms

-- One tree is a conjunction, and the other one the same conjunction as it is written there, of
-- these atoms. If none are told they are not.
abbrev pub IsConjunctionOf : Bool → Tree → Tree → Option (List Atom) → Type 0
IsConjunctionOf raised t u (Some atoms) =
    (c : List Atom) × (t ≡ conjunction c) × (u ≡ conjunction (all_written raised c))
    × (atoms ≡ all_written raised c)
IsConjunctionOf raised t u None =
    (c : List Atom) → t ≡ conjunction c → u ≡ conjunction (all_written raised c) → ⊥

-- one tree is a Cover, and the other one the same Cover as it is written there
abbrev pub IsCoverOf : Bool → Tree → Tree → Type 0
IsCoverOf raised t u =
    (cs : List (List Atom)) × (t ≡ cover cs) × (u ≡ cover (map (all_written raised) cs))
