-- Whether normal terms with unknown parts are formulas and faces over the names of a context, where
-- some parts are declared to be.
use Rattle.std.specs.Prelude.{ℕ, zero, List, [], ◌∷◌, drop, length, nat_le, ◌==◌}
use Rattle.std.specs.Prelude.{Bool, true, false, ◌&&◌, ◌||◌, cond, slice_get, unwrap_or}
use Rattle.std.specs.Prelude.{Option, Some, None}
use Rattle.trees.specs.declared.op.Op.TheVariants as op
use Rattle.trees.specs.Language.{IsFormula, IsFace}
use Rattle.patterns.specs.Patterns.{ContextPart, Empty, AddVar, AddName, AddFace}
use Rattle.patterns.specs.Normals.{Normal, NormalSubst, NormalContext, NVar, NMake, NPart}
use Rattle.patterns.specs.Normals.{NoNormals, MoreNormals, NShift, NPush, NRest, same_normal}
use Rattle.patterns.specs.Tests.{NormalCondition, same_normal_context}

-- of each index that a context adds to its base, the innermost first, whether it is that of a name
abbrev pub names_of : NormalContext → List Bool
names_of (ContextPart k) = []
names_of Empty = []
names_of (AddVar G A) = false ∷ names_of G
names_of (AddName G) = true ∷ names_of G
names_of (AddFace G p) = names_of G

-- what a context begins with: a part, or nothing
abbrev pub base_of : NormalContext → NormalContext
base_of (ContextPart k) = ContextPart k
base_of Empty = Empty
base_of (AddVar G A) = base_of G
base_of (AddName G) = base_of G
base_of (AddFace G p) = base_of G

abbrev pub names_over : NormalContext → NormalContext → Option (List Bool)
names_over base G = cond (same_normal_context (base_of G) base) (Some (names_of G)) None

-- the names over a base of the context over which a condition says that part k is a formula
abbrev pub formula_names : NormalContext → ℕ → NormalCondition → Option (List Bool)
formula_names base k (IsFormula G (NPart l (NShift zero))) = cond (k == l) (names_over base G) None
formula_names base k _ = None

-- the same for a face
abbrev pub face_names : NormalContext → ℕ → NormalCondition → Option (List Bool)
face_names base k (IsFace G (NPart l (NShift zero))) = cond (k == l) (names_over base G) None
face_names base k _ = None

-- the same where it says so of this very tree

abbrev pub formula_told : NormalContext → Normal → NormalCondition → Option (List Bool)
formula_told base t (IsFormula G u) = cond (same_normal t u) (names_over base G) None
formula_told base t _ = None

abbrev pub face_told : NormalContext → Normal → NormalCondition → Option (List Bool)
face_told base t (IsFace G u) = cond (same_normal t u) (names_over base G) None
face_told base t _ = None

abbrev pub first_told : Option (List Bool) → Option (List Bool) → Option (List Bool)
first_told (Some ms) rest = Some ms
first_told None rest = rest

-- the first that a condition tells
abbrev pub found_names : (NormalCondition → Option (List Bool)) → List NormalCondition
    → Option (List Bool)
found_names f [] = None
found_names f (c ∷ cs) = first_told (f c) (found_names f cs)

-- each name of the first is a name of the second, and they are as many
abbrev pub are_names_in : List Bool → List Bool → Bool
are_names_in [] [] = true
are_names_in (true ∷ ms) (n ∷ ns) = n && are_names_in ms ns
are_names_in (false ∷ ms) (n ∷ ns) = are_names_in ms ns
are_names_in _ _ = false

-- a shift by n takes each name of the first to a name of the second, and the base to itself
abbrev pub shifts_names : List Bool → ℕ → List Bool → Bool
shifts_names ms n names = nat_le n (length names) && are_names_in ms (drop n names)

-- it is told over names that are names here
abbrev pub is_told : Option (List Bool) → List Bool → Bool
is_told None names = false
is_told (Some ms) names = shifts_names ms 0 names

module _ (facts : List NormalCondition) (base : NormalContext) (names : List Bool) where
  abbrev mutual
    -- a formula over these names
    pub is_formula_in : Normal → Bool
    is_formula_in (NVar k) = unwrap_or (slice_get names k) false
    is_formula_in (NMake op.I0 NoNormals) = true
    is_formula_in (NMake op.I1 NoNormals) = true
    is_formula_in (NMake op.Neg (MoreNormals r NoNormals)) = is_formula_in r
    is_formula_in (NMake op.Min (MoreNormals r (MoreNormals s NoNormals))) =
        is_formula_in r && is_formula_in s
    is_formula_in (NMake op.Max (MoreNormals r (MoreNormals s NoNormals))) =
        is_formula_in r && is_formula_in s
    is_formula_in (NPart k s) =
        takes (found_names (formula_names base k) facts) s
        || is_told (found_names (formula_told base (NPart k s)) facts) names
    is_formula_in _ = false

    -- the substitution takes each name of these to a formula, and the base to itself
    pub takes : Option (List Bool) → NormalSubst → Bool
    takes None s = false
    takes (Some ms) (NShift n) = shifts_names ms n names
    takes (Some []) (NPush s t) = false
    takes (Some (true ∷ ms)) (NPush s t) = is_formula_in t && takes (Some ms) s
    takes (Some (false ∷ ms)) (NPush s t) = takes (Some ms) s
    takes (Some ms) (NRest n k s) = false

-- a face over these names; `all` binds one more
abbrev pub is_face_in : List NormalCondition → NormalContext → List Bool → Normal → Bool
is_face_in facts base names (NMake op.F0 NoNormals) = true
is_face_in facts base names (NMake op.F1 NoNormals) = true
is_face_in facts base names (NMake op.Eq0 (MoreNormals r NoNormals)) =
    is_formula_in facts base names r
is_face_in facts base names (NMake op.Eq1 (MoreNormals r NoNormals)) =
    is_formula_in facts base names r
is_face_in facts base names (NMake op.Meet (MoreNormals p (MoreNormals q NoNormals))) =
    is_face_in facts base names p && is_face_in facts base names q
is_face_in facts base names (NMake op.Join (MoreNormals p (MoreNormals q NoNormals))) =
    is_face_in facts base names p && is_face_in facts base names q
is_face_in facts base names (NMake op.All (MoreNormals p NoNormals)) =
    is_face_in facts base (true ∷ names) p
is_face_in facts base names (NPart k s) =
    takes facts base names (found_names (face_names base k) facts) s
    || is_told (found_names (face_told base (NPart k s)) facts) names
is_face_in facts base names _ = false
