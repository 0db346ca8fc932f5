-- The rows of a derivation file, and the one spelling of each.
use Rattle.std.specs.Prelude.{◌≡◌, ◌<◌, ◌≤◌, ◌^◌, ℕ, List, [], ◌∷◌, ◌++◌}
use Rattle.std.specs.Prelude.{map, length, codes, decimal, IsTrue}
use Rattle.std.specs.List.{All, join_with_byte}
use Rattle.trees.specs.Operators.{name_of as operator_name, kids_of}
use Rattle.trees.specs.Trees.{greatest_shift}
use Rattle.theory.specs.OperatorNames.{has_operator}
use Rattle.theory.specs.RuleNames.{name_of as rule_name, kinds_of, premises_of, first_version}
use Rattle.deriv_file.specs.declared.row.Row.{Row}
use Rattle.deriv_file.specs.declared.row.Row.TheVariants.{Header, Var, Make, Instance, Shift}
use Rattle.deriv_file.specs.declared.row.Row.TheVariants.{Push, CtxNil, CtxVar, CtxName}
use Rattle.deriv_file.specs.declared.row.Row.TheVariants.{CtxFace, Node, Root}

-- the words of a row
abbrev pub words_of : Row → List (List ℕ)
words_of (Header version) = codes "rules" ∷ decimal version ∷ []
words_of (Var index) = codes "t" ∷ codes "var" ∷ decimal index ∷ []
words_of (Make op kids) = codes "t" ∷ operator_name op ∷ map decimal kids
words_of (Instance term sub) = codes "x" ∷ map decimal (term ∷ sub ∷ [])
words_of (Shift by) = codes "s" ∷ codes "shift" ∷ decimal by ∷ []
words_of (Push sub term) = codes "s" ∷ codes "push" ∷ map decimal (sub ∷ term ∷ [])
words_of CtxNil = codes "c" ∷ codes "nil" ∷ []
words_of (CtxVar ctx ty) = codes "c" ∷ codes "var" ∷ map decimal (ctx ∷ ty ∷ [])
words_of (CtxName ctx) = codes "c" ∷ codes "name" ∷ decimal ctx ∷ []
words_of (CtxFace ctx face) = codes "c" ∷ codes "face" ∷ map decimal (ctx ∷ face ∷ [])
words_of (Node rule parts premises) =
    codes "n" ∷ rule_name rule ∷ (map decimal parts ++ map decimal premises)
words_of (Root node) = codes "r" ∷ decimal node ∷ []

-- its line: the words with a space between any two, and a newline
abbrev pub spelled : Row → List ℕ
spelled row = join_with_byte 32 (words_of row) ++ 10 ∷ []

-- the newest version of the rules that files may have
abbrev pub newest : ℕ
newest = 1

-- n names a row before row `at`
abbrev pub Earlier : ℕ → ℕ → Type 0
Earlier at n = (n < at) × (n < 2 ^ 64)

-- A row may be row `at` of a file, where the rules have that version. That the rows which it names
-- are of the right kinds is not asked.
abbrev pub MayStand : ℕ → ℕ → Row → Type 0
MayStand version at (Header v) = (at ≡ 0) × (1 ≤ v) × (v ≤ newest)
MayStand version at (Var index) = index < 2 ^ 32
MayStand version at (Make op kids) =
    IsTrue (has_operator version op) × (length kids ≡ kids_of op) × All (Earlier at) kids
MayStand version at (Instance term sub) = All (Earlier at) (term ∷ sub ∷ [])
MayStand version at (Shift by) = by ≤ greatest_shift
MayStand version at (Push sub term) = All (Earlier at) (sub ∷ term ∷ [])
MayStand version at CtxNil = Unit {0}
MayStand version at (CtxVar ctx ty) = All (Earlier at) (ctx ∷ ty ∷ [])
MayStand version at (CtxName ctx) = Earlier at ctx
MayStand version at (CtxFace ctx face) = All (Earlier at) (ctx ∷ face ∷ [])
MayStand version at (Node rule parts premises) =
    (first_version rule ≤ version) × (length parts ≡ length (kinds_of rule)) ×
    (length premises ≡ premises_of rule)
    × All (Earlier at) parts × All (Earlier at) premises
MayStand version at (Root node) = Earlier at node

-- a line, with its newline, spells the row at that place
abbrev pub Spells : ℕ → ℕ → List ℕ → Row → Type 0
Spells version at line row = (line ≡ spelled row) × MayStand version at row

-- the version of the rules after a row
abbrev pub version_after : ℕ → Row → ℕ
version_after version (Header v) = v
version_after version row = version
