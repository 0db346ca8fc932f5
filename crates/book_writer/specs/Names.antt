-- The rows that a row of a file names, and a row with other numbers.
use Rattle.std.specs.Prelude.{◌≡◌, ◌<◌, ℕ, zero, suc, List, [], ◌∷◌, ◌++◌, map, length}
use Rattle.std.specs.Prelude.{Bool, true, false, Some, slice_get, slice_index_or}
use Rattle.std.specs.List.{Contains}
use Rattle.deriv_file.specs.declared.row.Row.{Row}
use Rattle.deriv_file.specs.declared.row.Row.TheVariants as row

abbrev pub names_in : Row → List ℕ
names_in (row.Header version) = []
names_in (row.Var index) = []
names_in (row.Make op kids) = kids
names_in (row.Instance term sub) = term ∷ sub ∷ []
names_in (row.Shift by) = []
names_in (row.Push sub term) = sub ∷ term ∷ []
names_in row.CtxNil = []
names_in (row.CtxVar ctx ty) = ctx ∷ ty ∷ []
names_in (row.CtxName ctx) = ctx ∷ []
names_in (row.CtxFace ctx face) = ctx ∷ face ∷ []
names_in (row.Node rule parts premises) = parts ++ premises
names_in (row.Root node) = node ∷ []

-- the row with the numbers that these become
abbrev pub renamed : (ℕ → ℕ) → Row → Row
renamed at (row.Header version) = row.Header version
renamed at (row.Var index) = row.Var index
renamed at (row.Make op kids) = row.Make op (map at kids)
renamed at (row.Instance term sub) = row.Instance (at term) (at sub)
renamed at (row.Shift by) = row.Shift by
renamed at (row.Push sub term) = row.Push (at sub) (at term)
renamed at row.CtxNil = row.CtxNil
renamed at (row.CtxVar ctx ty) = row.CtxVar (at ctx) (at ty)
renamed at (row.CtxName ctx) = row.CtxName (at ctx)
renamed at (row.CtxFace ctx face) = row.CtxFace (at ctx) (at face)
renamed at (row.Node rule parts premises) = row.Node rule (map at parts) (map at premises)
renamed at (row.Root node) = row.Root (at node)

-- The row is a root, or a row names it that serves one.
pub data Serves (rows : List Row) : ℕ → Type 0 where
  is_root : {k : ℕ} (node : ℕ) → slice_get rows k ≡ Some (row.Root node) → Serves rows k
  is_named : {k : ℕ} (j : ℕ) (r : Row) → Serves rows j → slice_get rows j ≡ Some r
      → Contains (names_in r) k → Serves rows k

-- the marked ones
abbrev pub marked : {X : Type 0} → List Bool → List X → List X
marked [] xs = []
marked (m ∷ marks) [] = []
marked (true ∷ marks) (x ∷ xs) = x ∷ marked marks xs
marked (false ∷ marks) (x ∷ xs) = marked marks xs

-- how many are marked before it
abbrev pub number : List Bool → ℕ → ℕ
number [] k = 0
number (m ∷ marks) zero = 0
number (true ∷ marks) (suc k) = suc (number marks k)
number (false ∷ marks) (suc k) = number marks k

-- the marked rows, numbered from 0
abbrev pub numbered : List Bool → List Row → List Row
numbered marks rows = map (renamed (number marks)) (marked marks rows)

-- they are the numbers of all rows, whether marked or not
pub record AreNumbers (marks : List Bool) (numbers : List ℕ) : Type 0 where
  pub count : length numbers ≡ length marks
  pub each : (k : ℕ) → k < length marks → slice_index_or numbers k 0 ≡ number marks k

-- the rows that are written: the marked ones and these as roots, with numbers of their own
abbrev pub written : List Bool → List Row → List ℕ → List Row
written marks rows roots =
    numbered marks rows ++ map (λ k. row.Root k) (map (number marks) roots)
