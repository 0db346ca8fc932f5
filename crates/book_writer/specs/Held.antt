-- Rows of a file as they are held: what each is, and beside it the numbers of the rows it names.
use Rattle.std.specs.Prelude.{◌≤◌, ◌+◌, ℕ, List, ◌∷◌, length, take, drop}
use Rattle.trees.specs.Operators.{kids_of}
use Rattle.theory.specs.RuleNames.{kinds_of, premises_of}
use Rattle.deriv_file.specs.declared.row.Row.{Row}
use Rattle.deriv_file.specs.declared.row.Row.TheVariants as row
use Rattle.deriv_file.specs.Spelling.{newest}
use Rattle.book_writer.specs.declared.lines.RowHead.{RowHead}
use Rattle.book_writer.specs.declared.lines.RowHead.TheVariants as head
use Rattle.book_writer.specs.declared.lines.Line.{Line}

-- how many rows such a row names
abbrev pub names_of : RowHead → ℕ
names_of head.Header = 0
names_of (head.Var k) = 0
names_of (head.Make op) = kids_of op
names_of head.Instance = 2
names_of (head.Shift n) = 0
names_of head.Push = 2
names_of head.CtxNil = 0
names_of head.CtxVar = 2
names_of head.CtxName = 1
names_of head.CtxFace = 2
names_of (head.Node rule) = length (kinds_of rule) + premises_of rule

-- such a row with these names; the header where they are too few
abbrev pub row_of : RowHead → List ℕ → Row
row_of (head.Var k) names = row.Var k
row_of (head.Make op) names = row.Make op names
row_of head.Instance (t ∷ d ∷ names) = row.Instance t d
row_of (head.Shift n) names = row.Shift n
row_of head.Push (d ∷ t ∷ names) = row.Push d t
row_of head.CtxNil names = row.CtxNil
row_of head.CtxVar (G ∷ A ∷ names) = row.CtxVar G A
row_of head.CtxName (G ∷ names) = row.CtxName G
row_of head.CtxFace (G ∷ p ∷ names) = row.CtxFace G p
row_of (head.Node rule) names =
    row.Node rule (take (length (kinds_of rule)) names) (drop (length (kinds_of rule)) names)
row_of _ _ = row.Header newest

-- the names of a line, among all names
abbrev pub names_at : List ℕ → Line → List ℕ
names_at names line = take (names_of line.head) (drop line.start names)

abbrev pub line_row : List ℕ → Line → Row
line_row names line = row_of line.head (names_at names line)

-- the names of the line are there
abbrev pub HasNames : List ℕ → Line → Type 0
HasNames names line = line.start + names_of line.head ≤ length names
