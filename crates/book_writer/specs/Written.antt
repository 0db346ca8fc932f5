-- What the writer appends.
use Rattle.std.specs.Prelude.{◌≡◌, ◌<◌, ℕ, List, ◌++◌, map, length, Option}
use Rattle.trees.specs.Judgements.{Judgement}
use Rattle.trees.specs.Things.{meanings}
use Rattle.deriv_file.specs.declared.row.Row.{Row}
use Rattle.deriv_file.specs.Spelling.{newest}
use Rattle.deriv_file.specs.Lines.{lines, SpellRows}
use Rattle.derivation.specs.Right.{AllRight, Derives}
use Rattle.book.specs.declared.kernel.NodeId.{NodeId}
use Rattle.book.specs.Contents.{Contents}
use Rattle.book.specs.Shown.{book_concludes}
use Rattle.book_writer.specs.Names.{Serves}

-- what these nodes of a book conclude, in order, where all are there
abbrev pub concluded_by : Contents → List NodeId → Option (List Judgement)
concluded_by b nodes = meanings (book_concludes b) (map (λ (node : NodeId). node.0) nodes)

-- The file is right, has so many rows and these roots in order, and each row but the header serves
-- a root.
pub record IsWritten (file : List ℕ) (count : ℕ) (roots : List Judgement) : Type 0 where
  pub right : AllRight file
  pub derives : Derives file count roots
  pub rows : List Row
  pub spelt : SpellRows newest 0 (lines file) rows
  pub serve : (k : ℕ) → 0 < k → k < length rows → Serves rows k

-- such a file is appended
pub record Appends (old new : List ℕ) (count : ℕ) (roots : List Judgement) : Type 0 where
  pub file : List ℕ
  pub is : new ≡ old ++ file
  pub written : IsWritten file count roots
