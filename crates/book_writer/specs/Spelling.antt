-- How the rows and nodes of a book are spelt as the rows of a derivation file.
use Rattle.std.specs.Prelude.{ℕ, ◌+◌, List, [], ◌∷◌, ◌++◌, map, length, Option, Some, None}
use Rattle.std.specs.Prelude.{slice_get, take}
use Rattle.std.specs.List.{flat_map}
use Rattle.rows.specs.Tables.{built}
use Rattle.deriv_file.specs.declared.row.Row.{Row}
use Rattle.deriv_file.specs.declared.row.Row.TheVariants as row
use Rattle.deriv_file.specs.Spelling.{newest}
use Rattle.interned.specs.declared.heads.Head.{Head}
use Rattle.interned.specs.declared.heads.Head.TheVariants as head
use Rattle.interned.specs.Heads.{head_coded}
use Rattle.book.specs.Nodes.{Node, node_coded}
use Rattle.book_writer.specs.Chains.{Chain, Spelt, top_of, alone, shifted, pushed, thens}

-- the header, and what the rows of the book became
abbrev pub file_of : List Spelt → List Row
file_of known = row.Header newest ∷ flat_map (λ s. s.rows) known

abbrev pub chain_in : Option Spelt → Chain
chain_in (Some s) = s.chain
chain_in None = record { links = []; base = 0; shift = 0 }

-- where a row of the book stands in the file
abbrev pub chain_at : List Spelt → ℕ → Chain
chain_at known k = chain_in (slice_get known k)

-- the row of the file that a row of the book is
abbrev pub place : List Spelt → ℕ → ℕ
place known k = top_of (chain_at known k)

abbrev pub nothing : Spelt
nothing = record { rows = []; chain = record { links = []; base = 0; shift = 0 } }

-- What a row with that head and these cells becomes, where `next` is the number of the row that
-- comes. Those of a substitution begin with its size.
abbrev pub spelt_as : List Spelt → ℕ → Head → List ℕ → Spelt
spelt_as known next head.Var (k ∷ []) = alone next (row.Var k)
spelt_as known next head.Instance (t ∷ d ∷ []) =
    alone next (row.Instance (place known t) (place known d))
spelt_as known next (head.Make op) kids = alone next (row.Make op (map (place known) kids))
spelt_as known next head.Shift (high ∷ low ∷ shift ∷ n ∷ []) = shifted next n
spelt_as known next head.Push (high ∷ low ∷ shift ∷ d ∷ a ∷ []) =
    pushed next (chain_at known d) (place known a)
spelt_as known next head.Then (high ∷ low ∷ shift ∷ d ∷ e ∷ []) =
    thens next (chain_at known d) (chain_at known e)
spelt_as known next head.CtxNil [] = alone next row.CtxNil
spelt_as known next head.CtxVar (G ∷ A ∷ []) =
    alone next (row.CtxVar (place known G) (place known A))
spelt_as known next head.CtxName (G ∷ []) = alone next (row.CtxName (place known G))
spelt_as known next head.CtxFace (G ∷ p ∷ []) =
    alone next (row.CtxFace (place known G) (place known p))
spelt_as known next _ _ = nothing

abbrev pub spelt_headed : List Spelt → Option Head → List ℕ → Spelt
spelt_headed known None cells = nothing
spelt_headed known (Some h) cells = spelt_as known (length (file_of known)) h cells

-- what the row of these words becomes; no words become nothing
abbrev pub spelt_row : List Spelt → List ℕ → Spelt
spelt_row known [] = nothing
spelt_row known (word ∷ cells) = spelt_headed known (head_coded (word ∷ cells)) cells

abbrev pub spelt_rows : List (List ℕ) → List Spelt
spelt_rows = built spelt_row

-- a node, where the nodes stand at these places
abbrev pub node_row : List Spelt → (ℕ → ℕ) → Node → Row
node_row known at n = row.Node n.rule (map (place known) n.parts) (map at n.premises)

abbrev pub node_rows : List Spelt → (ℕ → ℕ) → Option Node → List Row
node_rows known at None = []
node_rows known at (Some n) = node_row known at n ∷ []

abbrev pub node_count : Option Node → ℕ
node_count None = 0
node_count (Some n) = 1

-- how many nodes these words say
abbrev pub count_nodes : List (List ℕ) → ℕ
count_nodes [] = 0
count_nodes (words ∷ nodes) = node_count (node_coded words) + count_nodes nodes

-- the row of the file that a node is, where the first of the nodes is row `first`; no words become
-- nothing
abbrev pub node_place : List (List ℕ) → ℕ → ℕ → ℕ
node_place nodes first k = first + count_nodes (take k nodes)

-- the nodes after what the rows became
abbrev pub spelt_nodes : List Spelt → List (List ℕ) → List Row
spelt_nodes known nodes =
    let at = node_place nodes (length (file_of known)) in
    flat_map (λ words. node_rows known at (node_coded words)) nodes

-- the rows of the book and then its nodes
abbrev pub spelt_book : List (List ℕ) → List (List ℕ) → List Row
spelt_book rows nodes = let known = spelt_rows rows in file_of known ++ spelt_nodes known nodes

-- and after them a row for each root
abbrev pub spelt_file : List (List ℕ) → List (List ℕ) → List ℕ → List Row
spelt_file rows nodes roots =
    let known = spelt_rows rows in
    spelt_book rows nodes ++ map (λ k. row.Root (node_place nodes (length (file_of known)) k)) roots
