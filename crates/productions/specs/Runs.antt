-- What runs of the parser are worth.
use Rattle.std.specs.Prelude.{◌≡◌, List, [], ◌∷◌, ◌++◌, Option, Some, None}
use Rattle.syntax.specs.Tree.{Tree}
use Rattle.productions.specs.Words.{Piece}
use Rattle.productions.specs.Grammar.{IsBegun}
use Rattle.productions.specs.Machine.{State, finish, and_step, run}
use Rattle.productions.specs.declared.past.Past.{Past}

-- runs from this state read texts of this kind exactly
pub record IsExact (IsText : List Piece → Tree → Past → Type 0) (start : Option State) :
    Type 0 where
  -- a run that may end has a reading of its tokens
  pub reads : (ts : List Piece) (s : State) (m : Tree) → run start ts ≡ Some s
      → finish s.top s.past s.stack ≡ Some m → IsText ts m s.past
  -- and there is no other
  pub only : (ts : List Piece) (s : State) (m n : Tree) (q : Past)
      → run start ts ≡ Some s → finish s.top s.past s.stack ≡ Some m
      → IsText ts n q → (n ≡ m) × (q ≡ s.past)
  -- where a run stops, a text begins with the tokens before, and none with the next one too
  pub stops : (before : List Piece) (s : State) (t : Piece)
      → run start before ≡ Some s → and_step (Some s) t ≡ None
      → IsBegun IsText before × (IsBegun IsText (before ++ t ∷ []) → ⊥)
  -- and so at the end
  pub stops_at_end : (ts : List Piece) (s : State)
      → run start ts ≡ Some s → finish s.top s.past s.stack ≡ None
      → IsBegun IsText ts × ((m : Tree) (q : Past) → IsText ts m q → ⊥)
