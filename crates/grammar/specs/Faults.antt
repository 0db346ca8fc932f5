-- When each fault comes.
use Rattle.std.specs.Prelude.{ℕ, ◌≡◌, List, [], ◌∷◌, ◌++◌, Option, Some, None, Bool, true, false}
use Rattle.std.specs.Prelude.{Result, Ok, Err}
use Rattle.syntax.specs.Tree.{Tree}
use Rattle.syntax.specs.View.{tree_of, module_of}
use Rattle.productions.specs.Words.{Word, Refused, Piece, piece}
use Rattle.productions.specs.Grammar.{IsWrongAt}
use Rattle.productions.specs.Machine.{State, finish, and_step, run}
use Rattle.productions.specs.declared.past.Past.{Past}
use Rattle.parser_states.specs.View.{view}
use Rattle.parser_states.specs.declared.state.Parser.{Parser}
use Rattle.grammar.specs.declared.reading.ReadFault.{ReadFault}
use Rattle.grammar.specs.declared.reading.ReadFault.TheVariants.{RefusedForm, Unexpected, TooDeep}
use Rattle.grammar.specs.declared.reading.ReadFault.TheVariants.{Memory}
use Rattle.grammar.specs.declared.reading.Text.{Text}
use Rattle.grammar.specs.declared.reading.Text.TheVariants as T

abbrev pub refuses : Word → Bool
refuses Refused = true
refuses w = false

-- where the first word or sign stands that no text has
abbrev pub first_refused : List Piece → Option ℕ
first_refused [] = None
first_refused (piece Refused s e ∷ ts) = Some s
first_refused (piece w s e ∷ ts) = first_refused ts

-- the tokens are read as this tree and as no other, none of them is refused, and no place of the
-- tree is too deep
pub record IsRead (IsText : List Piece → Tree → Past → Type 0) (ts : List Piece) (m : Tree) :
    Type 0 where
  pub past : Past
  pub is : IsText ts m past
  pub allowed : first_refused ts ≡ None
  pub shallow : past.deep ≡ None
  pub only : (n : Tree) (q : Past) → IsText ts n q → n ≡ m

-- The tokens are read, and the first place of them that is too deep is this one, however they are
-- read.
pub record IsTooDeep (IsText : List Piece → Tree → Past → Type 0) (ts : List Piece) (p : ℕ) :
    Type 0 where
  pub tree : Tree
  pub past : Past
  pub is : IsText ts tree past
  pub deep : past.deep ≡ Some p
  pub always : (n : Tree) (q : Past) → IsText ts n q → q.deep ≡ Some p

-- the fault of these tokens, of a text of this size; the order of the faults is that of the lines
abbrev pub IsFault : (List Piece → Tree → Past → Type 0) → ℕ → List Piece → ReadFault → Type 0
IsFault IsText size ts (RefusedForm p) = first_refused ts ≡ Some p
IsFault IsText size ts (Unexpected p) = (first_refused ts ≡ None) × IsWrongAt IsText size ts p
IsFault IsText size ts (TooDeep p) = (first_refused ts ≡ None) × IsTooDeep IsText ts p
IsFault IsText size ts Memory = Unit {0}

-- The rest speaks of the parser's own steps.
abbrev pub text_of : Text → Tree
text_of (T.Module m) = module_of m
text_of (T.Exp e) = tree_of e

-- a step, or the fault at this token
abbrev pub Steps : ℕ → Result Parser ReadFault → Option State → Type 0
Steps at (Ok x) o = o ≡ Some (view x)
Steps at (Err (Unexpected k)) o = (k ≡ at) × (o ≡ None)
Steps at (Err (RefusedForm k)) o = ⊥
Steps at (Err (TooDeep k)) o = ⊥
Steps at (Err Memory) o = Unit {0}

-- the end, or the fault there
abbrev pub Ends : State → ℕ → Result Text ReadFault → Type 0
Ends s at (Ok x) =
    (s.past.deep ≡ None) × (finish s.top s.past s.stack ≡ Some (text_of x))
Ends s at (Err (Unexpected k)) = (k ≡ at) × (finish s.top s.past s.stack ≡ None)
Ends s at (Err (RefusedForm k)) = ⊥
Ends s at (Err (TooDeep k)) =
    (s.past.deep ≡ Some k) × ((m : Tree) × (finish s.top s.past s.stack ≡ Some m))
Ends s at (Err Memory) = Unit {0}

-- a run that reaches the end in this state
pub record Reaches (start : Option State) (ts : List Piece) (deep : Option ℕ) (m : Tree) :
    Type 0 where
  pub state : State
  pub ran : run start ts ≡ Some state
  pub at : state.past.deep ≡ deep
  pub ended : finish state.top state.past state.stack ≡ Some m

-- a run that stops at a place
pub data StopsAt : Option State → ℕ → List Piece → ℕ → Type 0 where
  at_token : {start : Option State} {size : ℕ} {ts : List Piece} {s : ℕ} (w : Word) (e : ℕ)
      (before after : List Piece) (x : State) → ts ≡ before ++ piece w s e ∷ after
      → run start before ≡ Some x → and_step (Some x) (piece w s e) ≡ None
      → StopsAt start size ts s
  at_end : {start : Option State} {size : ℕ} {ts : List Piece} (x : State)
      → run start ts ≡ Some x → finish x.top x.past x.stack ≡ None → StopsAt start size ts size

abbrev pub Outcome : Option State → ℕ → List Piece → Result Text ReadFault → Type 0
Outcome start size ts (Ok x) = (first_refused ts ≡ None) × Reaches start ts None (text_of x)
Outcome start size ts (Err (RefusedForm p)) = first_refused ts ≡ Some p
Outcome start size ts (Err (Unexpected p)) = (first_refused ts ≡ None) × StopsAt start size ts p
Outcome start size ts (Err (TooDeep p)) =
    (first_refused ts ≡ None) × ((m : Tree) × Reaches start ts (Some p) m)
Outcome start size ts (Err Memory) = Unit {0}
