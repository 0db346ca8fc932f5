-- What is in scope at a place of a text.
use Rattle.std.specs.Prelude.{List, [], ◌∷◌}
use Rattle.trees.specs.Trees.{Tree}
use Rattle.trees.specs.Judgements.{Context, Nil, WithVar, WithName, WithFace}

-- N is what definitions, variables and names of the interval are called by.
pub data Entry (N : Type 0) : Type 0 where
  -- a variable of this type
  Variable : N → Tree → Entry N
  -- a name of the interval
  Interval : N → Entry N
  -- a face that holds
  Face : Tree → Entry N
  -- a definition, which stands for this tree
  Definition : N → Tree → Entry N

-- the innermost first; a tree stands in the entries after it
abbrev pub Scope : Type 0 → Type 0
Scope N = List (Entry N)

-- the context of the place
abbrev pub context_of : {N : Type 0} → Scope N → Context
context_of [] = Nil
context_of (Variable x A ∷ G) = WithVar (context_of G) A
context_of (Interval i ∷ G) = WithName (context_of G)
context_of (Face p ∷ G) = WithFace (context_of G) p
context_of (Definition x t ∷ G) = context_of G
