-- What is known at a place of a text: the types of its variables, and the bodies and declared types
-- of the definitions in scope.
use Rattle.std.specs.Prelude.{◌==◌, ℕ, zero, suc, List, [], ◌∷◌, Option, None, Some}
use Rattle.std.specs.Prelude.{if◌then◌else◌}
use Rattle.std.specs.Option.{option_map}
use Rattle.trees.specs.Trees.{Tree}
use Rattle.translation.specs.Terms.{lifted}
use Rattle.translation.specs.Scopes as scope
use Rattle.translation.specs.Forms.{Means}

pub data Entry : Type 0 where
  -- a variable of this type
  Variable : Tree → Entry
  -- a name of the interval
  Interval : Entry
  -- a definition, by its number, with its body and its type
  Definition : ℕ → Tree → Tree → Entry

-- the innermost first; a tree stands in the entries after it
abbrev pub Known : Type 0
Known = List Entry

-- the same without the types of definitions
abbrev pub scope_of : Known → scope.Scope ℕ
scope_of [] = []
scope_of (Variable A ∷ G) = scope.Variable 0 A ∷ scope_of G
scope_of (Interval ∷ G) = scope.Interval 0 ∷ scope_of G
scope_of (Definition n t A ∷ G) = scope.Definition n t ∷ scope_of G

-- what a text means there
abbrev pub value_at : {A : Type 0} → Known → Means ℕ A → A
value_at G m = (m (scope_of G)).value

-- the type of the variable of this index, weakened to the place
abbrev pub type_of_variable : Known → ℕ → Option Tree
type_of_variable [] k = None
type_of_variable (Variable A ∷ G) zero = Some (lifted A)
type_of_variable (Variable A ∷ G) (suc k) = option_map lifted (type_of_variable G k)
type_of_variable (Interval ∷ G) zero = None
type_of_variable (Interval ∷ G) (suc k) = option_map lifted (type_of_variable G k)
type_of_variable (Definition n t A ∷ G) k = type_of_variable G k

-- the declared type of the definition of this number, weakened to the place
abbrev pub declared_type : Known → ℕ → Option Tree
declared_type [] n = None
declared_type (Variable A ∷ G) n = option_map lifted (declared_type G n)
declared_type (Interval ∷ G) n = option_map lifted (declared_type G n)
declared_type (Definition m t A ∷ G) n = if m == n then Some A else declared_type G n

-- under so many variables of the type A, which stands before them all
abbrev pub with_variables : ℕ → Tree → Known → Known
with_variables zero A G = G
with_variables (suc n) A G = with_variables n (lifted A) (Variable A ∷ G)
