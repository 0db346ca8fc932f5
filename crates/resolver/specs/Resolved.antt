-- What resolving answers.
use Rattle.std.specs.Prelude.{◌≡◌, ◌<◌, ◌+◌, ℕ, List, [], ◌++◌, map, length, reverse, None}
use Rattle.std.specs.List.{All}
use Rattle.layout_lexer.specs.declared.token.Span.{Span}
use Rattle.syntax.specs.Tree as text
use Rattle.trees.specs.Judgements.{Nil}
use Rattle.translation.specs.declared.fault.ScopeFault.{ScopeFault}
use Rattle.codes.specs.declared.code.Code.{Code}
use Rattle.codes.specs.declared.code.CodeDef.{CodeDef, out-CodeDef}
use Rattle.scopes.specs.declared.scope.ScopeName.{ScopeName}
use Rattle.resolver.specs.declared.resolving.Codes.{Codes}
use Rattle.translation.specs.Scopes.{Definition, Entry, Scope, context_of}
use Rattle.translation.specs.Translated.{Translated, Refuses, judgements_of}
use Rattle.translation.specs.Names.{Word}
use Rattle.translation.specs.Texts.{Written, reading, block, defs, word}
use Rattle.codes.specs.Codes.{meaning, definitions, body_of}
use Rattle.codes.specs.Shapes.{shape, def_shape, listed}
use Rattle.scopes.specs.Finding.{Named}
use Rattle.scopes.specs.Steps.{count_from, named_of}
use Rattle.resolved_forms.specs.Shaped.{Becomes, Become, Term, after_definition}

-- The names of other modules, each with the body that its number has in a code's scope.
abbrev pub entry : Scope ℕ → ScopeName → Entry Word
entry H n = Definition n.name (body_of H n.def)

abbrev pub words : Scope ℕ → List ScopeName → Scope Word
words H names = map (entry H) (reverse names)

-- Codes of other modules stand in no context.
abbrev pub IsTop : Scope ℕ → Type 0
IsTop H = context_of H ≡ Nil

-- The code holds the definitions that the text spells, in the order of their judgements, and
-- numbers them in this order from `next` on.
pub record Holds (next : ℕ) {A B : Type 0} (spelt : Translated Word A) (code : Translated ℕ B)
    : Type 0 where
  pub fits : spelt.refusal ≡ None
  pub judgements : judgements_of code.stated ≡ judgements_of spelt.stated
  pub numbered : map (λ d. d.name) code.stated ≡ count_from (length spelt.stated) next

-- an expression of the text, in this scope

pub record IsCode (bytes : List ℕ) (names : List ScopeName) (next : ℕ) (e : text.Tree) (c : Code)
    : Type 0 where
  pub tree : (H : Scope ℕ) → IsTop H
      → (meaning c H).value ≡ ((reading bytes e).term (words H names)).value
  pub holds : (H : Scope ℕ) → IsTop H
      → Holds next ((reading bytes e).term (words H names)) (meaning c H)

abbrev pub IsFault : List ℕ → List ScopeName → text.Tree → ScopeFault → Type 0
IsFault bytes names e fault =
    (H : Scope ℕ) → IsTop H
    → Refuses fault ((reading bytes e).term (words H names)).refusal

-- the definitions of a module of the text, in this scope

abbrev pub defs_of_module : List ℕ → text.Tree → List Written
defs_of_module bytes (text.Module name imports ds) = defs bytes ds
defs_of_module bytes _ = []

abbrev pub names_of : List ℕ → text.Tree → List Span
names_of bytes m = map (λ d. d.name) (defs_of_module bytes m)

abbrev pub defs_in : Codes → List CodeDef
defs_in codes = codes.items.items

-- what the definitions of a module bind, each name with its number
abbrev pub bound_as : List ℕ → CodeDef → ScopeName
bound_as bytes c = let d = out-CodeDef c in record { name = word bytes d.name; def = d.number }

abbrev pub bound_by : List ℕ → List CodeDef → List ScopeName
bound_by bytes = map (bound_as bytes)

-- The scopes after so many definitions, from `next` on: the names in scope are those of before and
-- those that are bound, and what had a number has it still.
pub record Leaves (names bound : List ScopeName) (next count : ℕ) (H : Scope ℕ)
    (spelt : Scope Word) (code : Scope ℕ) : Type 0 where
  pub top : IsTop code
  pub named : spelt ≡ words code (names ++ bound)
  pub kept : (n : ℕ) → n < next → body_of code n ≡ body_of H n
  pub below : All (λ n. n.def < next + count) bound

pub record AreCodes (bytes : List ℕ) (names : List ScopeName) (next : ℕ) (m : text.Tree)
    (codes : Codes) : Type 0 where
  pub named : map (λ c. (out-CodeDef c).name) (defs_in codes) ≡ names_of bytes m
  pub counted : (H : Scope ℕ) → IsTop H
      → codes.next ≡ next + length (block bytes (defs_of_module bytes m) (words H names)).stated
  pub holds : (H : Scope ℕ) → IsTop H
      → Holds next (block bytes (defs_of_module bytes m) (words H names))
      (definitions (defs_in codes) H)
  pub leaves : (H : Scope ℕ) → IsTop H
      → let spelt = block bytes (defs_of_module bytes m) (words H names) in
      Leaves names (bound_by bytes (defs_in codes)) next (length spelt.stated) H
      spelt.value (definitions (defs_in codes) H).value

abbrev pub IsFaultOf : List ℕ → List ScopeName → text.Tree → ScopeFault → Type 0
IsFaultOf bytes names m fault =
    (H : Scope ℕ) → IsTop H
    → Refuses fault (block bytes (defs_of_module bytes m) (words H names)).refusal

-- the numbers in scope are those of earlier definitions
abbrev pub AreEarlier : ℕ → List ScopeName → Type 0
AreEarlier next = All (λ n. n.def < next)

-- The code is that which the text becomes among these names, but for the numbers of definitions.

-- the names in scope at the beginning of a text, those of other modules
abbrev pub names_in : List ScopeName → List Named
names_in names = map named_of (reverse names)

abbrev pub IsSpelt : List ℕ → List ScopeName → text.Tree → Code → Type 0
IsSpelt bytes names e c = Becomes bytes e (names_in names) Term (shape c)

abbrev pub definitions_of : text.Tree → text.Trees
definitions_of (text.Module name imports ds) = ds
definitions_of _ = text.none

abbrev pub AreSpelt : List ℕ → List ScopeName → text.Tree → Codes → Type 0
AreSpelt bytes names m codes =
    let cs = listed def_shape (defs_in codes) in
    Become bytes (after_definition bytes) (definitions_of m) (names_in names) cs
