-- What a step of resolving does, said of the names in scope, of what a text means, and of what the
-- code that is made means.
use Rattle.std.specs.Prelude.{◌≡◌, ◌+◌, ◌<◌, ◌≤◌, ℕ, zero, suc, List, [], ◌∷◌, ◌++◌, map, length}
use Rattle.std.specs.Prelude.{Option, Some, Bool, false, not, nat_lt, if◌then◌else◌}
use Rattle.trees.specs.Trees.{Tree, Var}
use Rattle.translation.specs.declared.fault.Cause.{Cause}
use Rattle.translation.specs.declared.fault.Cause.TheVariants.{Twice}
use Rattle.translation.specs.declared.fault.Refusal.{Refusal}
use Rattle.translation.specs.Scopes.{Scope, Definition, context_of}
use Rattle.translation.specs.Translated.{Translated, judgements_of, earlier}
use Rattle.translation.specs.Forms.{Means, Binder, under, define}
use Rattle.translation.specs.Names.{Word, Meaning, Term, Index, BuiltInName, Nothing}
use Rattle.translation.specs.Names.{nearest as nearest_meaning}
use Rattle.codes.specs.Codes.{body_of}
use Rattle.scopes.specs.declared.names.Binding.{Binding}
use Rattle.scopes.specs.declared.names.Binding.TheVariants as binding
use Rattle.scopes.specs.declared.names.Found.{Found}
use Rattle.scopes.specs.declared.names.Found.TheVariants as found
use Rattle.scopes.specs.declared.scope.ScopeName.{ScopeName}
use Rattle.scopes.specs.Finding.{Named, nearest}

-- what was found, in the scope of a code
abbrev pub meant : Scope ℕ → Found → Meaning
meant H (found.Variable k) = Term (Var k)
meant H (found.Interval k) = Index k
meant H (found.Definition n) = Term (body_of H n)
meant H (found.BuiltIn b) = BuiltInName b
meant H found.Nothing = Nothing

-- the number of the next definition, and the refusal that is named so far
pub record Progress : Type 0 where
  pub next : ℕ
  pub refusal : Option Refusal

pub record State : Type 0 where
  pub names : List Named
  pub so_far : Progress

abbrev pub IsEarlier : ℕ → Binding → Type 0
IsEarlier next (binding.Definition n) = n < next
IsEarlier next _ = Unit {0}

abbrev pub AreEarlier : ℕ → List Named → Type 0
AreEarlier next [] = Unit {0}
AreEarlier next (n ∷ ns) = IsEarlier next n.binding × AreEarlier next ns

-- The names in scope stand for the same in the text and in the code.
pub record Agree (s : State) (G : Scope Word) (H : Scope ℕ) : Type 0 where
  pub contexts : context_of H ≡ context_of G
  pub words : (x : Word) → nearest_meaning G x ≡ meant H (nearest s.names x)
  pub definitions : AreEarlier s.so_far.next s.names

-- a name of another module
abbrev pub named_of : ScopeName → Named
named_of n = record { word = n.name; binding = binding.Definition n.def }

-- n numbers, from that one on
abbrev pub count_from : ℕ → ℕ → List ℕ
count_from zero k = []
count_from (suc n) k = k ∷ count_from n (suc k)

-- What the text and the code mean is related by R, they hold the same definitions, numbered in
-- order, and the refusal that is named has moved on by that of the text.
pub record Moves (old new : Progress) {A B : Type 0} (R : A → B → Type 0)
    (spelt : Translated Word A) (code : Translated ℕ B) : Type 0 where
  pub value : R spelt.value code.value
  pub judgements : judgements_of code.stated ≡ judgements_of spelt.stated
  pub numbered : map (λ d. d.name) code.stated ≡ count_from (length spelt.stated) old.next
  pub next : new.next ≡ old.next + length spelt.stated
  pub refusal : new.refusal ≡ earlier old.refusal spelt.refusal

abbrev pub Same : {A : Type 0} → A → A → Type 0
Same a b = b ≡ a

-- in each scope where names agree
pub record Moving (old : State) (new : Progress) {A : Type 0} (spelt : Means Word A)
    (code : Means ℕ A) : Type 0 where
  pub moves : (G : Scope Word) (H : Scope ℕ) → Agree old G H
      → Moves old.so_far new Same (spelt G) (code H)

-- the names in scope are as before
pub record Keeps (old new : State) : Type 0 where
  pub names : new.names ≡ old.names
  pub grows : old.so_far.next ≤ new.so_far.next

-- The text was resolved to the code, and the names in scope are as before.
pub record Resolves (old new : State) {A : Type 0} (spelt : Means Word A) (code : Means ℕ A)
    : Type 0 where
  pub keeps : Keeps old new
  pub moving : Moving old new.so_far spelt code

-- one more name
abbrev pub bound_to : State → Word → Binding → State
bound_to s x b = record s { names = record { word = x; binding = b } ∷ s.names }

abbrev pub all_bound_to : State → List Word → Binding → State
all_bound_to s [] b = s
all_bound_to s (x ∷ xs) b = all_bound_to (bound_to s x b) xs b

-- Names were bound, those of these words, the last first.
pub record Extends (old new : State) : Type 0 where
  pub bound : List Named
  pub names : new.names ≡ bound ++ old.names
  pub grows : old.so_far.next ≤ new.so_far.next

-- Binders were resolved, and their names are bound: what is resolved under them next is so under
-- the binders of the text and of the code alike.
pub record BindsOver (B : Type 0) (old new : State) (spelt : List (Binder Word))
    (code : List (Binder ℕ)) : Type 0 where
  pub moving : (make : Tree → B → B) (end : Progress) (f : Means Word B) (g : Means ℕ B)
      → Moving new end f g → Moving old end (under make spelt f) (under make code g)

-- for binders of terms, and of a type with its body
pub record Binds (old new : State) (spelt : List (Binder Word)) (code : List (Binder ℕ)) :
    Type 0 where
  pub extends : Extends old new
  pub terms : BindsOver Tree old new spelt code
  pub definitions : BindsOver (Tree × Tree) old new spelt code

-- the scope after definitions of these names and bodies, in order
abbrev pub after_defs : {N : Type 0} → List N → List Tree → Scope N → Scope N
after_defs [] ts G = G
after_defs (x ∷ xs) [] G = G
after_defs (x ∷ xs) (t ∷ ts) G = after_defs xs ts (Definition x t ∷ G)

-- Definitions were added, whose bodies are the same in the text and in the code.
pub record Adds (G : Scope Word) (H : Scope ℕ) (G' : Scope Word) (H' : Scope ℕ) : Type 0 where
  pub words : List Word
  pub numbers : List ℕ
  pub bodies : List Tree
  pub named : length words ≡ length bodies
  pub numbered : length numbers ≡ length bodies
  pub spelt : G' ≡ after_defs words bodies G
  pub code : H' ≡ after_defs numbers bodies H

-- A text and a code that give a scope each: names are bound that agree there.
pub record Opens (old new : State) (spelt : Means Word (Scope Word)) (code : Means ℕ (Scope ℕ))
    : Type 0 where
  pub extends : Extends old new
  pub adds : (G : Scope Word) (H : Scope ℕ) → Agree old G H
      → Adds G H (spelt G).value (code H).value
  pub moves : (G : Scope Word) (H : Scope ℕ) → Agree old G H
      → Moves old.so_far new.so_far (Agree new) (spelt G) (code H)

-- A definition was resolved and numbered, and is not bound yet: it may be bound to any name.
pub record Defines (old new : State) (number : ℕ) (spelt : Means Word (Tree × Tree))
    (code : Means ℕ (Scope ℕ)) : Type 0 where
  pub keeps : Keeps old new
  pub later : old.so_far.next ≤ number
  pub adds : (x : Word) (G : Scope Word) (H : Scope ℕ) → Agree old G H
      → Adds G H (define x spelt G).value (code H).value
  pub moves : (x : Word) (G : Scope Word) (H : Scope ℕ) → Agree old G H
      → Moves old.so_far new.so_far (Agree (bound_to new x (binding.Definition number)))
      (define x spelt G) (code H)

-- with a refusal more
abbrev pub noted : Progress → ℕ → Cause → Progress
noted s at why = record s { refusal = earlier s.refusal (Some (record { at = at; cause = why })) }

-- the progress after a name was looked for among those of its block
abbrev pub checked : Progress → Bool → ℕ → Progress
checked s b at = if b then noted s at Twice else s

-- a definition of that number or a later one
abbrev pub is_newer : ℕ → Found → Bool
is_newer first (found.Definition n) = not (nat_lt n first)
is_newer first _ = false
