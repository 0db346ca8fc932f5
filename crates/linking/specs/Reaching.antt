-- What is kept of modules, and how it stands for what they mean.
use Rattle.std.specs.Prelude.{◌≡◌, ◌||◌, ℕ, Bool, List, [], ◌∷◌, bytes_eq, map, reverse}
use Rattle.std.specs.List.{flat_map, list_any}
use denote.Ref.{Bor}
use Rattle.scopes.specs.declared.scope.Scope.{Scope as ScopeOf}
use Rattle.scopes.specs.declared.scope.ScopeName.{ScopeName}
use Rattle.linking.specs.declared.known.Known.{Known as Kept}
use Rattle.linking.specs.Modules.{KnownBy, reached}

-- of each of these modules, whether it is among those of other names
abbrev pub are_among : List (List ℕ) → List (List ℕ) → List Bool
are_among names = map (λ x. list_any (bytes_eq x) names)

abbrev pub either : List Bool → List Bool → List Bool
either [] qs = []
either (p ∷ ps) [] = p ∷ ps
either (p ∷ ps) (q ∷ qs) = (p || q) ∷ either ps qs

-- a module whose definitions have numbers
abbrev pub Numbered : Type 0
Numbered = KnownBy ScopeName

-- the names of modules that stand the last first, in order
abbrev pub names_of : {A : Type 0} → List (KnownBy A) → List (List ℕ)
names_of known = map (λ m. m.name) (reverse known)

-- What is kept of modules, both lists the last first: which of the modules before it each imports,
-- and its definitions by their numbers.
abbrev pub Stand : List Numbered → List Kept → Type 0
Stand [] [] = Unit {0}
Stand (m ∷ ms) (k ∷ ks) =
    (k.imports.items ≡ are_among m.imports (names_of ms)) × (m.defs ≡ reverse k.names)
    × Stand ms ks
Stand _ _ = ⊥

-- These are the modules that are reached from those that are wanted, the last first.
pub record Finds (known : List Kept) (wanted : List Bool) (found : List (Bor Kept)) : Type 0 where
  pub finds : (ms : List Numbered) (names : List (List ℕ))
      → Stand ms (reverse known) → wanted ≡ are_among names (names_of ms)
      → flat_map (λ k. reverse k.now.names) found ≡ reached ms names

-- This is the scope that imports reach.
pub record Sees (known : List Kept) (imports : List Bool) (next : ℕ) (scope : ScopeOf) :
    Type 0 where
  pub next_is : scope.next ≡ next
  pub sees : (ms : List Numbered) (names : List (List ℕ))
      → Stand ms (reverse known) → imports ≡ are_among names (names_of ms)
      → reverse scope.names ≡ reached ms names
