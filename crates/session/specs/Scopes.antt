-- What the names of definitions stand for behind all of them.
use Rattle.std.specs.Prelude.{◌≡◌, ℕ, List, [], ◌∷◌, slice_get, Some}
use Rattle.translation.specs.Scopes.{Scope}
use Rattle.translation.specs.Names.{Word}
use Rattle.codes.specs.declared.code.CodeDef.{CodeDef, out-CodeDef}
use Rattle.codes.specs.Codes.{definitions}
use Rattle.module_texts.specs.Texts.{Text}
use Rattle.scopes.specs.declared.scope.Scope.{Scope as ScopeOf}
use Rattle.scopes.specs.declared.scope.ScopeName.{ScopeName}
use Rattle.resolver.specs.Resolved.{AreEarlier, words}
use Rattle.session.specs.Places.{names}

-- names, each with the number of its definition
abbrev pub numbered_names : List (List ℕ) → List CodeDef → List ScopeName
numbered_names (x ∷ xs) (c ∷ cs) =
    record { name = x; def = (out-CodeDef c).number } ∷ numbered_names xs cs
numbered_names _ _ = []

-- the name of the definition at that place, with its number
pub record IsNumberedAt (texts : List Text) (defs : List CodeDef) (place : ℕ) (n : ScopeName) :
    Type 0 where
  pub name_is : slice_get (names texts) place ≡ Some n.name
  pub code : CodeDef
  pub code_is : slice_get defs place ≡ Some code
  pub number_is : n.def ≡ (out-CodeDef code).number

-- each name stands for the body of its definition, and a later one hides an earlier one
abbrev pub scope_behind : List Text → List CodeDef → Scope Word
scope_behind texts defs = words (definitions defs []).value (numbered_names (names texts) defs)

-- the scope in which a text is resolved that stands there
pub record IsScopeBehind (texts : List Text) (defs : List CodeDef) (scope : ScopeOf) : Type 0 where
  pub names_are : scope.names ≡ numbered_names (names texts) defs
  pub earlier : AreEarlier scope.next scope.names
