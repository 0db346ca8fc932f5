-- What the text of a module spells, with those of the modules that it imports.
use Rattle.std.specs.Prelude.{◌≡◌, ◌≢◌, ℕ, List, [], ◌∷◌, take, slice_get, Option, None, Some}
use Rattle.std.specs.Prelude.{String, string_bytes}
use Rattle.std.specs.declared.alloc.Global.{Global}
use Rattle.host_io.specs.Files.{Held}
use Rattle.trees.specs.Judgements.{Judgement}
use Rattle.translation.specs.declared.fault.ScopeFault.{ScopeFault}
use Rattle.loading.specs.declared.text.LoadFault.{LoadFault}
use Rattle.module_texts.specs.Texts.{Text, path_of}
use Rattle.loading.specs.Loading.{Loads, Refuses}
use Rattle.linking.specs.Modules.{AreFine, RefusedFirst, judgements, meanings}
use Rattle.outcomes.specs.declared.outcome.Outcome.{Outcome}
use Rattle.outcomes.specs.Refusals.{told_load, told_scope}

-- these are the modules that are loaded for one of that name
abbrev pub AreLoaded : Option Held → List ℕ → List Text → Type 0
AreLoaded held name = Loads held [] [] (name ∷ [])

-- the judgements that the module's text spells
pub record Spells (held : Option Held) (name : List ℕ) (Js : List Judgement) : Type 0 where
  pub texts : List Text
  pub loaded : AreLoaded held name texts
  pub fine : AreFine (meanings texts)
  pub spelt : Js ≡ judgements texts

-- the first refusal of loading, and how it is told
pub record NotLoaded (held : Option Held) (name : List ℕ) (told : Outcome) : Type 0 where
  pub fault : LoadFault
  pub refuses : Refuses held [] [] (name ∷ []) fault
  pub is_told : told_load fault ≡ Some told

-- all modules are loaded, and one of them is the first that is refused
pub record NotResolved (held : Option Held) (name : List ℕ) (told : Outcome) : Type 0 where
  pub texts : List Text
  pub loaded : AreLoaded held name texts
  pub refused : Text
  pub at : ℕ
  pub refused_is : slice_get texts at ≡ Some refused
  pub fault : ScopeFault
  pub refuses : RefusedFirst texts at fault
  pub path : String Global
  pub path_is : string_bytes path ≡ path_of refused.name
  pub is_told : told_scope fault (Some path) ≡ Some told

-- the first place where two lists differ, or one has ended
pub record DifferAt {A : Type 0} (xs ys : List A) (k : ℕ) : Type 0 where
  pub same_before : take k xs ≡ take k ys
  pub differ : slice_get xs k ≢ slice_get ys k

-- Two lists are the same, or that is the first place.
abbrev pub Compares : {A : Type 0} → List A → List A → Option ℕ → Type 0
Compares xs ys None = xs ≡ ys
Compares xs ys (Some k) = DifferAt xs ys k
