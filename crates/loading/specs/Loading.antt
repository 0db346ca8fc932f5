-- Which modules are loaded for a name, and the first refusal.
use Rattle.std.specs.Prelude.{◌≡◌, ◌<◌, ◌≤◌, ◌+◌, ℕ, List, [], ◌∷◌, ◌++◌, length}
use Rattle.std.specs.Prelude.{Option, string_bytes}
use Rattle.std.specs.List.{Any, Contains}
use Rattle.host_io.specs.Files.{Held}
use Rattle.loading.specs.declared.text.LoadFault.{LoadFault}
use Rattle.loading.specs.declared.text.LoadFault.TheVariants as fault
use Rattle.loading.specs.Texts.{IsText, FailsAt}
use Rattle.module_texts.specs.Texts.{Text, imports_of, path_of}

-- the most modules that are loaded for one command
abbrev pub most_modules : ℕ
most_modules = 250

abbrev pub IsLoaded : List Text → List ℕ → Type 0
IsLoaded loaded name = Any (λ x. x.name ≡ name) loaded

-- Where so many modules are loaded, and the loading of those of the names `begun` has not ended:
-- that name is another, and there is room for it.
abbrev pub IsAnother : ℕ → List (List ℕ) → List ℕ → Type 0
IsAnother loaded begun name =
    (Contains begun name → ⊥) × (loaded + length begun < most_modules)

-- and no module of that name is loaded
pub record IsNew (loaded : List Text) (begun : List (List ℕ)) (name : List ℕ) : Type 0 where
  pub not_loaded : (IsLoaded loaded name → ⊥)
  pub another : IsAnother (length loaded) begun name

-- From there on, after the modules of these names the modules `after` are loaded.
pub data Loads (held : Option Held) :
    List Text → List (List ℕ) → List (List ℕ) → List Text → Type 0 where
  none : {loaded : List Text} {begun : List (List ℕ)} → Loads held loaded begun [] loaded
  known : {loaded after : List Text} {begun names : List (List ℕ)} {name : List ℕ}
      → IsLoaded loaded name → Loads held loaded begun names after
      → Loads held loaded begun (name ∷ names) after
  anew : {loaded between after : List Text} {begun names : List (List ℕ)} {name : List ℕ}
      (x : Text) → IsNew loaded begun name → IsText held name x
      → Loads held loaded (name ∷ begun) (imports_of x) between
      → Loads held (between ++ x ∷ []) begun names after
      → Loads held loaded begun (name ∷ names) after

-- why a module of a name that was not loaded is refused before its imports
abbrev pub RefusesOne : Option Held → ℕ → List (List ℕ) → List ℕ → LoadFault → Type 0
RefusesOne held loaded begun name (fault.Cycle path) =
    (string_bytes path ≡ path_of name) × Contains begun name
RefusesOne held loaded begun name (fault.TooMany path) =
    (string_bytes path ≡ path_of name)
    × (Contains begun name → ⊥) × (most_modules ≤ loaded + length begun)
RefusesOne held loaded begun name f = IsAnother loaded begun name × FailsAt held name f

-- From there on, this is the first refusal.
pub data Refuses (held : Option Held) :
    List Text → List (List ℕ) → List (List ℕ) → LoadFault → Type 0 where
  here : {loaded : List Text} {begun names : List (List ℕ)} {name : List ℕ} {f : LoadFault}
      → (IsLoaded loaded name → ⊥) → RefusesOne held (length loaded) begun name f
      → Refuses held loaded begun (name ∷ names) f
  within : {loaded : List Text} {begun names : List (List ℕ)} {name : List ℕ} {f : LoadFault}
      (x : Text) → IsNew loaded begun name → IsText held name x
      → Refuses held loaded (name ∷ begun) (imports_of x) f
      → Refuses held loaded begun (name ∷ names) f
  after_known : {loaded : List Text} {begun names : List (List ℕ)} {name : List ℕ}
      {f : LoadFault} → IsLoaded loaded name → Refuses held loaded begun names f
      → Refuses held loaded begun (name ∷ names) f
  after_new : {loaded between : List Text} {begun names : List (List ℕ)} {name : List ℕ}
      {f : LoadFault} (x : Text) → IsNew loaded begun name → IsText held name x
      → Loads held loaded (name ∷ begun) (imports_of x) between
      → Refuses held (between ++ x ∷ []) begun names f
      → Refuses held loaded begun (name ∷ names) f
