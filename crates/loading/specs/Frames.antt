-- Modules whose imports are being loaded.
use Rattle.std.specs.Prelude.{◌≡◌, ◌+◌, ℕ, List, [], ◌∷◌, map, drop, reverse, Option, None, Some}
use Rattle.std.specs.Prelude.{String, string_bytes}
use Rattle.std.specs.declared.alloc.Global.{Global}
use Rattle.loading.specs.declared.begun.Begun.{Begun}
use Rattle.module_texts.specs.Texts.{Text, imports_of, text_of}

abbrev pub begun_text : Begun → Text
begun_text b = text_of b.text

abbrev pub begun_name : Begun → List ℕ
begun_name b = (begun_text b).name

-- their names, of which the innermost is the last that began
abbrev pub names_of : List Begun → List (List ℕ)
names_of begun = map begun_name (reverse begun)

-- the names of the imports that are left
abbrev pub left_of : Begun → List (List ℕ)
left_of b = drop b.next (imports_of (begun_text b))

-- the next of them is passed, if one is left
abbrev pub Passes : Begun → Begun → Option (String Global) → Type 0
Passes old new None = (left_of old ≡ []) × (new ≡ old)
Passes old new (Some name) =
    (left_of old ≡ string_bytes name ∷ left_of new) × (new.text ≡ old.text)
    × (new.next ≡ old.next + 1)
