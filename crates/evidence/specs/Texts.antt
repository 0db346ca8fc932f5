-- The texts that show evidence, without their labels.
use Rattle.std.specs.Prelude.{◌≡◌, Option, Some, None, string_bytes}
use Rattle.trees.specs.Trees.{Tree}
use Rattle.trees.specs.Judgements.{Context}
use Rattle.evidence.specs.declared.texts.Shown.{Shown}
use Rattle.evidence.specs.declared.texts.Shown.TheVariants as shown
use Rattle.evidence.specs.Evidence.{shown_in}
use Rattle.evidence.specs.Faces.{IsFaceText}

-- the text of a type, and no other
abbrev pub IsTypeText : Context → Tree → Shown → Type 0
IsTypeText G normal (shown.Type text) = string_bytes text ≡ shown_in G normal
IsTypeText G normal _ = ⊥

-- those of what was found and what is wanted, with that of a face where there is one
abbrev pub AreTwoTexts : Option Tree → Context → Tree → Tree → Shown → Type 0
AreTwoTexts None G f w (shown.Two found wanted) =
    (string_bytes found ≡ shown_in G f) × (string_bytes wanted ≡ shown_in G w)
AreTwoTexts (Some p) G f w (shown.OnFace face found wanted) =
    (string_bytes found ≡ shown_in G f) × (string_bytes wanted ≡ shown_in G w)
    × IsFaceText G p (string_bytes face)
AreTwoTexts _ G f w _ = ⊥
