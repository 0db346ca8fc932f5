-- The lines that show evidence, each with its label and its newline.
use Rattle.std.specs.Prelude.{ℕ, List, [], ◌++◌, codes, string_bytes}
use Rattle.evidence.specs.declared.texts.Shown.{Shown}
use Rattle.evidence.specs.declared.texts.Shown.TheVariants as shown
use Rattle.evidence.specs.Faces.{line}

abbrev pub lines_of : Shown → List ℕ
lines_of shown.Nothing = []
lines_of (shown.Type text) = line (codes "type: ") (string_bytes text)
lines_of (shown.Two found wanted) =
    line (codes "found: ") (string_bytes found) ++ line (codes "wanted: ") (string_bytes wanted)
lines_of (shown.OnFace face found wanted) =
    line (codes "face: ") (string_bytes face)
    ++ (line (codes "found: ") (string_bytes found)
    ++ line (codes "wanted: ") (string_bytes wanted))
