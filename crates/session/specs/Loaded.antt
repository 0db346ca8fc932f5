-- The definitions of a module with those of the modules that it imports.
use Rattle.std.specs.Prelude.{◌≡◌, ◌⊎◌, ℕ, List, [], map, Option}
use Rattle.std.specs.Prelude.{Result, Ok, Err}
use Rattle.std.specs.Option.{option_map}
use denote.Ref.{Bor}
use Rattle.trees.specs.Judgements.{Judgement}
use Rattle.translation.specs.Translated.{Stated, judgements_of}
use Rattle.codes.specs.declared.code.CodeDef.{CodeDef}
use Rattle.codes.specs.Codes.{definitions}
use Rattle.host_io.specs.Files.{Held}
use Rattle.host_io.specs.Seen.{SeenFiles}
use Rattle.module_texts.specs.Texts.{Text, text_of}
use Rattle.resolver.specs.declared.resolving.Codes.{Codes}
use Rattle.resolver.specs.Resolved.{defs_in}
use Rattle.linking.specs.Linked.{IsLinked}
use Rattle.outcomes.specs.declared.outcome.Outcome.{Outcome}
use Rattle.session.specs.declared.program.Program.{Program}
use Rattle.session.specs.Modules.{AreLoaded, NotLoaded, NotResolved}
use Rattle.session.specs.Counted.{IsCounted}

abbrev pub stated_by : List CodeDef → List (Stated ℕ)
stated_by defs = (definitions defs []).stated

abbrev pub codes_of : Option (Bor Program) → Option (List CodeDef)
codes_of = option_map (λ program. defs_in program.now.codes)

-- the judgements that are wanted of a file
abbrev pub wanted_by : Option (List CodeDef) → Option (List Judgement)
wanted_by = option_map (λ defs. judgements_of (stated_by defs))

-- these are the modules that are loaded for one of that name, and their definitions
pub record IsRead (held : Option Held) (name : List ℕ) (texts : List Text) (codes : Codes) :
    Type 0 where
  pub loaded : AreLoaded held name texts
  pub linked : IsLinked texts codes

-- the modules of a program
abbrev pub texts_of : Program → List Text
texts_of program = map text_of program.texts.items

-- what is read for a module of that name, or how that ended
abbrev pub IsProgram : List ℕ → SeenFiles → SeenFiles → Result Program Outcome → Type 0
IsProgram name old new (Ok program) =
    (new.counts ≡ old.counts) × IsRead old.held name (texts_of program) program.codes
IsProgram name old new (Err told) =
    (NotLoaded old.held name told ⊎ NotResolved old.held name told) × IsCounted old new told
