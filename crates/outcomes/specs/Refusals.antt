-- How the faults of a module are told.
use Rattle.std.specs.Prelude.{ℕ, List, [], ◌++◌, codes, decimal, Option, None, Some}
use Rattle.std.specs.Prelude.{String, string_bytes}
use Rattle.std.specs.declared.alloc.Global.{Global}
use Rattle.layout_lexer.specs.declared.fault.LexFault.{LexFault}
use Rattle.layout_lexer.specs.declared.fault.LexFault.TheVariants as lex
use Rattle.grammar.specs.declared.reading.ReadFault.{ReadFault}
use Rattle.grammar.specs.declared.reading.ReadFault.TheVariants as read
use Rattle.translation.specs.declared.fault.ScopeFault.{ScopeFault}
use Rattle.translation.specs.declared.fault.ScopeFault.TheVariants as scope
use Rattle.loading.specs.declared.text.LoadFault.{LoadFault}
use Rattle.loading.specs.declared.text.LoadFault.TheVariants as load
use Rattle.outcomes.specs.declared.refusal.Cause.{Cause}
use Rattle.outcomes.specs.declared.refusal.Cause.TheVariants as cause
use Rattle.outcomes.specs.declared.refusal.Refusal.{Refusal}
use Rattle.outcomes.specs.declared.outcome.Outcome.{Outcome}
use Rattle.outcomes.specs.declared.outcome.Outcome.TheVariants as outcome

abbrev pub cause_name : Cause → List ℕ
cause_name cause.NotUtf8 = codes "NotUtf8"
cause_name cause.BadByte = codes "BadByte"
cause_name cause.OpenComment = codes "OpenComment"
cause_name cause.TooLong = codes "TooLong"
cause_name cause.Unexpected = codes "Unexpected"
cause_name cause.RefusedForm = codes "RefusedForm"
cause_name cause.TooDeep = codes "TooDeep"
cause_name cause.Unbound = codes "Unbound"
cause_name cause.Twice = codes "Twice"
cause_name cause.NameKind = codes "NameKind"
cause_name cause.GlueSide = codes "GlueSide"
cause_name cause.ImportCycle = codes "ImportCycle"
cause_name cause.TooMany = codes "TooMany"
cause_name cause.NoSuchName = codes "NoSuchName"
cause_name cause.CannotInfer = codes "CannotInfer"
cause_name cause.WantedFunction = codes "WantedFunction"
cause_name cause.WantedPair = codes "WantedPair"
cause_name cause.WantedPath = codes "WantedPath"
cause_name cause.WantedGlue = codes "WantedGlue"
cause_name cause.WantedType = codes "WantedType"
cause_name cause.UInU = codes "UInU"
cause_name cause.Mismatch = codes "Mismatch"
cause_name cause.SidesDiffer = codes "SidesDiffer"
cause_name cause.Unaligned = codes "Unaligned"

abbrev pub place_text : Option ℕ → List ℕ
place_text None = []
place_text (Some at) = codes " at " ++ decimal at

-- where a file is meant, as a text says it; a line of the prompt has no path
abbrev pub in_path : Option (String Global) → List ℕ
in_path None = []
in_path (Some path) = codes " in " ++ string_bytes path

-- a refusal in plain words
abbrev pub refusal_text : Refusal → List ℕ
refusal_text r =
    codes "no: " ++ (cause_name r.cause ++ (place_text r.at ++ (in_path r.path ++ codes "\n")))

abbrev pub refusal : Cause → Option ℕ → Option (String Global) → Outcome
refusal why at path = outcome.Refused (record { cause = why; at = at; path = path })

-- None stands for out of memory, which is no outcome.

abbrev pub told_lex : LexFault → Option (String Global) → Option Outcome
told_lex (lex.NotUtf8 p) path = Some (refusal cause.NotUtf8 (Some p) path)
told_lex (lex.BadByte p) path = Some (refusal cause.BadByte (Some p) path)
told_lex (lex.OpenComment p) path = Some (refusal cause.OpenComment (Some p) path)
told_lex lex.TooLong path = Some (refusal cause.TooLong None path)
told_lex lex.Memory path = None

abbrev pub told_read : ReadFault → Option (String Global) → Option Outcome
told_read (read.RefusedForm p) path = Some (refusal cause.RefusedForm (Some p) path)
told_read (read.Unexpected p) path = Some (refusal cause.Unexpected (Some p) path)
told_read (read.TooDeep p) path = Some (refusal cause.TooDeep (Some p) path)
told_read read.Memory path = None

abbrev pub told_load : LoadFault → Option Outcome
told_load (load.Missing path) = Some (outcome.MissingFile path)
told_load load.Unreadable = Some outcome.ReadFault
told_load (load.NoTokens fault path) = told_lex fault (Some path)
told_load (load.NoModule fault path) = told_read fault (Some path)
told_load (load.Cycle path) = Some (refusal cause.ImportCycle None (Some path))
told_load (load.TooMany path) = Some (refusal cause.TooMany None (Some path))
told_load load.Memory = None

abbrev pub told_scope : ScopeFault → Option (String Global) → Option Outcome
told_scope (scope.Unbound p) path = Some (refusal cause.Unbound (Some p) path)
told_scope (scope.Twice p) path = Some (refusal cause.Twice (Some p) path)
told_scope (scope.NameKind p) path = Some (refusal cause.NameKind (Some p) path)
told_scope (scope.GlueSide p) path = Some (refusal cause.GlueSide (Some p) path)
told_scope scope.Memory path = None
