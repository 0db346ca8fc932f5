-- What outcomes are in print.
use Rattle.std.specs.Prelude.{ℕ, List, ◌++◌, codes, decimal, string_bytes}
use Rattle.replay.specs.declared.judging.Verdict.TheVariants.{Yes, No}
use Rattle.evidence.specs.Lines.{lines_of}
use Rattle.outcomes.specs.declared.outcome.Status.{Status}
use Rattle.outcomes.specs.declared.outcome.Status.TheVariants as status
use Rattle.outcomes.specs.declared.outcome.Outcome.{Outcome}
use Rattle.outcomes.specs.declared.outcome.Outcome.TheVariants as outcome
use Rattle.outcomes.specs.Refusals.{in_path, refusal_text}

-- the text of a module that was made, and how it was judged
abbrev pub made_text : List ℕ → ℕ → ℕ → List ℕ
made_text text definitions roots =
    text ++ (codes "yes: " ++ (decimal definitions
    ++ (codes " definitions\nreplayed: " ++ (decimal roots ++ codes " roots\n"))))

-- an outcome in plain words
abbrev pub plain_text : Outcome → List ℕ
plain_text (outcome.Judged (Yes rows roots)) =
    codes "yes: " ++ (decimal rows ++ (codes " rows, " ++ (decimal roots ++ codes " roots\n")))
plain_text (outcome.Judged (No row)) = codes "no: row " ++ (decimal row ++ codes "\n")
plain_text (outcome.RootDiffers root) = codes "no: root " ++ (decimal root ++ codes "\n")
plain_text (outcome.Refused refusal) = refusal_text refusal
plain_text (outcome.Refuted refusal shown) = refusal_text refusal ++ lines_of shown
plain_text (outcome.MissingFile path) =
    codes "no: MissingFile in " ++ (string_bytes path ++ codes "\n")
plain_text outcome.ReadFault = codes "fault: ReadFault\n"
plain_text (outcome.Checked count) = codes "yes: " ++ (decimal count ++ codes " definitions\n")
plain_text (outcome.Shown text) = string_bytes text
plain_text (outcome.Made text definitions roots) = made_text (string_bytes text) definitions roots
plain_text (outcome.Spent turns at path) =
    codes "spent: " ++ (decimal turns ++ (codes " at " ++ (decimal at
    ++ (in_path path ++ codes "\n"))))
plain_text outcome.WriteFault = codes "fault: WriteFault\n"
plain_text outcome.Usage =
    codes "usage: ctt check MODULE [--turns N] [--json] | replay FILE [--of MODULE] | normal MODULE NAME [--turns N] | prompt MODULE [--turns N] | make N\n"

-- its status
abbrev pub status_of : Outcome → Status
status_of (outcome.Judged (Yes rows roots)) = status.Yes
status_of (outcome.Judged (No row)) = status.No
status_of (outcome.RootDiffers root) = status.No
status_of (outcome.Refused refusal) = status.No
status_of (outcome.Refuted refusal shown) = status.No
status_of (outcome.MissingFile path) = status.No
status_of outcome.ReadFault = status.Fault
status_of (outcome.Checked count) = status.Yes
status_of (outcome.Shown text) = status.Yes
status_of (outcome.Made text definitions roots) = status.Yes
status_of (outcome.Spent turns at path) = status.Spent
status_of outcome.WriteFault = status.Fault
status_of outcome.Usage = status.Usage
