-- What checking definitions in order finds.
use Rattle.std.specs.Prelude.{◌≡◌, ℕ, List, [], ◌++◌, reverse, Bool, true, false}
use Rattle.std.specs.Prelude.{Option, None, Some}
use Rattle.std.specs.List.{AllZip}
use Rattle.codes.specs.declared.code.CodeDef.{CodeDef}
use Rattle.codes.specs.Codes.{definition, definitions}
use Rattle.translation.specs.Translated.{Stated}
use Rattle.book.specs.Contents.{Contents}
use Rattle.direct.specs.Known.{Known}
use Rattle.direct.specs.Direct.{other_place}
use Rattle.typing_steps.specs.declared.state.CheckState.{CheckState}
use Rattle.typing_tasks.specs.declared.tasks.Task.{Task}
use Rattle.typing_tasks.specs.declared.tasks.Tasks.{Tasks}
use Rattle.bidirect.specs.declared.checker.Checked.{Checked}
use Rattle.bidirect.specs.declared.checker.Checked.TheVariants.{Direct, NotDirect}
use Rattle.typing_tasks.specs.States.{State, stated_at}
use Rattle.typing_tasks.specs.Outcomes.{definition_typed}
use Rattle.typing_tasks.specs.Tasks.{Run}
use Rattle.typing_steps.specs.Steps.{IsStated, IsState}

-- All are direct, and the nodes conclude what they state; or this is the place of the first that
-- is not.
abbrev pub AreChecked : Contents → List CodeDef → Checked → Type 0
AreChecked b ds (Direct roots) =
    (other_place ds [] ≡ None) × AllZip (IsStated b) roots.items (stated_at [] (definitions ds))
AreChecked b ds (NotDirect k) = other_place ds [] ≡ Some k

-- a checker, between definitions

abbrev pub Knows : Contents → CheckState → Known → List (Stated ℕ) → Type 0
Knows b x G ds =
    IsState b x (record { known = G; found = []; inferred = []; stated = ds })

-- one more definition was checked
abbrev pub Checks : Contents → CheckState → Bool → CodeDef → Known → List (Stated ℕ) → Type 0
Checks b x false d G ds = definition_typed d G ≡ None
Checks b x true d G ds =
    (H : Known) × (definition_typed d G ≡ Some H)
    × Knows b x H (ds ++ stated_at G (definition d))

-- tasks, and what they make of the state
abbrev pub ToDo : Contents → CheckState → Tasks → Option State → Type 0
ToDo b x tasks R =
    (S : State) × (ts : List Task) × IsState b x S × (tasks.items.items ≡ reverse ts)
    × Run b ts S R

abbrev pub Runs : Contents → CheckState → Bool → Option State → Type 0
Runs b x false R = R ≡ None
Runs b x true R = (S : State) × IsState b x S × (R ≡ Some S)
