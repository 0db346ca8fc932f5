-- Tasks that are planned for a task.
use Rattle.std.proofs.Common.{◌≡◌, ◌<◌, List, [], ◌∷◌, Option, Some, None, refl, sym, subst}
use Rattle.book.specs.Contents.{Contents}
use Rattle.typing_steps.specs.declared.state.CheckState.{CheckState}
use Rattle.typing_tasks.specs.declared.tasks.Task.{Task}
use Rattle.typing_tasks.specs.declared.tasks.Tasks.{Tasks}
use Rattle.typing_tasks.specs.declared.tasks.Next.{Next}
use Rattle.typing_tasks.specs.declared.tasks.Next.TheVariants.{Moved, NotDirect}
use Rattle.typing_tasks.specs.States.{State}
use Rattle.typing_tasks.specs.Tasks.{Does, Run, Then}
use Rattle.typing_tasks.specs.Weights.{weight, weights}
use Rattle.codes.proofs.Logs.{append_empty}
use Rattle.typing_steps.specs.Steps.{IsState, Leaves, Plans, Planned, Settles}

-- nothing more is to be done
pub then_done : (b : Contents) (M : Option State) → Then (Run b []) M M
then_done b None = refl
then_done b (Some S) = refl

-- one task, which makes this of the state
pub run_one : (b : Contents) (S : State) (M : Option State) (t : Task) → Does b t S M → Run b (t ∷ []) S M
run_one b S M t does = (M, does, then_done b M)

-- from a state at which what is planned makes what the task makes
pub leaves : (c : Contents) (y : CheckState) (old new : Tasks) (t : Task) (next : Next) (M : Option State) (S : State) (ts : List Task) → next ≡ Moved → IsState c y S → Planned old new ts → weights ts < weight t → Run c ts S M
    → Leaves c y old new t next M
leaves c y old new t next M S ts moved is planned less run =
    subst (λ n. Leaves c y old new t n M) (sym moved) (S, ts, is, planned, less, run)

pub plans : (old new : Tasks) (next : Next) (t : Task) (ts : List Task) → next ≡ Moved → Planned old new ts → weights ts < weight t
    → ((b : Contents) (S : State) (M : Option State) → Does b t S M → Run b ts S M) → Plans old new t next
plans old new next t ts moved planned less law b x S M is does = leaves b x old new t next M S ts moved is planned less (law b S M does)

-- a task that is done leaves nothing to be done
pub settled : (c : Contents) (y : CheckState) (old : Tasks) (t : Task) (next : Next) (M : Option State) → 0 < weight t → Settles c y next M → Leaves c y old old t next M
settled c y old t Moved M less (S, is, e) = (S, [], is, sym (append_empty old.items.items), less, e)
settled c y old t NotDirect M less e = e
