-- What tasks make of states, one after another.
use Rattle.std.proofs.Common.{◌≡◌, List, Option, Some, None, Bool, true, false, refl}
use Rattle.std.specs.Option.{option_map}
use Rattle.book.specs.Contents.{Contents}
use Rattle.direct.specs.Typings.{where_true}
use Rattle.typing_tasks.specs.declared.tasks.Task.{Task}
use Rattle.typing_tasks.specs.States.{State}
use Rattle.typing_tasks.specs.Tasks.{Run, Then}

-- where a test holds, what is planned goes on; else nothing is direct
pub then_where : (b : Contents) (ts : List Task) (S : State) {R : Option State} (p : Bool) → (p ≡ true → Run b ts S R) → (p ≡ false → R ≡ None) → Then (Run b ts) (where_true p (Some S)) R
then_where b ts S true good bad = good refl
then_where b ts S false good bad = bad refl

pub then_map : (b : Contents) {A : Type 0} (ts : List Task) {R : Option State} (f : A → State) (o : Option A) → ((a : A) → o ≡ Some a → Run b ts (f a) R) → (o ≡ None → R ≡ None) → Then (Run b ts) (option_map f o) R
then_map b ts f None good bad = bad refl
then_map b ts f (Some a) good bad = good a refl
