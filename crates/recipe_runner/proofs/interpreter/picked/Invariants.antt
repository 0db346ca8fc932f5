use Rattle.std.proofs.Common.{◌≡◌, take}
use Rattle.recipe_runner.specs.Running.{numbers_at}
use Rattle.recipe_runner.proofs.interpreter.picked.Given as goal

abbrev pub invariant-loop-place : goal.invariant-loop-place
invariant-loop-place l = l.few ≡ numbers_at l.made (take l.place-index l.places)
