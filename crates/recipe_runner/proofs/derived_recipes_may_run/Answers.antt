use Rattle.recipe_runner.proofs.RunLaws.{may-run}
use Rattle.recipe_runner.proofs.derived_recipes_may_run.Goals as goal

pub returns : goal.returns
returns c = may-run
