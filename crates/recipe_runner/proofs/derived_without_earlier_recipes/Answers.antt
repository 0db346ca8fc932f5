use Rattle.recipe_runner.proofs.FlatLaws.{flat-derives}
use Rattle.recipe_runner.proofs.derived_without_earlier_recipes.Goals as goal

pub returns : goal.returns
returns c = flat-derives
