use Rattle.stability.proofs.NamedLaws.{steps, equivalences, functions, pairs, paths, gluing, universe}
use Rattle.stability.proofs.trees_are_named.Goals as goal

pub returns : goal.returns
returns c = record {
  steps = steps;
  equivalences = equivalences;
  functions = functions;
  pairs = pairs;
  paths = paths;
  gluing = gluing;
  universe = universe;
}
