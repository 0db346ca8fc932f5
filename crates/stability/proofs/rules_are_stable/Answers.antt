use Rattle.theory.specs.declared.rule.RuleName.TheVariants.{Equality, Universe, Pi, Sigma, Paths, Naturals, Systems, Composition, Gluing}
use Rattle.stability.specs.Depths.{equality_depths, universe_depths, pi_depths, sigma_depths, path_depths, nat_depths, system_depths, comp_depths, glue_depths}
use Rattle.stability.proofs.Tested.{stable}
use Rattle.stability.proofs.Families.{equality, universe, pi, sigma, paths, naturals, systems, composition, gluing}
use Rattle.stability.proofs.rules_are_stable.Goals as goal

pub returns : goal.returns
returns c = record {
  equality = λ name. stable (Equality name) (equality_depths name) (equality name);
  universe = λ name. stable (Universe name) (universe_depths name) (universe name);
  pi = λ name. stable (Pi name) (pi_depths name) (pi name);
  sigma = λ name. stable (Sigma name) (sigma_depths name) (sigma name);
  paths = λ name. stable (Paths name) (path_depths name) (paths name);
  naturals = λ name. stable (Naturals name) (nat_depths name) (naturals name);
  systems = λ name. stable (Systems name) (system_depths name) (systems name);
  composition = λ name. stable (Composition name) (comp_depths name) (composition name);
  gluing = λ name. stable (Gluing name) (glue_depths name) (gluing name);
}
