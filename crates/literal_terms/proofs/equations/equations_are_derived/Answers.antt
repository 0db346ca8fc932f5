use Rattle.std.proofs.Common.{[], refl}
use Rattle.recipes.proofs.Soundness.{derives-sound}
use Rattle.pattern_sides.specs.Follows.{follows}
use Rattle.pattern_sides.proofs.SideLaws.{follows-sound}
use Rattle.literal_terms.specs.Equations.{equation_instance_statement, equations_joined_statement}
use Rattle.literal_terms.specs.declared.equation_instance.TheConstants.{EQUATION_INSTANCE, EQUATION_INSTANCE_GIVES}
use Rattle.literal_terms.specs.declared.equations_joined.TheConstants.{EQUATIONS_JOINED, EQUATIONS_JOINED_GIVES}
use Rattle.literal_terms.proofs.equations.equations_are_derived.Goals as goal

pub returns-clause-instance : goal.returns-clause-instance
returns-clause-instance c = derives-sound follows follows-sound [] equation_instance_statement EQUATION_INSTANCE.now EQUATION_INSTANCE_GIVES.now refl

pub returns-clause-joined : goal.returns-clause-joined
returns-clause-joined c = derives-sound follows follows-sound [] equations_joined_statement EQUATIONS_JOINED.now EQUATIONS_JOINED_GIVES.now refl
