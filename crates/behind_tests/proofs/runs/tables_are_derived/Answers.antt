use Rattle.std.proofs.Common.{refl}
use Rattle.recipes.proofs.Soundness.{derives-sound}
use Rattle.pattern_sides.specs.Follows.{follows}
use Rattle.pattern_sides.proofs.SideLaws.{follows-sound}
use Rattle.kan_tests.specs.Fillings.{earlier}
use Rattle.behind_tests.specs.Compositions.{compositions_statement, glued_composition_statement}
use Rattle.behind_tests.specs.Glued.{glued_statement}
use Rattle.behind_tests.specs.declared.compositions.TheConstants.{COMPOSITIONS, COMPOSITIONS_GIVES}
use Rattle.behind_tests.specs.declared.glued.TheConstants.{GLUED, GLUED_GIVES}
use Rattle.behind_tests.specs.declared.glued_composition.TheConstants.{GLUED_COMPOSITION, GLUED_COMPOSITION_GIVES}
use Rattle.behind_tests.proofs.runs.tables_are_derived.Goals as goal

pub returns-clause-glued : goal.returns-clause-glued
returns-clause-glued c = derives-sound follows follows-sound earlier glued_statement GLUED.now GLUED_GIVES.now refl

pub returns-clause-compositions : goal.returns-clause-compositions
returns-clause-compositions c = derives-sound follows follows-sound earlier compositions_statement COMPOSITIONS.now COMPOSITIONS_GIVES.now refl

pub returns-clause-glued_composition : goal.returns-clause-glued_composition
returns-clause-glued_composition c = derives-sound follows follows-sound earlier glued_composition_statement GLUED_COMPOSITION.now GLUED_COMPOSITION_GIVES.now refl
