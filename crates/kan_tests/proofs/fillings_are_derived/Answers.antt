use Rattle.std.proofs.Common.{refl}
use Rattle.recipes.proofs.Soundness.{derives-sound}
use Rattle.pattern_sides.specs.Follows.{follows}
use Rattle.pattern_sides.proofs.SideLaws.{follows-sound}
use Rattle.kan_tests.specs.Fillings.{faces_statement, lines_statement, earlier}
use Rattle.kan_tests.specs.declared.fill_faces.TheConstants.{FILL_FACES, FILL_FACES_GIVES}
use Rattle.kan_tests.specs.declared.fill_lines.TheConstants.{FILL_LINES, FILL_LINES_GIVES}
use Rattle.kan_tests.proofs.fillings_are_derived.Goals as goal

pub returns : goal.returns
returns c = record {
  faces = derives-sound follows follows-sound earlier faces_statement FILL_FACES.now FILL_FACES_GIVES.now refl;
  lines = derives-sound follows follows-sound earlier lines_statement FILL_LINES.now FILL_LINES_GIVES.now refl;
}
