use Rattle.std.proofs.Common.{[], refl}
use Rattle.recipes.proofs.Soundness.{derives-sound}
use Rattle.pattern_sides.specs.Follows.{follows}
use Rattle.pattern_sides.proofs.SideLaws.{follows-sound}
use Rattle.structural_rules.specs.Statements.{swap_face_statement, swap_faces_statement, merge_faces_statement}
use Rattle.structural_rules.specs.declared.swap_face.TheConstants.{SWAP_FACE, SWAP_FACE_GIVES}
use Rattle.structural_rules.specs.declared.swap_faces.TheConstants.{SWAP_FACES, SWAP_FACES_GIVES}
use Rattle.structural_rules.specs.declared.merge_faces.TheConstants.{MERGE_FACES, MERGE_FACES_GIVES}
use Rattle.structural_rules.proofs.exchanges_are_derived.Goals as goal

pub returns : goal.returns
returns c = record {
  name = derives-sound follows follows-sound [] swap_face_statement SWAP_FACE.now SWAP_FACE_GIVES.now refl;
  faces = derives-sound follows follows-sound [] swap_faces_statement SWAP_FACES.now SWAP_FACES_GIVES.now refl;
  merge = derives-sound follows follows-sound [] merge_faces_statement MERGE_FACES.now MERGE_FACES_GIVES.now refl;
}
