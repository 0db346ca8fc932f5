use Rattle.std.proofs.Common.{[], refl}
use Rattle.recipes.proofs.Soundness.{derives-sound}
use Rattle.pattern_sides.specs.Follows.{follows}
use Rattle.pattern_sides.proofs.SideLaws.{follows-sound}
use Rattle.literal_types.specs.Faces.{with_face_statement, past_face_statement}
use Rattle.literal_types.specs.declared.with_face.TheConstants.{WITH_FACE, WITH_FACE_GIVES}
use Rattle.literal_types.specs.declared.past_face.TheConstants.{PAST_FACE, PAST_FACE_GIVES}
use Rattle.literal_types.proofs.face_calls.faces_are_derived.Goals as goal

pub returns-clause-with_face : goal.returns-clause-with_face
returns-clause-with_face c = derives-sound follows follows-sound [] with_face_statement WITH_FACE.now WITH_FACE_GIVES.now refl

pub returns-clause-past_face : goal.returns-clause-past_face
returns-clause-past_face c = derives-sound follows follows-sound [] past_face_statement PAST_FACE.now PAST_FACE_GIVES.now refl
