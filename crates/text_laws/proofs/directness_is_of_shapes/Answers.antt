use Rattle.text_laws.proofs.TypingLaws.{one_meaning, one_typing, one_definition, one_place}
use Rattle.text_laws.proofs.directness_is_of_shapes.Goals as goal

pub returns : goal.returns
returns c = record {
  meanings = one_meaning;
  typings = one_typing;
  definitions = one_definition;
  places = one_place;
}
