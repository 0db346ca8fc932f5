use Rattle.text_laws.proofs.ProgramLaws.{one_list, one_answer}
use Rattle.text_laws.proofs.texts_determine_directness.Goals as goal

pub returns : goal.returns
returns c = record { codes = one_list; places = one_answer }
