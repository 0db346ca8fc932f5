use Rattle.text_laws.proofs.OneCode.{one_code, one_codes, one_sides}
use Rattle.text_laws.proofs.a_text_has_one_code.Goals as goal

pub returns : goal.returns
returns c = record {
  code = λ bytes e names at. (one_code bytes e names at).one;
  codes = λ bytes es names step. (one_codes bytes es step names).one;
  sides = λ bytes es names at. (one_sides bytes at es names).one;
}
