use Rattle.text_laws.proofs.NumberLaws.{code-counts, defs-count}
use Rattle.text_laws.proofs.numbers_are_of_shapes.Goals as goal

pub returns : goal.returns
returns c = record {
  code = λ d G. (code-counts d G).counted;
  definitions = λ ds G. (defs-count ds G).counted;
}
