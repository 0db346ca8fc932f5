use Rattle.std.proofs.Common.{refl}
use Rattle.stability.proofs.FormLaws.{cover-same, body-same, line-body-same}
use Rattle.stability.proofs.forms_are_of_the_table.Goals as goal

pub returns-clause-operators : goal.returns-clause-operators
returns-clause-operators c = record {
  i0 = refl;
  i1 = refl;
  neg = λ r. refl;
  min = λ r s. refl;
  f0 = refl;
  eq0 = λ r. refl;
  eq1 = λ r. refl;
  join = λ p q. refl;
}

pub returns-clause-systems : goal.returns-clause-systems
returns-clause-systems c = record {
  cover = cover-same;
  body = body-same;
  line_body = line-body-same;
  along = λ A r. refl;
  fill = λ A p b a r. refl;
}
