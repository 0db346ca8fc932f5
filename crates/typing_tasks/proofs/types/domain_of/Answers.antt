use Rattle.typing_tasks.proofs.types.domain_of.Goals as goal

pub returns : goal.returns
returns c = λ b H A B is. record {
  home = is.home;
  tree = is.domain;
  sub = is.sub;
  type_is = is.domain_is;
  sub_is = is.sub_is;
  is = is.left;
}
