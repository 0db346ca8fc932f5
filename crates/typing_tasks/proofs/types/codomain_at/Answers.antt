use Rattle.std.proofs.Common.{◌∙◌, ap, subst}
use Rattle.trees.specs.Trees.{push}
use Rattle.trees.specs.Judgements.{WithVar}
use Rattle.trees.specs.Language.{Tm, Ty}
use Rattle.substitution.proofs.BinderLaws.{at-apply_lift}
use Rattle.direct.specs.Literal.{at}
use Rattle.typed_nodes.specs.Typed.{Says}
use Rattle.typed_nodes.proofs.GrowthLaws.{says_later}
use Rattle.typing_tasks.proofs.types.codomain_at.Goals as goal

pub pushed-requires : goal.pushed-requires
pushed-requires c =
    let (H, A, B, a, is, says) = c.requires in
    (H, is.home, is.sub, is.domain, a, is.sub_is, is.domain_is, subst (λ T. Says c.args.book.now c.args.term (Tm H a T)) is.left says)

pub returns-clause-typed : goal.returns-clause-typed
returns-clause-typed c = λ H A B a is says. record {
  home = WithVar is.home is.domain;
  tree = is.codomain;
  sub = push is.sub a;
  type_is = says_later c.args.book.now c.pushed.new.book c.args.family.codomain (Ty (WithVar is.home is.domain) is.codomain) c.in_ok-sub.ensures.extends is.codomain_is;
  sub_is = c.in_ok-sub.ensures.typed H is.home is.sub is.domain a is.sub_is is.domain_is
      (subst (λ T. Says c.args.book.now c.args.term (Tm H a T)) is.left says);
  is = ap (λ T. at T a) is.right ∙ at-apply_lift is.codomain a is.sub;
}
