use Rattle.std.proofs.Common.{sym, subst}
use Rattle.trees.specs.Judgements.{WithVar, trees}
use Rattle.trees.specs.Language.{Sb, Ty}
use Rattle.substitution.specs.Forms.{lift}
use Rattle.typed_nodes.specs.Typed.{Says}
use Rattle.typed_nodes.proofs.GrowthLaws.{says_later}
use Rattle.typing_tasks.proofs.types.codomain_under.Goals as goal

pub under_variable-requires : goal.under_variable-requires
under_variable-requires c =
    let (H, A, B, is) = c.requires in
    (H, is.home, is.sub, is.domain, is.sub_is, is.domain_is)

pub returns-clause-typed : goal.returns-clause-typed
returns-clause-typed c = λ H A B is. record {
  home = WithVar is.home is.domain;
  tree = is.codomain;
  sub = lift trees is.sub;
  type_is = says_later c.args.book.now c.under_variable.new.book c.args.family.codomain (Ty (WithVar is.home is.domain) is.codomain) c.in_ok-sub.ensures.extends is.codomain_is;
  sub_is = subst (λ T. Says c.under_variable.new.book c.in_ok-sub.sub (Sb (WithVar H T) (lift trees is.sub) (WithVar is.home is.domain)))
      (sym is.left) (c.in_ok-sub.ensures.typed H is.home is.sub is.domain is.sub_is is.domain_is);
  is = is.right;
}
