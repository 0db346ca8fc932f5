use Rattle.std.proofs.Common.{Ok, Err, refl, rules}
use Rattle.std.proofs.lemmas.Fn.{always_returns_same}
use Rattle.std.specs.Cmp.Lexicographic.{slice_cmp}
use Rattle.std.specs.Ordering.{nat_cmp}
use Rattle.trees.specs.Operators.{name_of as operator_name}
use Rattle.theory.specs.declared.operators.TheConstants.{OPERATORS}
use Rattle.theory.proofs.LookupLaws.{found, absent}
use Rattle.theory.proofs.Names.{every_operator}
use Rattle.theory.proofs.operators.named.Goals as goal

pub returns-in-Ok-clause-some : goal.returns-in-Ok-clause-some
returns-in-Ok-clause-some c =
    found operator_name OPERATORS.now refl every_operator c.args.name.now (Ok c.in-Ok.at) (c.in-Ok.ensures.position (λ x. slice_cmp nat_cmp (operator_name x) c.args.name.now) (always_returns_same _ _ _ (λ a r g called. (search rules, search rules)))) _

pub returns-in-Err-clause-none : goal.returns-in-Err-clause-none
returns-in-Err-clause-none c =
    absent operator_name OPERATORS.now refl every_operator c.args.name.now (Err c.in-Err.field-0) (c.in-Err.ensures.position (λ x. slice_cmp nat_cmp (operator_name x) c.args.name.now) (always_returns_same _ _ _ (λ a r g called. (search rules, search rules))))
