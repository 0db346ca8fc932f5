use Rattle.std.proofs.Common.{ap, sym, ◌∙◌}
use Rattle.resolved_forms.proofs.Shaping.{term_among}
use Rattle.resolver.proofs.Wholes.{exp_holds, exp_refused}
use Rattle.resolver.proofs.resolving.resolve_exp.Goals as goal

pub returns-in-None-clause-ok : goal.returns-in-None-clause-ok
returns-in-None-clause-ok c =
    exp_holds c.args.scope.now.names c.args.scope.now.next c.args.bytes.now _ _ c.args.exp.now c.in-Ok-exp.code c.requires c.in-Ok.ensures c.in-Ok-exp.ensures.resolves (sym c.refusal.ensures ∙ c.in-None.is)

pub returns-clause-err : goal.returns-clause-err
returns-clause-err c =
    exp_refused c.args.scope.now.names c.args.scope.now.next c.args.bytes.now _ _ c.args.exp.now c.in-Ok-exp.code c.in-Some.refusal c.fault.result c.requires c.in-Ok.ensures c.in-Ok-exp.ensures.resolves (sym c.refusal.ensures ∙ c.in-Some.is) c.fault.ensures

pub returns-in-None-clause-spelt : goal.returns-in-None-clause-spelt
returns-in-None-clause-spelt c = (term_among (ap (λ s. s.names) c.in-Ok.ensures) c.in-Ok-exp.ensures.spelt).becomes
