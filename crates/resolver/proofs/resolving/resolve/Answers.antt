use Rattle.std.proofs.Common.{ap, sym, ◌∙◌}
use Rattle.resolver.proofs.Wholes.{codes_hold, codes_refused}
use Rattle.resolved_forms.proofs.Shaping.{block_spelt}
use Rattle.resolver.proofs.resolving.resolve.Goals as goal

pub returns-in-None-clause-ok : goal.returns-in-None-clause-ok
returns-in-None-clause-ok c =
    codes_hold c.args.scope.now.names c.args.scope.now.next c.args.bytes.now _ _ c.args.module.now _ _ c.requires c.in-Ok.ensures c.as_slice.ensures c.in-Ok-block.ensures.opens c.in-Ok-block.ensures.named (sym c.refusal.ensures ∙ c.in-None.is) c.next.ensures

pub returns-clause-err : goal.returns-clause-err
returns-clause-err c =
    codes_refused c.args.scope.now.names c.args.scope.now.next c.args.bytes.now _ _ c.args.module.now _ _ c.in-Some.refusal c.fault.result c.requires c.in-Ok.ensures c.as_slice.ensures c.in-Ok-block.ensures.opens (sym c.refusal.ensures ∙ c.in-Some.is) c.fault.ensures

pub returns-in-None-clause-spelt : goal.returns-in-None-clause-spelt
returns-in-None-clause-spelt c = block_spelt c.args.module.now.defs (ap (λ s. s.names) c.in-Ok.ensures) c.as_slice.ensures c.in-Ok-block.ensures.spelt
