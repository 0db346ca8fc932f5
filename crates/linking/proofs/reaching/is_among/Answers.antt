use Rattle.std.proofs.Common.{sym, ◌∙◌}
use Rattle.linking.proofs.ReachLaws.{any_found}
use Rattle.linking.proofs.reaching.is_among.Goals as goal

pub returns-then-eq : goal.returns-then-eq
returns-then-eq c =
    any_found c.args.names.now c.args.name.now c.loop-other.other-index c.other-item.result c.loop-other-test.true c.other-item.is
    (sym c.eq.ensures ∙ c.if-eq.true) c.as_str.ensures.value
