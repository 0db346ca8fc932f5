use Rattle.presupposed.proofs.RuleLaws.{unfolded-composition}
use Rattle.presupposed.proofs.right_sides.comp_rule.Goals as goal

pub unreachable-requires : goal.unreachable-requires
unreachable-requires c = unfolded-composition c.args.rule c.requires c.in_default.not-Composition
