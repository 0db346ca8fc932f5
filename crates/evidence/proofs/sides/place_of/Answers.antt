use Rattle.evidence.proofs.GrowthLaws.{further}
use Rattle.evidence.proofs.sides.place_of.Goals as goal

pub returns-in_err-fixed-clause-extends : goal.returns-in_err-fixed-clause-extends
returns-in_err-fixed-clause-extends c = further c.is_consistent.ensures.extends c.fixed_names.ensures.extends

pub returns-clause-extends : goal.returns-clause-extends
returns-clause-extends c = further c.is_consistent.ensures.extends c.fixed_names.ensures.extends
