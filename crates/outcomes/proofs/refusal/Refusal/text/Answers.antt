use Rattle.std.proofs.Common.{rules}
use Rattle.outcomes.proofs.refusal.Refusal.text.Goals as goal

pub returns : goal.returns
returns c = rw c.in-None.is (search rules)
