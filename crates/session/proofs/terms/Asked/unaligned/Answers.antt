use Rattle.outcomes.specs.declared.refusal.Cause.TheVariants as cause
use Rattle.session.specs.Lines.{not_taken, refuted}
use Rattle.session.proofs.terms.Asked.unaligned.Goals as goal

pub returns-in-Some : goal.returns-in-Some
returns-in-Some c = λ t. refuted c.start.result cause.Unaligned c.in-Some.evidence (c.in_ok-evidence.ensures c.in-Some.evidence c.in-Some.is) c.told_with.ensures

pub returns-in-None : goal.returns-in-None
returns-in-None c = λ t. not_taken c.not_taken.ensures
