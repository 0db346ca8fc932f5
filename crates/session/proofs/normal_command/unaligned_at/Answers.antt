use Rattle.std.proofs.Common.{refl}
use Rattle.session.proofs.normal_command.unaligned_at.Goals as goal

pub returns-in-Some : goal.returns-in-Some
returns-in-Some c = λ defs. (refl, c.in_ok-evidence.ensures c.in-Some.evidence c.in-Some.is)

pub returns-in-None : goal.returns-in-None
returns-in-None c = λ defs. refl
