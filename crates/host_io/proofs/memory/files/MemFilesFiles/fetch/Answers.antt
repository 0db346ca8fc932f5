use Rattle.std.proofs.Common.{refl}
use Rattle.host_io.proofs.memory.files.MemFilesFiles.fetch.Goals as goal

pub returns-then-next_fails-clause-listed : goal.returns-then-next_fails-clause-listed
returns-then-next_fails-clause-listed c = rw (← c.self.view_is) (λ _. c.next_fails.ensures.answer.0 c.if-next_fails.true, λ _. refl)
