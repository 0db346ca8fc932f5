use Rattle.std.proofs.Common.{arith}
use Rattle.typed_contexts.proofs.place.Places.depth.Goals as goal

pub returns-clause-place : goal.returns-clause-place
returns-clause-place c = λ b H is. omega (arith, is.count, c.args.self.now.levels.ok.0, c.len.ensures)
