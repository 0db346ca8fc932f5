use Rattle.std.proofs.Common.{◌+◌, refl, arith}
use Rattle.normal_parts.specs.Parts.{written_for}
use Rattle.normal_parts.proofs.WrittenLaws.{same-on}
use Rattle.normal_parts.proofs.written.are_written.Goals as goal

pub loop-i-preserved : goal.loop-i-preserved
loop-i-preserved c = same-on (written_for c.args.raised) c.args.atoms.now c.args.written.now c.loop-i.i _ _ c.loop-i-test.true (omega arith) (c.if-not-is_written.ensures.0 refl) c.loop-i.invariant
