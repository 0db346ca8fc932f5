use Rattle.std.proofs.Common.{◌-◌, ◌+◌, arith}
use Rattle.normal_parts.proofs.RisingLaws.{rising-begin, rises-on, rises-not}
use Rattle.normal_parts.proofs.TellLaws.{is-no}
use Rattle.normal_parts.proofs.covers.rises.Goals as goal

pub loop-i-init : goal.loop-i-init
loop-i-init c = rising-begin c.args.atoms.now

pub returns-then-atoms-i : goal.returns-then-atoms-i
returns-then-atoms-i c = is-no (rises-not c.args.atoms.now c.loop-i.i (c.loop-i.i - 1) _ _ (omega arith) (omega arith) c.if-atoms-i.true)

pub loop-i-preserved : goal.loop-i-preserved
loop-i-preserved c = rises-on c.args.atoms.now c.loop-i.i (c.loop-i.i - 1) _ _ (omega arith) (omega arith) c.if-atoms-i.false c.loop-i.invariant
