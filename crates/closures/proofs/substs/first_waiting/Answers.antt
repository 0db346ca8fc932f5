use Rattle.std.proofs.Common.{ap}
use Rattle.closures.specs.Shown.{lists}
use Rattle.closures.specs.Environments.{listed}
use Rattle.closures.proofs.SubstLaws.{waits_first, plain-raised}
use Rattle.closures.proofs.substs.first_waiting.Goals as goal

pub unreachable-requires : goal.unreachable-requires
unreachable-requires c =
    plain-raised (lists c.args.environments.now) c.args.environment c.in-Node.at c.in-Node.field-1 c.node-node.result.delayed c.node-node.result.rest c.in-Raised.field-0 c.in-Node.is c.node-node.ensures.list c.requires.plain c.in-Raised.is

pub returns : goal.returns
returns c =
    waits_first (lists c.args.environments.now) c.args.environment c.in-Node.at c.in-Node.field-1 c.node-node.result.delayed c.in-Under.subst c.node-node.result.rest c.in-Node.is c.node-node.ensures.list c.node-node.ensures.within c.in-Under.is c.requires.plain

pub returns-in_default : goal.returns-in_default
returns-in_default c = ap (listed (lists c.args.environments.now)) c.in_default.is
