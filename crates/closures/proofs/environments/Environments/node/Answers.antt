use Rattle.std.proofs.Common.{arith}
use Rattle.closures.specs.Environments.{node_list}
use Rattle.rows.proofs.TableLaws.{length-built}
use Rattle.closures.proofs.EnvironmentLaws.{at_node}
use Rattle.closures.proofs.environments.Environments.node.Goals as goal

pub index-requires : goal.index-requires
index-requires c = omega (arith, length-built node_list c.args.self.now.nodes.keys)

pub returns-clause-list : goal.returns-clause-list
returns-clause-list c = (at_node c.args.self.now.nodes.keys c.args.at c.index.result.now c.args.self.now.earlier c.index.ensures).list

pub returns-clause-within : goal.returns-clause-within
returns-clause-within c = (at_node c.args.self.now.nodes.keys c.args.at c.index.result.now c.args.self.now.earlier c.index.ensures).within
