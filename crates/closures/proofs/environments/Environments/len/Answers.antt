use Rattle.std.proofs.Common.{◌∙◌, sym}
use Rattle.closures.specs.Environments.{node_list}
use Rattle.rows.proofs.TableLaws.{length-built}
use Rattle.closures.proofs.environments.Environments.len.Goals as goal

pub returns : goal.returns
returns c = c.len.ensures.len ∙ sym (length-built node_list c.args.self.now.nodes.keys)
