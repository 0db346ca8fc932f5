use Rattle.std.proofs.Common.{◌∙◌, ap}
use Rattle.syntax.specs.View.{tree_of, tree_list}
use Rattle.syntax.proofs.Rows.{list_push}
use Rattle.syntax.proofs.exp.Exps.push.Goals as goal

pub returns-clause-ok : goal.returns-clause-ok
returns-clause-ok c = ap (tree_list tree_of) c.in_ok-push.ensures.items ∙ list_push tree_of c.args.self.now.items.items c.args.exp
