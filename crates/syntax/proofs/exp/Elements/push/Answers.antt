use Rattle.std.proofs.Common.{◌∙◌, ap}
use Rattle.syntax.specs.View.{element_of, tree_list}
use Rattle.syntax.proofs.Rows.{list_push}
use Rattle.syntax.proofs.exp.Elements.push.Goals as goal

pub returns-clause-ok : goal.returns-clause-ok
returns-clause-ok c = ap (tree_list element_of) c.in_ok-push.ensures.items ∙ list_push element_of c.args.self.now.items.items c.args.element
