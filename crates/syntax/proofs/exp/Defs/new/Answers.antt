use Rattle.std.proofs.Common.{◌∙◌, ap}
use Rattle.syntax.specs.View.{def_of, tree_list}
use Rattle.syntax.proofs.Rows.{defs_of_roll}
use Rattle.syntax.proofs.exp.Defs.new.Goals as goal

pub returns : goal.returns
returns c = defs_of_roll c.new.result ∙ ap (tree_list def_of) c.new.ensures.items
