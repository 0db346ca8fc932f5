use Rattle.std.proofs.Common.{◌∙◌, ap}
use Rattle.syntax.specs.View.{side_of, tree_list}
use Rattle.syntax.proofs.Rows.{sides_of_roll}
use Rattle.syntax.proofs.exp.Sides.new.Goals as goal

pub returns : goal.returns
returns c = sides_of_roll c.new.result ∙ ap (tree_list side_of) c.new.ensures.items
