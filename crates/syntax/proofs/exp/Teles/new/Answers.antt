use Rattle.std.proofs.Common.{◌∙◌, ap}
use Rattle.syntax.specs.View.{tele_of, tree_list}
use Rattle.syntax.proofs.Rows.{teles_of_roll}
use Rattle.syntax.proofs.exp.Teles.new.Goals as goal

pub returns : goal.returns
returns c = teles_of_roll c.new.result ∙ ap (tree_list tele_of) c.new.ensures.items
