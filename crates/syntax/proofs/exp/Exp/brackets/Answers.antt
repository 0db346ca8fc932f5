use Rattle.syntax.proofs.Rows.{tree_of_brackets}
use Rattle.syntax.proofs.exp.Exp.brackets.Goals as goal

pub returns : goal.returns
returns c = tree_of_brackets c.args.span c.args.components
