use Rattle.std.proofs.Common.{ap, ◌∙◌}
use Rattle.syntax.specs.Tree.{Apply}
use Rattle.syntax.specs.View.{tree_of, elements_of}
use Rattle.syntax.proofs.Rows.{tree_of_apply}
use Rattle.syntax.proofs.exp.Exp.apply.Goals as goal

pub returns : goal.returns
returns c =
    tree_of_apply c.args.span c.in_ok-new.field-0 c.args.elements
    ∙ ap (λ e. Apply c.args.span (tree_of e) (elements_of c.args.elements)) c.in_ok-new.ensures.ok
