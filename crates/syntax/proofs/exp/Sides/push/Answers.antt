use Rattle.std.proofs.Common.{◌∙◌, ap, sym}
use Rattle.syntax.specs.Tree.{with}
use Rattle.syntax.specs.View.{side_of, tree_list}
use Rattle.syntax.specs.declared.exp.Sides.{out-Sides}
use Rattle.syntax.proofs.Rows.{sides_of_roll, sides_of_items, list_push, always_on_err}
use Rattle.syntax.proofs.exp.Sides.push.Goals as goal

pub returns-in_err-push-clause-err : goal.returns-in_err-push-clause-err
returns-in_err-push-clause-err c =
    always_on_err _ (sides_of_roll c.push.new.self ∙ ap (tree_list side_of) c.in_err-push.ensures.items ∙ sym (sides_of_items c.args.self.now))

pub returns-clause-ok : goal.returns-clause-ok
returns-clause-ok c =
    sides_of_roll c.push.new.self ∙ ap (tree_list side_of) c.in_ok-push.ensures.items
    ∙ list_push side_of (out-Sides c.args.self.now).items.items c.args.side ∙ ap (λ xs. with xs (side_of c.args.side)) (sym (sides_of_items c.args.self.now))
