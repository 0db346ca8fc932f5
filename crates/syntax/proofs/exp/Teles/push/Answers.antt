use Rattle.std.proofs.Common.{◌∙◌, ap, sym}
use Rattle.syntax.specs.Tree.{with}
use Rattle.syntax.specs.View.{tele_of, tree_list}
use Rattle.syntax.specs.declared.exp.Teles.{out-Teles}
use Rattle.syntax.proofs.Rows.{teles_of_roll, teles_of_items, list_push, always_on_err}
use Rattle.syntax.proofs.exp.Teles.push.Goals as goal

pub returns-in_err-push-clause-err : goal.returns-in_err-push-clause-err
returns-in_err-push-clause-err c =
    always_on_err _ (teles_of_roll c.push.new.self ∙ ap (tree_list tele_of) c.in_err-push.ensures.items ∙ sym (teles_of_items c.args.self.now))

pub returns-clause-ok : goal.returns-clause-ok
returns-clause-ok c =
    teles_of_roll c.push.new.self ∙ ap (tree_list tele_of) c.in_ok-push.ensures.items
    ∙ list_push tele_of (out-Teles c.args.self.now).items.items c.args.tele ∙ ap (λ xs. with xs (tele_of c.args.tele)) (sym (teles_of_items c.args.self.now))
