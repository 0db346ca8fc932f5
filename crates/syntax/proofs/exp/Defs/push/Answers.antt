use Rattle.std.proofs.Common.{◌∙◌, ap, sym}
use Rattle.syntax.specs.Tree.{with}
use Rattle.syntax.specs.View.{def_of, tree_list}
use Rattle.syntax.specs.declared.exp.Defs.{out-Defs}
use Rattle.syntax.proofs.Rows.{defs_of_roll, defs_of_items, list_push, always_on_err}
use Rattle.syntax.proofs.exp.Defs.push.Goals as goal

pub returns-in_err-push-clause-err : goal.returns-in_err-push-clause-err
returns-in_err-push-clause-err c =
    always_on_err _ (defs_of_roll c.push.new.self ∙ ap (tree_list def_of) c.in_err-push.ensures.items ∙ sym (defs_of_items c.args.self.now))

pub returns-clause-ok : goal.returns-clause-ok
returns-clause-ok c =
    defs_of_roll c.push.new.self ∙ ap (tree_list def_of) c.in_ok-push.ensures.items
    ∙ list_push def_of (out-Defs c.args.self.now).items.items c.args.def ∙ ap (λ xs. with xs (def_of c.args.def)) (sym (defs_of_items c.args.self.now))
