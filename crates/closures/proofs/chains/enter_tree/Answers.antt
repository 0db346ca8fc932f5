use Rattle.std.proofs.Common.{reverse, refl, sym, subst}
use Rattle.closures.specs.Chains.{IsVariable, Leads}
use Rattle.closures.specs.declared.notes.Source.TheVariants as source
use Rattle.closures.specs.declared.chains.Wait.TheVariants as wait
use Rattle.closures.proofs.ChainLaws.{variable-row, leads-instance, waits-then}
use Rattle.closures.proofs.chains.enter_tree.Goals as goal

pub returns-in-Var : goal.returns-in-Var
returns-in-Var g c = λ root.
    let f = g.R.Rows.means c.args.rows.now in
    (refl, subst (IsVariable f c.args.tree) (sym c.from.ensures) (variable-row f c.args.tree c.in-Var.index c.in-Var.ensures.meaning))

pub returns-in_ok-push-in-Instance-2 : goal.returns-in_ok-push-in-Instance-2
returns-in_ok-push-in-Instance-2 g c = λ root leads.
    let f = g.R.Rows.means c.args.rows.now in
    let order = waits-then c.args.waits.now.items c.push.new.self.items c.push-in-Instance.new.self.items (wait.Note (source.Tree c.args.tree)) (wait.Next c.in-Instance.subst) c.in_ok-push-in-Instance.ensures.items c.in_ok-push-in-Instance-2.ensures.items in
    subst (λ ws. Leads f root ws (source.Tree c.in-Instance.inner)) (sym order) (leads-instance f root c.args.tree c.in-Instance.inner c.in-Instance.subst (reverse c.args.waits.now.items) c.requires c.in-Instance.ensures.meaning leads)
