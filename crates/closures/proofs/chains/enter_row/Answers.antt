use Rattle.std.proofs.Common.{reverse, refl, sym, subst, arith}
use Rattle.closures.specs.Chains.{Leads}
use Rattle.closures.specs.declared.notes.Source.TheVariants as source
use Rattle.closures.specs.declared.chains.Wait.TheVariants as wait
use Rattle.closures.proofs.VariableLaws.{is_push, is_then}
use Rattle.closures.proofs.ChainLaws.{sends-past, leads-next, leads-here, leads-then, waits-then}
use Rattle.closures.proofs.chains.enter_row.Goals as goal

pub returns-in-Some : goal.returns-in-Some
returns-in-Some g c = λ root. (refl, sends-past (g.R.Rows.means c.args.rows.now) c.args.subst c.args.index c.in-Some.past c.requires c.in-Some.ensures)

pub returns-then-index-gt0 : goal.returns-then-index-gt0
returns-then-index-gt0 g c = λ root leads.
    let f = g.R.Rows.means c.args.rows.now in
    let p = is_push f c.args.subst.0 c.in-Push.next.0 c.in-Push.tree.0 c.requires c.in-Push.ensures.meaning in
    leads-next f root c.args.subst c.in-Push.next c.in-Push.tree c.args.index (reverse c.args.waits.now.items) p (omega arith) leads

pub returns-else-index-gt0 : goal.returns-else-index-gt0
returns-else-index-gt0 g c = λ root leads.
    let f = g.R.Rows.means c.args.rows.now in
    let p = is_push f c.args.subst.0 c.in-Push.next.0 c.in-Push.tree.0 c.requires c.in-Push.ensures.meaning in
    leads-here f root c.args.subst c.in-Push.next c.in-Push.tree c.args.index (reverse c.args.waits.now.items) p (omega arith) leads

pub returns-in_ok-push-in-Then-2 : goal.returns-in_ok-push-in-Then-2
returns-in_ok-push-in-Then-2 g c = λ root leads.
    let f = g.R.Rows.means c.args.rows.now in
    let p = is_then f c.args.subst.0 c.in-Then.first.0 c.in-Then.second.0 c.requires c.in-Then.ensures.meaning in
    let order = waits-then c.args.waits.now.items c.push.new.self.items c.push-in-Then.new.self.items (wait.Note (source.Entry c.args.subst c.args.index)) (wait.Next c.in-Then.second) c.in_ok-push-in-Then.ensures.items c.in_ok-push-in-Then-2.ensures.items in
    subst (λ ws. Leads f root ws (source.Entry c.in-Then.first c.args.index)) (sym order) (leads-then f root c.args.subst c.in-Then.first c.in-Then.second c.args.index (reverse c.args.waits.now.items) p leads)
