use Rattle.std.proofs.Common.{reverse, sym, subst}
use Rattle.closures.specs.Chains.{Ends, SentFrom}
use Rattle.closures.proofs.chains.advance.Goals as goal

pub returns-in_ok-unwind-in-To-clause-right : goal.returns-in_ok-unwind-in-To-clause-right
returns-in_ok-unwind-in-To-clause-right g c = λ root leads.
    let f = g.R.Rows.means c.args.rows.now in
    let at = c.args.at in
    let to = subst (SentFrom f root (reverse c.args.waits.now.items) (reverse c.step.new.waits.items) at) c.in-To.is (c.in_ok-index.ensures root) in
    let ends = subst (λ ws. Ends f root ws c.in-To.index) (sym to.0) (leads.ends c.in-To.index to.1) in
    c.in_ok-unwind-in-To.ensures.right f root c.requires.right ends

pub returns-in_ok-unwind-in-To-clause-sent : goal.returns-in_ok-unwind-in-To-clause-sent
returns-in_ok-unwind-in-To-clause-sent g c = λ root leads.
    let f = g.R.Rows.means c.args.rows.now in
    let at = c.args.at in
    let to = subst (SentFrom f root (reverse c.args.waits.now.items) (reverse c.step.new.waits.items) at) c.in-To.is (c.in_ok-index.ensures root) in
    let ends = subst (λ ws. Ends f root ws c.in-To.index) (sym to.0) (leads.ends c.in-To.index to.1) in
    c.in_ok-unwind-in-To.ensures.sent f root c.requires.right ends

pub returns-in-On-clause-sent : goal.returns-in-On-clause-sent
returns-in-On-clause-sent g c = λ root leads.
    let f = g.R.Rows.means c.args.rows.now in
    subst (SentFrom f root (reverse c.args.waits.now.items) (reverse c.step.new.waits.items) c.args.at) c.in-On.is (c.in_ok-index.ensures root) leads
