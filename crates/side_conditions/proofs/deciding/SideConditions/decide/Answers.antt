use Rattle.std.proofs.Common.{rules, ◌<◌, ap, ◌∙◌}
use Rattle.rows.specs.declared.views.CtxId.{CtxId}
use Rattle.side_conditions.proofs.deciding.SideConditions.decide.Goals as goal

pub decide_at-requires-clause-place : goal.decide_at-requires-clause-place
decide_at-requires-clause-place g c =
    let p = rw c.in-Some.is at c.place_of.ensures in
    (p.0, p.1, ap (λ (x : CtxId). x.0) p.2 ∙ c.context_of-ctx.ensures)

pub returns-in_err-remember-clause-keeps : goal.returns-in_err-remember-clause-keeps
returns-in_err-remember-clause-keeps g c =
    let below : c.context_of-ctx.result.0 < c.args.mark = search rules in
    let next = c.in_ok-holds.ensures.next in
    c.remember.ensures c.args.mark (g.R.Rows.means c.args.rows.now) c.requires.keeps next.asked
    (next.stays (c.in_ok-asked.ensures.stays c.args.mark below))

pub returns-in_ok-remember-clause-keeps : goal.returns-in_ok-remember-clause-keeps
returns-in_ok-remember-clause-keeps g c =
    let below : c.context_of-ctx.result.0 < c.args.mark = search rules in
    let next = c.in_ok-holds.ensures.next in
    c.remember.ensures c.args.mark (g.R.Rows.means c.args.rows.now) c.requires.keeps next.asked
    (next.stays (c.in_ok-asked.ensures.stays c.args.mark below))
