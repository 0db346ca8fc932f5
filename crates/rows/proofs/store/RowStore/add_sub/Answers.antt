use Rattle.std.proofs.Common.{◌∙◌}
use Rattle.rows.specs.Held.{held_row_meaning}
use Rattle.rows.specs.Shown.{store_means}
use Rattle.rows.proofs.StoreLaws.{Added, added-sub, kept-added, means-added}
use Rattle.rows.proofs.store.RowStore.add_sub.Goals as goal
use Rattle.rows.proofs.store.RowStore.add_sub.Goals.{In-Ok}

row_added : (c : In-Ok) → Added c.args.self.now.rows.items c.args.self.now.kids.items c.args.self.now.subs.items c.push-2.new.self.items c.args.self.now.kids.items c.push.new.self.items (held_row_meaning (store_means c.args.self.now) c.args.row)
row_added c =
    let s = c.args.self.now in
    added-sub s.rows.items s.kids.items s.subs.items (record { row = c.args.row; size = c.args.size }) c.in_ok-at.at c.push-2.new.self.items c.push.new.self.items s.held c.requires.means c.requires.size (c.in_ok-at.ensures ∙ c.len-count.ensures ∙ s.subs.ok.0) c.in_ok-push.ensures.items c.in-Ok.ensures.items

pub invariant_of-self-in-Ok : goal.invariant_of-self-in-Ok
invariant_of-self-in-Ok c = record { held = (row_added c).held }

pub returns-in-Ok-clause-kept : goal.returns-in-Ok-clause-kept
returns-in-Ok-clause-kept c =
    let s = c.args.self.now in
    kept-added s.rows.items s.kids.items s.subs.items c.push-2.new.self.items s.kids.items c.push.new.self.items _ (row_added (goal.at.returns-in-Ok-clause-kept c).In-Ok)

pub returns-in-Ok-clause-meaning : goal.returns-in-Ok-clause-meaning
returns-in-Ok-clause-meaning c =
    let s = c.args.self.now in
    means-added s.rows.items s.kids.items s.subs.items c.push-2.new.self.items s.kids.items c.push.new.self.items _ c.len-number.result
    (row_added (goal.at.returns-in-Ok-clause-meaning c).In-Ok) (c.len-number.ensures ∙ s.rows.ok.0)
