use Rattle.std.proofs.Common.{◌∙◌}
use Rattle.std.specs.Prelude.{option_and_then}
use Rattle.trees.specs.Things.{made, meanings}
use Rattle.rows.specs.Shown.{store_means}
use Rattle.rows.proofs.StoreLaws.{Added, added-make, kept-added, means-added}
use Rattle.rows.proofs.store.RowStore.add_make.Goals as goal
use Rattle.rows.proofs.store.RowStore.add_make.Goals.{In-Ok}

row_added : (c : In-Ok) → Added c.args.self.now.rows.items c.args.self.now.kids.items c.args.self.now.subs.items c.push.new.self.items c.extend_from_slice.new.self.items c.args.self.now.subs.items (option_and_then (made c.args.op) (meanings (store_means c.args.self.now) c.args.kids.now))
row_added c =
    let s = c.args.self.now in
    added-make s.rows.items s.kids.items s.subs.items c.args.op c.in_ok-at.at c.args.kids.now c.push.new.self.items c.extend_from_slice.new.self.items s.held c.requires (c.in_ok-at.ensures ∙ c.len-count.ensures ∙ s.kids.ok.0) c.in_ok-extend_from_slice.ensures.items c.in-Ok.ensures.items

pub invariant_of-self-in-Ok : goal.invariant_of-self-in-Ok
invariant_of-self-in-Ok c = record { held = (row_added c).held }

pub returns-in-Ok-clause-kept : goal.returns-in-Ok-clause-kept
returns-in-Ok-clause-kept c =
    let s = c.args.self.now in
    kept-added s.rows.items s.kids.items s.subs.items c.push.new.self.items c.extend_from_slice.new.self.items s.subs.items _ (row_added (goal.at.returns-in-Ok-clause-kept c).In-Ok)

pub returns-in-Ok-clause-meaning : goal.returns-in-Ok-clause-meaning
returns-in-Ok-clause-meaning c =
    let s = c.args.self.now in
    means-added s.rows.items s.kids.items s.subs.items c.push.new.self.items c.extend_from_slice.new.self.items s.subs.items _ c.len-number.result
    (row_added (goal.at.returns-in-Ok-clause-meaning c).In-Ok) (c.len-number.ensures ∙ s.rows.ok.0)
