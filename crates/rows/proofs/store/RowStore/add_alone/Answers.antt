use Rattle.std.proofs.Common.{◌∙◌, is_ok, []}
use Rattle.rows.specs.Shown.{store_means}
use Rattle.rows.specs.Held.{held_meaning}
use Rattle.rows.proofs.StoreLaws.{Added, added-alone, held-alone, kept-added, means-added}
use Rattle.rows.proofs.store.RowStore.add_alone.Goals as goal
use Rattle.rows.proofs.store.RowStore.add_alone.Goals.{In_ok-push}

pub invariant_of-self : goal.invariant_of-self
invariant_of-self c =
    let s = c.args.self.now in
    record { held = rw c.push.ensures.items (held-alone (is_ok c.push.result) s.rows.items s.kids.items s.subs.items c.args.row s.held c.requires.alone c.requires.means) }

row_added : (c : In_ok-push) → Added c.args.self.now.rows.items c.args.self.now.kids.items c.args.self.now.subs.items c.push.new.self.items c.args.self.now.kids.items c.args.self.now.subs.items (held_meaning (store_means c.args.self.now) [] [] c.args.row)
row_added c =
    let s = c.args.self.now in
    added-alone s.rows.items s.kids.items s.subs.items c.args.row c.push.new.self.items s.held c.requires.alone c.requires.means c.in_ok-push.ensures.items

pub returns-clause-kept : goal.returns-clause-kept
returns-clause-kept c = let s = c.args.self.now in kept-added s.rows.items s.kids.items s.subs.items c.push.new.self.items s.kids.items s.subs.items _ (row_added c)

pub returns-clause-meaning : goal.returns-clause-meaning
returns-clause-meaning c =
    let s = c.args.self.now in
    means-added s.rows.items s.kids.items s.subs.items c.push.new.self.items s.kids.items s.subs.items _ c.len-at.result (row_added c) (c.len-at.ensures ∙ s.rows.ok.0)
