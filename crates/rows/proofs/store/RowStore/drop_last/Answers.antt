use Rattle.std.proofs.Common.{◌∙◌, ◌-◌, ap₂, take, arith, subst}
use Rattle.std.proofs.lemmas.List.{append-nil}
use Rattle.rows.specs.Held.{AreHeld}
use Rattle.rows.proofs.StoreLaws.{Dropped, dropped, cells-there}
use Rattle.rows.proofs.store.RowStore.drop_last.Goals as goal
use Rattle.rows.proofs.store.RowStore.drop_last.Goals.{After-truncate-2}

pub overflow_sub-kids : goal.overflow_sub-kids
overflow_sub-kids c =
    let s = c.args.self.now in
    omega (arith, (cells-there s.rows.items s.kids.items s.subs.items c.pop.new.self.items c.in-Some.last s.held c.in-Some.ensures.items).0, s.kids.ok.0)

pub overflow_sub-subs : goal.overflow_sub-subs
overflow_sub-subs c =
    let s = c.args.self.now in
    omega (arith, (cells-there s.rows.items s.kids.items s.subs.items c.pop.new.self.items c.in-Some.last s.held c.in-Some.ensures.items).1, s.subs.ok.0)

cut : (c : After-truncate-2) → Dropped c.args.self.now.rows.items c.args.self.now.kids.items c.args.self.now.subs.items c.pop.new.self.items c.truncate.new.self.items c.truncate-2.new.self.items
cut c =
    let s = c.args.self.now in
    let kids = c.kids_beside.ensures in
    let subs = c.subs_beside.ensures in
    dropped s.rows.items s.kids.items s.subs.items c.pop.new.self.items c.in-Some.last c.truncate.new.self.items c.truncate-2.new.self.items s.held c.in-Some.ensures.items
    (c.truncate.ensures.items ∙ ap₂ (λ n m. take (n - m) s.kids.items) (c.len.ensures ∙ s.kids.ok.0) kids)
    (c.truncate-2.ensures.items ∙ ap₂ (λ n m. take (n - m) s.subs.items) (c.len-2.ensures ∙ s.subs.ok.0) subs)

pub invariant_of-self : goal.invariant_of-self
invariant_of-self c =
    let s = c.args.self.now in
    record { held = subst (λ qs. AreHeld qs s.kids.items s.subs.items) (c.in_default.ensures.items ∙ append-nil c.pop.new.self.items) s.held }

pub invariant_of-self-2 : goal.invariant_of-self-2
invariant_of-self-2 c = record { held = (cut c).held }

pub returns : goal.returns
returns c = (cut (goal.at.returns c).After-truncate-2).things
