use Rattle.std.proofs.Common.{◌∙◌, Some, reverse, ap, sym, subst}
use Rattle.literal_types.specs.Waits.{Waits}
use Rattle.literal_terms.specs.Traces.{IsJoined}
use Rattle.literal_terms.proofs.TraceLaws.{from_here, joined_all}
use Rattle.literal_terms.proofs.traces.Trace.as_one.Goals as goal

pub joined-requires : goal.joined-requires
joined-requires c =
    let (H, t, T, x) = c.requires in
    let b = c.args.book.now in
    let order = ap reverse (c.in_ok-waiting-in-None.ensures ∙ c.deref.ensures.value) in
    (H, t, x.at.home, x.at.tree, from_here b c.args.self.now.here H x.here, subst (λ ws. Waits b ws H t x.at.home x.at.tree) (sym order) x.at.waits)

pub returns-in_ok-joined-in-None-clause-joined : goal.returns-in_ok-joined-in-None-clause-joined
returns-in_ok-joined-in-None-clause-joined c = λ H t T x.
    let b = c.args.book.now in
    let new = c.joined.new.book in
    let copy = reverse c.in_ok-waiting-in-None.waiting.items in
    let order = ap reverse (c.in_ok-waiting-in-None.ensures ∙ c.deref.ensures.value) in
    let e = c.in_ok-joined-in-None.ensures in
    subst (λ ws. IsJoined new (Some c.in_ok-joined-in-None.field-0) ws H x.at.home) order
    (joined_all e.extends c.in_ok-joined-in-None.field-0 c.args.self.now.here copy H t x.at.home x.at.tree (from_here b c.args.self.now.here H x.here) (subst (λ ws. Waits b ws H t x.at.home x.at.tree) (sym order) x.at.waits) e.joins)
