use Rattle.std.proofs.Common.{◌≡◌, ◌∙◌, sym, ap, take, Some}
use Rattle.std.specs.Prelude.{slice_get}
use Rattle.trees.specs.Things.{meanings}
use Rattle.trees.proofs.Meanings.{kept-same}
use Rattle.rows.specs.Shown.{things}
use Rattle.replay.proofs.FiledLaws.{at_thing, at_node, at_nothing, live_node, claimed-later, take-kept}
use Rattle.replay.proofs.NodeLaws.{premise_some, no_node, iff_along}
use Rattle.replay.proofs.node.premise_holds.Goals as goal

pub returns-in-Thing-clause-holds : goal.returns-in-Thing-clause-holds
returns-in-Thing-clause-holds c =
    let xs = things c.args.store.now in
    no_node _ _ (premise_some c.args.rule (meanings (slice_get xs) c.args.rows.now) c.args.at c.requires.parts c.requires.within) (at_thing xs c.args.filed.now c.args.premise c.in-Thing.field-0 (c.row.ensures ∙ ap Some c.in-Thing.is)).conclusion_is

pub returns-in-Nothing-clause-holds : goal.returns-in-Nothing-clause-holds
returns-in-Nothing-clause-holds c =
    let xs = things c.args.store.now in
    no_node _ _ (premise_some c.args.rule (meanings (slice_get xs) c.args.rows.now) c.args.at c.requires.parts c.requires.within) (at_nothing xs c.args.filed.now c.args.premise (c.row.ensures ∙ ap Some c.in-Nothing.is)).conclusion_is

pub same_claim-requires-clause-left : goal.same_claim-requires-clause-left
same_claim-requires-clause-left c =
    let xs = things c.args.store.now in
    rw c.in_ok-wanted.ensures.claim (premise_some c.args.rule (meanings (slice_get xs) c.args.rows.now) c.args.at c.requires.parts c.requires.within)

pub same_claim-requires-clause-right : goal.same_claim-requires-clause-right
same_claim-requires-clause-right c =
    let xs = things c.args.store.now in
    let live = live_node xs c.args.filed.now c.args.premise c.in-Node.claim c.requires.filed (c.row.ensures ∙ ap Some c.in-Node.is) in
    rw (claimed-later (slice_get xs) (slice_get (things c.wanted.new.maker)) c.wanted.ensures.kept c.in-Node.claim live) live

pub returns-clause-same : goal.returns-clause-same
returns-clause-same c =
    c.truncate.ensures ∙ ap (λ n. take n (things c.wanted.new.maker)) c.len-mark.ensures ∙ take-kept (things c.args.store.now) (things c.wanted.new.maker) c.wanted.ensures.kept

pub returns-clause-kept : goal.returns-clause-kept
returns-clause-kept c =
    let same : things c.truncate.new.self ≡ things c.args.store.now = c.truncate.ensures ∙ ap (λ n. take n (things c.wanted.new.maker)) c.len-mark.ensures ∙ take-kept (things c.args.store.now) (things c.wanted.new.maker) c.wanted.ensures.kept in
    rw same (kept-same (slice_get (things c.args.store.now)))

pub returns-clause-holds : goal.returns-clause-holds
returns-clause-holds c =
    let xs = things c.args.store.now in
    let live = live_node xs c.args.filed.now c.args.premise c.in-Node.claim c.requires.filed (c.row.ensures ∙ ap Some c.in-Node.is) in
    let later = claimed-later (slice_get xs) (slice_get (things c.wanted.new.maker)) c.wanted.ensures.kept c.in-Node.claim live in
    iff_along c.in_ok-same.same _ _ _ _ c.in_ok-same.ensures ((at_node xs c.args.filed.now c.args.premise c.in-Node.claim (c.row.ensures ∙ ap Some c.in-Node.is)).conclusion_is ∙ sym later) (sym c.in_ok-wanted.ensures.claim)
