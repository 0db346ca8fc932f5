use Rattle.std.proofs.Common.{◌≡◌, ◌<◌, length, sym, ◌∙◌, arith, subst, take, map}
use Rattle.trees.specs.declared.claim.Claim.TheVariants.{Ctx}
use Rattle.trees.specs.Claimed.{claimed}
use Rattle.book.specs.Shown.{book_concludes, book_means}
use Rattle.book.specs.declared.kernel.NodeId.{NodeId}
use Rattle.stated_roots.proofs.ClaimLaws.{compared, conclusions, judged, one_more}
use Rattle.stated_roots.proofs.claims.conclude_claims.Goals as goal

pub same_claim-requires-clause-right : goal.same_claim-requires-clause-right
same_claim-requires-clause-right c =
    judged (book_means c.args.book.now) c.args.claims.now c.requires.0 c.loop-at.at (Ctx 0) c.requires.1 (omega (arith, c.loop-at-test.true, c.if-nodes-claims.false))

pub loop-at-preserved : goal.loop-at-preserved
loop-at-preserved c =
    let node : NodeId = record { 0 = 0 } in
    one_more (book_means c.args.book.now) (book_concludes c.args.book.now) c.args.nodes.now c.args.claims.now c.loop-at.at node (Ctx 0)
    (omega (arith, c.loop-at-test.true)) (omega (arith, c.loop-at-test.true, c.if-nodes-claims.false)) c.loop-at.invariant
    (sym c.conclusion-concluded.ensures ∙ c.in_ok-same_claim.ensures.0 c.if-not-branch.false)

pub returns : goal.returns
returns c = λ yes Js claims.
    let f = book_means c.args.book.now in
    let says = book_concludes c.args.book.now in
    let all : c.loop-at.at ≡ length c.args.nodes.now = omega (arith, c.loop-at-test.false, c.loop-at.auto.at-end) in
    let same = subst (λ n. take n (conclusions says c.args.nodes.now) ≡ take n (map (claimed f) c.args.claims.now)) all c.loop-at.invariant in
    let long : length c.args.claims.now ≡ length c.args.nodes.now = omega (arith, c.if-nodes-claims.false) in
    compared f says c.args.nodes.now c.args.claims.now Js (length c.args.nodes.now) (omega arith) long claims same
