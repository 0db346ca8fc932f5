use Rattle.std.proofs.Common.{◌≡◌, ◌<◌, take, length, map, sym, ◌∙◌, subst, arith, true≢false}
use Rattle.std.proofs.lemmas.List.{length-map}
use Rattle.trees.specs.declared.claim.Claim.TheVariants.{Ctx}
use Rattle.trees.specs.Claimed.{claimed}
use Rattle.replay.specs.Shown.{rows_mean}
use Rattle.session.proofs.RootLaws.{all_same, differ_at, ends_at, same_on}
use Rattle.session.proofs.roots.first_difference.Goals as goal
use Rattle.session.proofs.roots.first_difference.Goals.{In-loop-at, After-loop-at}

within : (c : In-loop-at) → (c.loop-at.at < length c.args.roots.now) × (c.loop-at.at < length c.args.claims.now)
within c = (omega (arith, c.loop-at-test.true, c.min-both.ensures), omega (arith, c.loop-at-test.true, c.min-both.ensures))

pub same_claim-requires-clause-left : goal.same_claim-requires-clause-left
same_claim-requires-clause-left c =
    let at = within (goal.at.same_claim-requires-clause-left c).In-loop-at in
    rw c.loop-at.invariant.0 (c.requires.roots c.loop-at.at (Ctx 0) at.0)

pub same_claim-requires-clause-right : goal.same_claim-requires-clause-right
same_claim-requires-clause-right c =
    let at = within (goal.at.same_claim-requires-clause-right c).In-loop-at in
    rw c.loop-at.invariant.0 (c.requires.claims c.loop-at.at (Ctx 0) at.1)

pub returns-then-not-branch : goal.returns-then-not-branch
returns-then-not-branch c =
    let i = c.loop-at.invariant in
    let at = within (goal.at.returns-then-not-branch c).In-loop-at in
    differ_at (rows_mean c.loop-at.rows) (rows_mean c.args.rows.now) c.args.roots.now c.args.claims.now c.loop-at.at (Ctx 0) i.0 at.0 at.1 i.1
    (λ same. true≢false (sym (c.in_ok-same_claim.ensures.same.1 same) ∙ c.if-not-branch.true))

pub loop-at-preserved : goal.loop-at-preserved
loop-at-preserved c =
    let i = c.loop-at.invariant in
    let at = within (goal.at.loop-at-preserved c).In-loop-at in
    let same = c.in_ok-same_claim.ensures.same.0 c.if-not-branch.false in (
      c.in_ok-same_claim.ensures.rows ∙ i.0,
      same_on (rows_mean c.loop-at.rows) (rows_mean c.args.rows.now) c.args.roots.now c.args.claims.now c.loop-at.at (Ctx 0) i.0 at.0 at.1 i.1 same,
    )

-- after the loop all are compared that both have
compared : (c : After-loop-at) → let judgements = map (claimed (rows_mean c.args.rows.now)) in take c.min-both.result (judgements c.args.roots.now) ≡ take c.min-both.result (judgements c.args.claims.now)
compared c =
    let judgements = map (claimed (rows_mean c.args.rows.now)) in
    let all : c.loop-at.at ≡ c.min-both.result = omega (arith, c.loop-at-test.false, c.loop-at.auto.at-end) in
    subst (λ n. take n (judgements c.args.roots.now) ≡ take n (judgements c.args.claims.now)) all c.loop-at.invariant.1

pub returns : goal.returns
returns c =
    let read = claimed (rows_mean c.args.rows.now) in
    let here = length-map c.args.roots.now read in
    let there = length-map c.args.claims.now read in
    ends_at (map read c.args.roots.now) (map read c.args.claims.now) c.min-both.result (omega (arith, c.min-both.ensures, here, there))
    (λ same. c.if-roots-claims.false (sym here ∙ same ∙ there)) (compared (goal.at.returns c).After-loop-at)

pub returns-then-roots-claims : goal.returns-then-roots-claims
returns-then-roots-claims c =
    let read = claimed (rows_mean c.args.rows.now) in
    let here = length-map c.args.roots.now read in
    let there = length-map c.args.claims.now read in
    let same : length c.args.roots.now ≡ length c.args.claims.now = c.if-roots-claims.true in
    all_same (map read c.args.roots.now) (map read c.args.claims.now) c.min-both.result (omega (arith, c.min-both.ensures, same, here)) (omega (arith, c.min-both.ensures, same, there))
    (compared (goal.at.returns-then-roots-claims c).After-loop-at)
