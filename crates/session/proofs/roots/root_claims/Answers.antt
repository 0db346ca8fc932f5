use Rattle.std.proofs.Common.{arith}
use Rattle.replay.specs.Shown.{root_judgements, rows_mean}
use Rattle.session.proofs.RootLaws.{push_claim}
use Rattle.session.proofs.roots.root_claims.Goals as goal

pub loop-at-preserved : goal.loop-at-preserved
loop-at-preserved c =
    let rows = c.args.rows.now in
    push_claim (rows_mean rows) c.loop-at.claims.items c.push.new.self.items c.root_claim.result (root_judgements rows) c.loop-at.at
    (omega (arith, c.root_count-at-end.ensures, c.loop-at-test.true)) c.in_ok-push.ensures.items c.loop-at.invariant c.root_claim.ensures
