use Rattle.replay.proofs.FileLaws.{verdict_of, roots_of_yes}
use Rattle.replay.proofs.judging.judge.Goals as goal

pub returns-clause-verdict : goal.returns-clause-verdict
returns-clause-verdict c = verdict_of c.args.bytes.now c.in_ok-verdict.verdict c.judge_rows.new.rows c.in_ok-verdict.ensures

pub returns-clause-roots : goal.returns-clause-roots
returns-clause-roots c = roots_of_yes c.args.bytes.now c.in_ok-verdict.verdict c.judge_rows.new.rows c.in_ok-verdict.ensures
