use Rattle.std.proofs.Common.{length, ◌++◌, ◌∷◌, [], Some, None, ◌∙◌, ap}
use Rattle.replay.specs.Filed.{file_meanings, FiledIs}
use Rattle.rows.specs.Shown.{things}
use Rattle.replay.proofs.FiledLaws.{all-later, filed-later}
use Rattle.replay.proofs.RowLaws.{filed_push, all_pushed}
use Rattle.replay.proofs.ShiftLaws.{later_fit, fit_pushed, row_fits}
use Rattle.replay.proofs.Equality.{on_err}
use Rattle.replay.proofs.row_judge.RowJudge.add.Goals as goal

pub invariant_of-self : goal.invariant_of-self
invariant_of-self c = record {
  all_filed = all-later (things c.args.self.now.store) (things c.filed_of.new.store) c.filed_of.ensures.kept c.args.self.now.filed c.args.self.now.all_filed;
  all_fit = later_fit (things c.args.self.now.store) (things c.filed_of.new.store) c.filed_of.ensures.kept c.args.self.now.filed c.args.self.now.all_filed c.args.self.now.all_fit;
}

pub invariant_of-self-in_default : goal.invariant_of-self-in_default
invariant_of-self-in_default c = record {
  all_filed = all-later (things c.args.self.now.store) (things c.filed_of.new.store) c.filed_of.ensures.kept c.args.self.now.filed c.args.self.now.all_filed;
  all_fit = later_fit (things c.args.self.now.store) (things c.filed_of.new.store) c.filed_of.ensures.kept c.args.self.now.filed c.args.self.now.all_filed c.args.self.now.all_fit;
}

pub invariant_of-self-2 : goal.invariant_of-self-2
invariant_of-self-2 c =
    let xs = things c.args.self.now.store in
    let ys = things c.filed_of.new.store in
    let es = c.args.self.now.filed in
    let there : FiledIs (file_meanings xs c.args.self.now.filed) ys c.args.row.now (Some c.in-Some.row) = rw c.in-Some.is at c.in_ok-filed.ensures.is in
    record {
      all_filed = all_pushed c.push.result ys es c.push.new.self c.in-Some.row there.0 (all-later xs ys c.filed_of.ensures.kept es c.args.self.now.all_filed) there.2 c.push.ensures.ok c.push.ensures.err;
      all_fit = fit_pushed c.push.result ys es c.push.new.self c.in-Some.row there.0 (later_fit xs ys c.filed_of.ensures.kept es c.args.self.now.all_filed c.args.self.now.all_fit) there.2 (row_fits c.requires.stands.0 (length (file_meanings xs es)) (file_meanings xs es) c.args.row.now there.0 c.args.self.now.all_fit c.requires.stands.1 there.1) c.push.ensures.ok c.push.ensures.err;
    }

pub returns-clause-right : goal.returns-clause-right
returns-clause-right c =
    let xs = things c.args.self.now.store in
    let ys = things c.filed_of.new.store in
    let es = c.args.self.now.filed in
    let there : FiledIs (file_meanings xs c.args.self.now.filed) ys c.args.row.now (Some c.in-Some.row) = rw c.in-Some.is at c.in_ok-filed.ensures.is in
    λ yes. (
      there.0,
      there.1,
      ap (file_meanings ys) c.in_ok-push.ensures.ok ∙ filed_push ys es c.in-Some.row there.0 there.2 ∙ ap (λ ms. ms ++ there.0 ∷ []) (filed-later xs ys c.filed_of.ensures.kept es c.args.self.now.all_filed),
    )

pub returns-in_err-filed-clause-err : goal.returns-in_err-filed-clause-err
returns-in_err-filed-clause-err c =
    on_err c.from_residual.result (filed-later (things c.args.self.now.store) (things c.filed_of.new.store) c.filed_of.ensures.kept c.args.self.now.filed c.args.self.now.all_filed)

pub returns-in_default-clause-wrong : goal.returns-in_default-clause-wrong
returns-in_default-clause-wrong c =
    let xs = things c.args.self.now.store in
    let ys = things c.filed_of.new.store in
    let none : FiledIs (file_meanings xs c.args.self.now.filed) ys c.args.row.now None = rw c.in_default.is at c.in_ok-filed.ensures.is in
    λ no. (filed-later xs ys c.filed_of.ensures.kept c.args.self.now.filed c.args.self.now.all_filed, none)

pub returns-in_err-push-clause-err : goal.returns-in_err-push-clause-err
returns-in_err-push-clause-err c =
    let xs = things c.args.self.now.store in
    let ys = things c.filed_of.new.store in
    let es = c.args.self.now.filed in
    on_err c.from_residual-in_err-push.result (
    ap (file_meanings ys) c.in_err-push.ensures.err
    ∙ filed-later xs ys c.filed_of.ensures.kept es c.args.self.now.all_filed)
