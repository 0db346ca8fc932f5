use Rattle.rows.specs.Shown.{things}
use Rattle.replay.proofs.FiledLaws.{all-later, filed-later}
use Rattle.replay.proofs.ShiftLaws.{later_fit}
use Rattle.replay.proofs.row_judge.RowJudge.make_new.Goals as goal

pub invariant_of-self : goal.invariant_of-self
invariant_of-self c =
    let xs = things c.args.self.now.store in
    let ys = things c.add.new.self in
    let es = c.args.self.now.filed in
    record {
      all_filed = all-later xs ys c.add.ensures.kept es c.args.self.now.all_filed;
      all_fit = later_fit xs ys c.add.ensures.kept es c.args.self.now.all_filed c.args.self.now.all_fit;
    }

pub returns-clause-meant : goal.returns-clause-meant
returns-clause-meant c =
    filed-later (things c.args.self.now.store) (things c.add.new.self) c.add.ensures.kept c.args.self.now.filed c.args.self.now.all_filed

pub returns-in_err-add-clause-meant : goal.returns-in_err-add-clause-meant
returns-in_err-add-clause-meant c =
    filed-later (things c.args.self.now.store) (things c.add.new.self) c.add.ensures.kept c.args.self.now.filed c.args.self.now.all_filed
