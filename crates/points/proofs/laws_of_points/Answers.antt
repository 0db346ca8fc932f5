use Rattle.points.proofs.PointLaws.{with_end_same, with_end_other, lies_over-with_free}
use Rattle.points.proofs.laws_of_points.Goals as goal

pub returns-clause-at_its_end : goal.returns-clause-at_its_end
returns-clause-at_its_end c = with_end_same

pub returns-clause-ends_elsewhere : goal.returns-clause-ends_elsewhere
returns-clause-ends_elsewhere c = with_end_other

pub returns-clause-open_at_free : goal.returns-clause-open_at_free
returns-clause-open_at_free c = lies_over-with_free
