use Rattle.session.proofs.ExclusionLemmas.{one_verdict}
use Rattle.session.proofs.AnswerLaws.{one_answer}
use Rattle.session.proofs.OneCheckLaws.{one_check}
use Rattle.session.proofs.exclusion.answers_exclude_each_other.Goals as goal

pub returns-clause-verdict : goal.returns-clause-verdict
returns-clause-verdict c = one_verdict

pub returns-clause-answer : goal.returns-clause-answer
returns-clause-answer c = one_answer

pub returns-clause-check : goal.returns-clause-check
returns-clause-check c = one_check
