use Rattle.std.proofs.Common.{◌≡◌, ◌∙◌, sym, ap, subst}
use Rattle.std.specs.Prelude.{IfSome, Contains}
use Rattle.std.specs.Map.{lookup}
use Rattle.std.proofs.lemmas.Map.Views.{IfSome-lookup}
use Rattle.values.specs.contracts.questions.QuestionPartialEq.TheImpl.{eq-value}
use Rattle.values.specs.Answers.{answer_to}
use Rattle.values.proofs.QuestionLaws.{same_question, none_kept}
use Rattle.values.proofs.answers.Answers.find.Goals as goal

pub returns-clause-some : goal.returns-clause-some
returns-clause-some c =
    let q = c.args.question.now in
    let pairs = c.args.self.now in
    let is : c.copied.result ≡ answer_to pairs q = c.copied.ensures ∙ c.get.ensures.value ∙ ap (λ es. lookup (eq-value.it q) es) c.self.view_is in
    subst (λ found. IfSome found (λ answer. Contains pairs (q, answer))) (sym is) (IfSome-lookup same_question q pairs)

pub returns-clause-none : goal.returns-clause-none
returns-clause-none c =
    let q = c.args.question.now in
    none_kept q c.args.self.now c.copied.result (c.copied.ensures ∙ c.get.ensures.value ∙ ap (λ es. lookup (eq-value.it q) es) c.self.view_is)
