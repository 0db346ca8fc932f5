use Rattle.std.proofs.Common.{◌≡◌, ◌∙◌, ◌++◌, ◌∷◌, [], None, sym, ap}
use Rattle.std.specs.Map.{lookup}
use Rattle.indexmap.proofs.CallerLemmas.{insert_entry-new}
use Rattle.values.specs.contracts.questions.QuestionPartialEq.TheImpl.{eq-value}
use Rattle.values.specs.Answers.{with_answer}
use Rattle.values.proofs.QuestionLaws.{no_key, one_more}
use Rattle.values.proofs.answers.Answers.keep.Goals as goal

pub returns-in_ok-insert-clause-ok : goal.returns-in_ok-insert-clause-ok
returns-in_ok-insert-clause-ok c =
    let q = c.args.question in
    let a = c.args.answer in
    let none = no_key _ (lookup (eq-value.it q) c.self.inside.pairs.entries) c.contains_key.ensures c.if-not-contains_key.true in
    c.in_ok-insert.ensures.entries ∙ insert_entry-new eq-value.it c.self.inside.pairs q a none
    ∙ sym (one_more q a c.self.inside.pairs.entries none) ∙ ap (λ es. with_answer es q a) c.self.view_is
