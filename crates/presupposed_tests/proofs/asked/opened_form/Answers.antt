use Rattle.trees.specs.Judgements.{Nil}
use Rattle.presupposed_tests.proofs.asked.opened_form.Goals as goal

pub opened_term-requires : goal.opened_term-requires
opened_term-requires c =
    let (t, T, says, literal) = c.requires in
    (Nil, t, T, says, literal)
