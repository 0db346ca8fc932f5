use Rattle.judgement_rows.proofs.Answered.{if_ok}
use Rattle.judgement_rows.proofs.Wholes.{spelt_after}
use Rattle.judgement_rows.proofs.definitions.term_of.Goals as goal

pub returns-clause-term : goal.returns-clause-term
returns-clause-term g c =
    if_ok c.code.result (λ row spells. spelt_after _ _ _ _ _ row c.in_ok-spelling.ensures.after spells) c.code.ensures.spells
