use Rattle.book.proofs.FitLaws.{extends-trans}
use Rattle.trails.proofs.entered.context_within.Goals as goal

pub returns-in_ok-try_with_variable-in-Some-clause-extends : goal.returns-in_ok-try_with_variable-in-Some-clause-extends
returns-in_ok-try_with_variable-in-Some-clause-extends c = extends-trans _ _ _ c.in_ok-domain-in-Family.ensures.extends c.in_ok-try_with_variable-in-Some.ensures.extends

pub returns-in_ok-try_with_variable-in-Motive-clause-extends : goal.returns-in_ok-try_with_variable-in-Motive-clause-extends
returns-in_ok-try_with_variable-in-Motive-clause-extends c = extends-trans _ _ _ c.in_ok-numbers-in-Motive.ensures.extends c.in_ok-try_with_variable-in-Motive.ensures.extends
