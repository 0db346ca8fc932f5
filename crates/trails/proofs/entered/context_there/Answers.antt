use Rattle.book.proofs.FitLaws.{extends-trans}
use Rattle.trails.proofs.entered.context_there.Goals as goal

pub returns-in_ok-try_with_name-in-Lines-clause-extends : goal.returns-in_ok-try_with_name-in-Lines-clause-extends
returns-in_ok-try_with_name-in-Lines-clause-extends c = extends-trans _ _ _ c.in_ok-there.ensures.extends c.in_ok-try_with_name-in-Lines.ensures.extends
