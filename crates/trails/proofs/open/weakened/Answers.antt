use Rattle.book.proofs.FitLaws.{extends-trans}
use Rattle.trails.proofs.open.weakened.Goals as goal

pub returns-clause-extends : goal.returns-clause-extends
returns-clause-extends c = extends-trans _ _ _ c.in_ok-up.ensures.extends c.in_ok-try_instance.ensures.extends
