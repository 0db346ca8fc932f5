use Rattle.book.proofs.FitLaws.{extends-trans}
use Rattle.trails.proofs.entered.side_of.Goals as goal

pub returns-in_ok-side-in-Some-clause-extends : goal.returns-in_ok-side-in-Some-clause-extends
returns-in_ok-side-in-Some-clause-extends c = extends-trans _ _ _ c.in_ok-kid.ensures.extends c.in_ok-side-in-Some.ensures.extends
