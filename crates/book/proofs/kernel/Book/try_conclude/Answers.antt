use Rattle.book.proofs.FitLaws.{extends-trans, use-later, shifts-later}
use Rattle.book.proofs.kernel.Book.try_conclude.Goals as goal

pub conclude-requires-clause-right : goal.conclude-requires-clause-right
conclude-requires-clause-right c =
    let a = c.args.self.now in
    let step = c.args.step.now in
    let may = c.in_ok-misfit.ensures.fits.0 c.in-Fits.is in
    (may.judgement, use-later a c.fit.new.self c.fit.ensures.adds.extends step.rule step.parts step.premises may.judgement may.right)

pub conclude-requires-clause-shifts : goal.conclude-requires-clause-shifts
conclude-requires-clause-shifts c =
    let a = c.args.self.now in
    let step = c.args.step.now in
    let may = c.in_ok-misfit.ensures.fits.0 c.in-Fits.is in
    shifts-later a c.fit.new.self c.fit.ensures.adds.extends step may

pub returns-in_err-conclude-in-Fits-clause-extends : goal.returns-in_err-conclude-in-Fits-clause-extends
returns-in_err-conclude-in-Fits-clause-extends c =
    extends-trans c.args.self.now c.fit.new.self c.conclude.new.self c.fit.ensures.adds.extends c.conclude.ensures.extends

pub returns-in_ok-conclude-in-Fits-clause-extends : goal.returns-in_ok-conclude-in-Fits-clause-extends
returns-in_ok-conclude-in-Fits-clause-extends c =
    extends-trans c.args.self.now c.fit.new.self c.conclude.new.self c.fit.ensures.adds.extends c.conclude.ensures.extends

pub returns-in_ok-conclude-in-Fits-clause-concludes : goal.returns-in_ok-conclude-in-Fits-clause-concludes
returns-in_ok-conclude-in-Fits-clause-concludes c =
    let a = c.args.self.now in
    let step = c.args.step.now in
    let may = c.in_ok-misfit.ensures.fits.0 c.in-Fits.is in
    (may.judgement, may.right, c.in_ok-conclude-in-Fits.ensures.concludes may.judgement (use-later a c.fit.new.self c.fit.ensures.adds.extends step.rule step.parts step.premises may.judgement may.right))
