use Rattle.book.proofs.FitLaws.{extends-trans}
use Rattle.tested_steps.proofs.questions.conjunction_row.Goals as goal

pub returns-in_err-next : goal.returns-in_err-next
returns-in_err-next c =
    extends-trans c.args.book.now c.loop-equation.book c.equation_row-in-loop-equation.new.book c.loop-equation.invariant c.equation_row-in-loop-equation.ensures

pub returns-in_err-row-2 : goal.returns-in_err-row-2
returns-in_err-row-2 c =
    let before = c.equation_row-in-loop-equation.new.book in
    let grown = extends-trans c.args.book.now c.loop-equation.book before c.loop-equation.invariant c.equation_row-in-loop-equation.ensures in
    extends-trans c.args.book.now before c.try_make-in-loop-equation.new.book grown c.try_make-in-loop-equation.ensures.extends

pub loop-equation-preserved : goal.loop-equation-preserved
loop-equation-preserved c =
    let before = c.equation_row-in-loop-equation.new.book in
    let grown = extends-trans c.args.book.now c.loop-equation.book before c.loop-equation.invariant c.equation_row-in-loop-equation.ensures in
    extends-trans c.args.book.now before c.try_make-in-loop-equation.new.book grown c.try_make-in-loop-equation.ensures.extends
