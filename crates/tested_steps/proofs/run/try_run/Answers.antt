use Rattle.std.proofs.Common.{◌∙◌, ◌∷◌, [], ap, length, length-append, arith}
use Rattle.book.proofs.FitLaws.{extends-trans}
use Rattle.tested_steps.proofs.run.try_run.Goals as goal

pub returns-in_err-number-clause-extends : goal.returns-in_err-number-clause-extends
returns-in_err-number-clause-extends c =
    extends-trans c.args.book.now c.loop-row.book c.make.new.book c.loop-row.invariant.extends c.make.ensures

pub loop-row-preserved : goal.loop-row-preserved
loop-row-preserved c =
    let l = c.loop-row in
    let longer = ap length c.push.ensures ∙ length-append l.made (c.in_ok-number.number ∷ []) in
    record {
      count = omega (arith, longer, l.invariant.count);
      extends = extends-trans c.args.book.now l.book c.make.new.book l.invariant.extends c.make.ensures;
    }
