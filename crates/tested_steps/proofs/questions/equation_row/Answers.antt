use Rattle.book.proofs.FitLaws.{extends-trans}
use Rattle.tested_steps.proofs.questions.equation_row.Goals as goal

pub returns : goal.returns
returns c = extends-trans c.args.book.now c.var.new.self c.try_make.new.book c.in_ok-name.ensures.extends c.try_make.ensures.extends
