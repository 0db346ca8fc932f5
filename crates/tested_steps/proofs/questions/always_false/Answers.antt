use Rattle.book.proofs.FitLaws.{extends-trans}
use Rattle.tested_steps.proofs.questions.always_false.Goals as goal

pub returns-in_err-bottom : goal.returns-in_err-bottom
returns-in_err-bottom c =
    extends-trans c.args.book.now c.try_with_face.new.book c.try_make.new.book c.try_with_face.ensures.extends c.try_make.ensures.extends

pub returns : goal.returns
returns c =
    extends-trans c.args.book.now c.try_with_face.new.book c.try_make.new.book c.try_with_face.ensures.extends c.try_make.ensures.extends
