use Rattle.command_words.proofs.NumberLaws.{found, not_found}
use Rattle.command_words.proofs.numbers.number_within.Goals as goal

pub returns-in-Ok : goal.returns-in-Ok
returns-in-Ok c =
    found c.args.least c.args.most c.args.word.now c.in-Ok.number c.in-Ok.ensures.value.0.0.0 c.in-Ok.ensures.value.0.1 c.if-least-number.true c.if-number-most.true

pub returns-in_default-3 : goal.returns-in_default-3
returns-in_default-3 c = not_found c.args.least c.args.most c.args.word.now c.ranges.most.fits c.in_default.ensures.value.0
