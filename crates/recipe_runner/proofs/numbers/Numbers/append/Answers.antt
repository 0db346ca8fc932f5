use Rattle.std.proofs.Common.{◌∙◌, length, take, ap, arith, length-append}
use Rattle.std.proofs.lemmas.List.{length-take-le}
use Rattle.recipe_runner.proofs.numbers.Numbers.append.Goals as goal

pub push-requires : goal.push-requires
push-requires c =
    let l = c.loop-number in
    let longer = ap length l.invariant ∙ length-append c.args.self.now (take l.number-index c.args.numbers.now) in
    let first = length-take-le l.number-index c.args.numbers.now in
    let test = c.loop-number-test.true in
    let few = c.requires in
    omega (arith, longer, first, test, few)
