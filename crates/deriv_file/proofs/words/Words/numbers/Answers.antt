use Rattle.std.proofs.Common.{◌<◌, length, get_or, arith}
use Rattle.deriv_file.proofs.WordLaws.{next_number}
use Rattle.deriv_file.proofs.words.Words.numbers.Goals as goal

pub returns-in_default-clause-none : goal.returns-in_default-clause-none
returns-in_default-clause-none c = λ ids more begin.
    let taken = c.loop.invariant in
    let fewer : length c.loop.ids < length ids = omega (arith, taken.counted, c.loop-test.true, begin.counted) in
    let next = next_number c.args.self.now c.loop.self more c.loop.ids ids taken.spelt begin.spelt fewer in
    c.in_default.ensures.none (get_or ids (length c.loop.ids) 0) next.0 next.1 (begin.earlier (length c.loop.ids) 0 fewer).0
