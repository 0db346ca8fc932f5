use Rattle.std.proofs.Common.{arith}
use Rattle.deriv_file.proofs.NumberLaws.{one_digit_more, first_digits_le, not_a_digit, all_digits}
use Rattle.deriv_file.proofs.number.digits.Goals as goal

pub returns-then-not-is_ascii_digit : goal.returns-then-not-is_ascii_digit
returns-then-not-is_ascii_digit c = λ fits.
    not_a_digit c.args.word.now c.loop-byte.byte-index c.loop-byte-test.true c.if-not-is_ascii_digit.ensures.cases fits.0

pub returns-in_err-checked_mul : goal.returns-in_err-checked_mul
returns-in_err-checked_mul c = rw c.from_residual.ensures (λ fits.
    let le = first_digits_le c.args.word.now c.loop-byte.byte-index c.loop-byte.value c.loop-byte-test.true c.loop-byte.invariant c.if-not-is_ascii_digit.ensures.cases in
    omega (arith, fits.1, c.in_err-checked_mul.ensures))

pub returns-in_err-value : goal.returns-in_err-value
returns-in_err-value c = rw c.from_residual-in_err-value.ensures (λ fits.
    let le = first_digits_le c.args.word.now c.loop-byte.byte-index c.loop-byte.value c.loop-byte-test.true c.loop-byte.invariant c.if-not-is_ascii_digit.ensures.cases in
    omega (arith, fits.1, c.in_err-value.ensures, c.in_ok-checked_mul.ensures.1))

pub loop-byte-preserved : goal.loop-byte-preserved
loop-byte-preserved c =
    let added = c.in_ok-value.ensures in
    one_digit_more c.args.word.now c.loop-byte.byte-index c.loop-byte.value c.loop-byte-test.true c.loop-byte.invariant c.if-not-is_ascii_digit.ensures.cases c.in_ok-value.value
    (omega (arith, added.1, c.in_ok-checked_mul.ensures.1)) (omega (arith, added.0, added.1))

pub returns : goal.returns
returns c = all_digits c.args.word.now c.loop-byte.byte-index c.loop-byte.value c.loop-byte-test.false c.loop-byte.invariant
