use Rattle.std.proofs.Common.{◌≡◌, length, get_or, arith}
use Rattle.deriv_file.proofs.NumberLaws.{digits_of_number, number_read}
use Rattle.deriv_file.proofs.number.number.Goals as goal
use Rattle.deriv_file.proofs.number.number.Goals.{else-first-eq48-via-then-first-eq48+else-word-gt1, else-first-eq48-via-else-first-eq48}

pub returns-in_default-clause-none : goal.returns-in_default-clause-none
returns-in_default-clause-none c = λ n small e. omega (arith, (digits_of_number c.args.word.now n small e).0.some)

pub returns-then-word-gt1-clause-none : goal.returns-then-word-gt1-clause-none
returns-then-word-gt1-clause-none c = λ n small e.
    let one = (digits_of_number c.args.word.now n small e).0.single c.if-first-eq48.true in
    omega (arith, c.if-word-gt1.true)

pub returns : goal.returns
returns c =
    let single : get_or c.args.word.now 0 0 ≡ 48 → length c.args.word.now ≡ 1 = λ zero. elim c.else-first-eq48.branch [
      | else-first-eq48-via-then-first-eq48+else-word-gt1 w ↦ omega (arith, w.if-word-gt1.false)
      | else-first-eq48-via-else-first-eq48 w ↦ absurd (w.if-first-eq48.false zero)
    ] in
    let read = number_read c.args.word.now c.digits.result c.in-len1-up.len_at_least single c.digits.ensures in
    record { some = read.0; none = read.1 }
