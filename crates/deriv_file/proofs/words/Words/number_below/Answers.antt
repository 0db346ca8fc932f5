use Rattle.std.proofs.Common.{◌≡◌, ◌∙◌, sym, arith, rules}
use Rattle.std.specs.Fmt.{decimal}
use Rattle.std.proofs.lemmas.Fmt.{decimal_injective}
use Rattle.deriv_file.proofs.words.Words.number_below.Goals as goal

pub returns-else-n-bound-clause-none : goal.returns-else-n-bound-clause-none
returns-else-n-bound-clause-none c = λ n more e below.
    let taken = c.in_ok-take.ensures in
    let word : c.in_ok-take.field-0.now ≡ decimal n = cc in
    let same : c.in_ok-n.n ≡ n = decimal_injective c.in_ok-n.n n (search rules) (search rules) (sym c.in_ok-n.ensures.some ∙ word) in
    omega (arith, below, c.if-n-bound.false)
