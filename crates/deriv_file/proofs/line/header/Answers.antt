use Rattle.std.proofs.Common.{◌≡◌, rules, arith, decimal}
use Rattle.std.proofs.lemmas.Fmt.{decimal_injective}
use Rattle.deriv_file.proofs.RowLaws.{header_row}
use Rattle.deriv_file.proofs.line.header.Goals as goal
use Rattle.deriv_file.proofs.line.header.Goals.{else-version-gt0-via-then-version-gt0+else-place-eq0, else-version-gt0-via-else-version-gt0}

pub returns-else-version-gt0 : goal.returns-else-version-gt0
returns-else-version-gt0 c = λ row e stands.
    let header = header_row c.args.place.version c.args.place.at c.args.words.now row e stands in
    let taken = c.in_ok-version.ensures.some in
    let words = header.2 in
    let word : decimal c.in_ok-version.version ≡ decimal header.0 = cc in
    let same : c.in_ok-version.version ≡ header.0 = decimal_injective c.in_ok-version.version header.0 (search rules) (omega (arith, header.5)) word in
    elim c.else-version-gt0.branch [
      | else-version-gt0-via-then-version-gt0+else-place-eq0 w ↦ omega (arith, header.3)
      | else-version-gt0-via-else-version-gt0 w ↦ omega (arith, header.4)
    ]
