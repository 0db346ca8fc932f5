use Rattle.deriv_file.proofs.ReaderLaws.{no_newline, rest_is, line_spells, line_spells_none}
use Rattle.std.proofs.Common.{sym}
use Rattle.deriv_file.proofs.line.first_row.Goals as goal

pub returns-in_default : goal.returns-in_default
returns-in_default c =
    let none = rw c.in_default.is at c.split_at_first.ensures.none in
    no_newline c.args.place.version c.args.place.at c.args.bytes.now none

pub returns-in-Some-2 : goal.returns-in-Some-2
returns-in-Some-2 c =
    let cut = c.in-Some.ensures.some in
    let reads = rw c.in-Some-2.is at c.in_ok-row.ensures in (
      line_spells c.args.place.version c.args.place.at c.args.bytes.now c.in-Some.line.now c.in-Some.rest.now cut.0 cut.1 c.in-Some-2.row reads,
      sym (rest_is c.args.place.version c.args.place.at c.args.bytes.now c.in-Some.line.now c.in-Some.rest.now cut.0 cut.1),
    )

pub returns-in-None : goal.returns-in-None
returns-in-None c =
    let cut = c.in-Some.ensures.some in
    let reads = rw c.in-None.is at c.in_ok-row.ensures in
    line_spells_none c.args.place.version c.args.place.at c.args.bytes.now c.in-Some.line.now c.in-Some.rest.now cut.0 cut.1 reads
