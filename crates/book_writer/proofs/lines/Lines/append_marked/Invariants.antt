use Rattle.std.proofs.Common.{◌≡◌, ◌++◌}
use Rattle.book_writer.proofs.NumberLaws.{first_lines}
use Rattle.book_writer.proofs.lines.Lines.append_marked.Given as goal

abbrev pub invariant-loop-at : goal.invariant-loop-at
invariant-loop-at l = l.into.items ≡ l.initial.into.items ++ first_lines l.marks l.self l.at
