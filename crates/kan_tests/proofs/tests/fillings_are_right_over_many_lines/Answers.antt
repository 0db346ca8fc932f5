use Rattle.std.proofs.Common.{[], refl}
use Rattle.recipes.specs.Derivations.{conclusions_at}
use Rattle.kan_tests.specs.Fillings.{lines_statement, earlier}
use Rattle.kan_tests.specs.declared.fill_lines.TheConstants.{FILL_LINES, FILL_LINES_GIVES}
use Rattle.book_tests.proofs.RunLaws.{may-try}
use Rattle.kan_tests.proofs.tests.fillings_are_right_over_many_lines.Goals as goal

pub verdict-requires-clause-right : goal.verdict-requires-clause-right
verdict-requires-clause-right g c = (conclusions_at lines_statement [], may-try earlier lines_statement FILL_LINES.now FILL_LINES_GIVES.now refl refl refl c.fillings_are_derived.ensures.lines)
