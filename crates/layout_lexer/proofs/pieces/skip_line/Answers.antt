use Rattle.std.proofs.Common.{sym, ◌∙◌}
use Rattle.layout_lexer.specs.Pieces.{stays_on_line}
use Rattle.layout_lexer.specs.Places.{IsStep}
use Rattle.layout_lexer.proofs.Movement.{moved-run}
use Rattle.layout_lexer.proofs.ReadingLaws.{next_step, stays}
use Rattle.layout_lexer.proofs.pieces.skip_line.Goals as goal

pub loop-c-preserved : goal.loop-c-preserved
loop-c-preserved c =
    let step : IsStep c.loop-c.cursor c.in-Some.c c.next.new.self = next_step c.loop-c.cursor c.next.new.self c.in-Some.c c.next.result (sym c.in-Some.ensures) c.next.ensures in
    moved-run stays_on_line c.loop-c.cursor c.next.new.self c.in-Some.c step.0 step.1 (stays c.in-Some.c c.if-c-eq10.false)
    ∙ c.loop-c.invariant
