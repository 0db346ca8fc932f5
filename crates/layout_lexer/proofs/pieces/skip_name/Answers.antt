use Rattle.std.proofs.Common.{sym, ◌∙◌}
use Rattle.layout_lexer.specs.Pieces.{continues_name}
use Rattle.layout_lexer.specs.Places.{IsStep}
use Rattle.layout_lexer.proofs.Movement.{moved-run}
use Rattle.layout_lexer.proofs.ReadingLaws.{next_step}
use Rattle.layout_lexer.proofs.pieces.skip_name.Goals as goal

pub loop-c-preserved : goal.loop-c-preserved
loop-c-preserved c =
    let step : IsStep c.loop-c.cursor c.in-Some.c c.next.new.self = next_step c.loop-c.cursor c.next.new.self c.in-Some.c c.next.result (sym c.in-Some.ensures) c.next.ensures in
    moved-run continues_name c.loop-c.cursor c.next.new.self c.in-Some.c step.0 step.1 (sym c.if-not-continues_name.ensures)
    ∙ c.loop-c.invariant
