use Rattle.literal_terms.specs.Traces.{trace_weight}
use Rattle.literal_terms.proofs.TraceLaws.{Tracing}
use Rattle.literal_terms.proofs.traces.literal_term.Given as goal

abbrev pub invariant-loop-term : goal.invariant-loop-term
invariant-loop-term l = Tracing l.fn.book l.book l.fn.typing l.fn.here l.trace

abbrev pub decreases-loop-term : goal.decreases-loop-term
decreases-loop-term l = trace_weight l.trace
