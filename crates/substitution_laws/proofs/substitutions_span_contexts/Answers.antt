use Rattle.substitution_laws.proofs.SpanLaws.{spans}
use Rattle.substitution_laws.proofs.substitutions_span_contexts.Goals as goal

pub returns : goal.returns
returns c = spans
