use Rattle.std.proofs.Common.{subst}
use Rattle.literal_terms.specs.Traces.{Fits}
use Rattle.literal_terms.proofs.traces.fitting.Goals as goal

pub returns-in_ok-joined_equations-in-Some-clause-typed : goal.returns-in_ok-joined_equations-in-Some-clause-typed
returns-in_ok-joined_equations-in-Some-clause-typed c = λ H R S T first f.
    c.in_ok-joined_equations-in-Some.ensures.typed H R S T first (subst (λ o. Fits c.args.book.now o H S T) c.in-Some.is f)
