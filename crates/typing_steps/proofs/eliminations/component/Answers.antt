use Rattle.std.proofs.Common.{refl}
use Rattle.direct.specs.Literal.{at}
use Rattle.translation.specs.Terms.{fst}
use Rattle.typing_steps.proofs.eliminations.component.Goals as goal

pub returns-in_ok-first-in-First-clause-typed : goal.returns-in_ok-first-in-First-clause-typed
returns-in_ok-first-in-First-clause-typed c =
    λ H A B p family says. rw c.in-First.is (A, refl, c.in_ok-first-in-First.ensures.typed H A B p family says)

pub returns-in_ok-second-in-Second-clause-typed : goal.returns-in_ok-second-in-Second-clause-typed
returns-in_ok-second-in-Second-clause-typed c =
    λ H A B p family says. rw c.in-Second.is (at B (fst p), refl, c.in_ok-second-in-Second.ensures.typed H A B p family says)
