use Rattle.std.proofs.Common.{refl}
use Rattle.trees.specs.Judgements.{WithVar}
use Rattle.trees.specs.Language.{Ty}
use Rattle.presupposed.proofs.terms.with_domain.Goals as goal

pub context_of-requires : goal.context_of-requires
context_of-requires c =
    let (G, A, B, says) = c.requires in
    (WithVar G A, (Ty (WithVar G A) B, says, refl))

pub last_entry-domain-requires : goal.last_entry-domain-requires
last_entry-domain-requires c =
    let (G, A, B, says) = c.requires in
    (WithVar G A, Ty G A, c.in_ok-ctx.ensures.typed (WithVar G A) (Ty (WithVar G A) B, says, refl), tt, refl)

pub returns-clause-domain : goal.returns-clause-domain
returns-clause-domain c = λ G A B says.
    c.last_entry-domain.ensures (WithVar G A) (Ty G A) (c.in_ok-ctx.ensures.typed (WithVar G A) (Ty (WithVar G A) B, says, refl)) tt refl
