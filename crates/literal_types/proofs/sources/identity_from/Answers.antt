use Rattle.literal_types.proofs.GrowthLaws.{extends_extends}
use Rattle.literal_types.proofs.sources.identity_from.Goals as goal

pub identity-requires : goal.identity-requires
identity-requires c = let (H, from) = c.requires in (H, c.in_ok-ctx.ensures.typed H from)

pub returns-in_err-identity-clause-extends : goal.returns-in_err-identity-clause-extends
returns-in_err-identity-clause-extends c = extends_extends c.in_ok-ctx.ensures.extends c.in_err-identity.ensures.extends

pub returns-clause-extends : goal.returns-clause-extends
returns-clause-extends c = extends_extends c.in_ok-ctx.ensures.extends c.in_ok-identity.ensures.extends

pub returns-clause-typed : goal.returns-clause-typed
returns-clause-typed c = λ H from. c.in_ok-identity.ensures.typed H (c.in_ok-ctx.ensures.typed H from)
