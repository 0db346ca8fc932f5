use Rattle.typed_contexts.proofs.place.Places.here.Goals as goal

pub identity-requires : goal.identity-requires
identity-requires c = (c.requires.0, c.ctx.ensures c.args.book.now c.requires.0 c.requires.1)

pub returns-clause-here : goal.returns-clause-here
returns-clause-here c = λ H is. c.in_ok-identity.ensures.typed H (c.ctx.ensures c.args.book.now H is)
