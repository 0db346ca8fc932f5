use Rattle.std.proofs.Common.{subst}
use Rattle.trees.specs.Language.{Ty}
use Rattle.typed_nodes.proofs.GrowthLaws.{says_later}
use Rattle.literal_types.proofs.GrowthLaws.{extends_extends}
use Rattle.literal_types.specs.Literal.{IsLiteral}
use Rattle.presupposed.proofs.PartLaws.{at_home, pi_has, sig_has, line_has, no_parts}
use Rattle.presupposed.proofs.parts.part_of.Goals as goal

pub identity-requires : goal.identity-requires
identity-requires c =
    let (G, T, J, ctx, ty, part, e) = c.requires in
    (G, ctx)

pub literal-requires : goal.literal-requires
literal-requires c =
    let (G, T, J, ctx, ty, part, e) = c.requires in
    (G, T, at_home c.identity.new.book c.args.ty c.in_ok-sub.sub G T (says_later _ _ c.args.ty (Ty G T) c.in_ok-sub.ensures.extends ty) (c.in_ok-sub.ensures.typed G ctx))

pub returns-in_err-family-clause-extends : goal.returns-in_err-family-clause-extends
returns-in_err-family-clause-extends c = extends_extends c.in_ok-sub.ensures.extends c.in_err-family.ensures.extends

pub unreachable-requires : goal.unreachable-requires
unreachable-requires c =
    let a = c.args in
    let (G, T, J, ctx, ty, part, e) = c.requires in
    let typed = says_later _ _ a.ty (Ty G T) c.in_ok-sub.ensures.extends ty in
    let found = c.in_ok-family.ensures.literal G T (at_home c.identity.new.book a.ty c.in_ok-sub.sub G T typed (c.in_ok-sub.ensures.typed G ctx)) in
    no_parts a.label G T J part e (subst (λ l. IsLiteral c.literal.new.book l G T) c.in-Other.is found)

pub family_part-requires : goal.family_part-requires
family_part-requires c =
    let a = c.args in
    let (G, T, J, ctx, ty, part, e) = c.requires in
    let typed = says_later _ _ a.ty (Ty G T) c.in_ok-sub.ensures.extends ty in
    let found = c.in_ok-family.ensures.literal G T (at_home c.identity.new.book a.ty c.in_ok-sub.sub G T typed (c.in_ok-sub.ensures.typed G ctx)) in
    let (A, B, is, parts) = subst (λ l. IsLiteral c.literal.new.book l G T) c.in-Pi.is found in
    (G, A, B, J, parts, pi_has a.label G T A B J is part e)

pub returns-in_err-family_part-in-Pi-clause-extends : goal.returns-in_err-family_part-in-Pi-clause-extends
returns-in_err-family_part-in-Pi-clause-extends c = extends_extends (extends_extends c.in_ok-sub.ensures.extends c.in_ok-family.ensures.extends) c.in_err-family_part-in-Pi.ensures.extends

pub returns-in_ok-family_part-in-Pi-clause-extends : goal.returns-in_ok-family_part-in-Pi-clause-extends
returns-in_ok-family_part-in-Pi-clause-extends c = extends_extends (extends_extends c.in_ok-sub.ensures.extends c.in_ok-family.ensures.extends) c.in_ok-family_part-in-Pi.ensures.extends

pub returns-in_ok-family_part-in-Pi-clause-typed : goal.returns-in_ok-family_part-in-Pi-clause-typed
returns-in_ok-family_part-in-Pi-clause-typed c = λ G T J ctx ty part e.
    let a = c.args in
    let typed = says_later _ _ a.ty (Ty G T) c.in_ok-sub.ensures.extends ty in
    let found = c.in_ok-family.ensures.literal G T (at_home c.identity.new.book a.ty c.in_ok-sub.sub G T typed (c.in_ok-sub.ensures.typed G ctx)) in
    let (A, B, is, parts) = subst (λ l. IsLiteral c.literal.new.book l G T) c.in-Pi.is found in
    c.in_ok-family_part-in-Pi.ensures.typed G A B J parts (pi_has a.label G T A B J is part e)

pub family_part-requires-in-Sigma : goal.family_part-requires-in-Sigma
family_part-requires-in-Sigma c =
    let a = c.args in
    let (G, T, J, ctx, ty, part, e) = c.requires in
    let typed = says_later _ _ a.ty (Ty G T) c.in_ok-sub.ensures.extends ty in
    let found = c.in_ok-family.ensures.literal G T (at_home c.identity.new.book a.ty c.in_ok-sub.sub G T typed (c.in_ok-sub.ensures.typed G ctx)) in
    let (A, B, is, parts) = subst (λ l. IsLiteral c.literal.new.book l G T) c.in-Sigma.is found in
    (G, A, B, J, parts, sig_has a.label G T A B J is part e)

pub returns-in_err-family_part-in-Sigma-clause-extends : goal.returns-in_err-family_part-in-Sigma-clause-extends
returns-in_err-family_part-in-Sigma-clause-extends c = extends_extends (extends_extends c.in_ok-sub.ensures.extends c.in_ok-family.ensures.extends) c.in_err-family_part-in-Sigma.ensures.extends

pub returns-in_ok-family_part-in-Sigma-clause-extends : goal.returns-in_ok-family_part-in-Sigma-clause-extends
returns-in_ok-family_part-in-Sigma-clause-extends c = extends_extends (extends_extends c.in_ok-sub.ensures.extends c.in_ok-family.ensures.extends) c.in_ok-family_part-in-Sigma.ensures.extends

pub returns-in_ok-family_part-in-Sigma-clause-typed : goal.returns-in_ok-family_part-in-Sigma-clause-typed
returns-in_ok-family_part-in-Sigma-clause-typed c = λ G T J ctx ty part e.
    let a = c.args in
    let typed = says_later _ _ a.ty (Ty G T) c.in_ok-sub.ensures.extends ty in
    let found = c.in_ok-family.ensures.literal G T (at_home c.identity.new.book a.ty c.in_ok-sub.sub G T typed (c.in_ok-sub.ensures.typed G ctx)) in
    let (A, B, is, parts) = subst (λ l. IsLiteral c.literal.new.book l G T) c.in-Sigma.is found in
    c.in_ok-family_part-in-Sigma.ensures.typed G A B J parts (sig_has a.label G T A B J is part e)

pub line_part-requires : goal.line_part-requires
line_part-requires c =
    let a = c.args in
    let (G, T, J, ctx, ty, part, e) = c.requires in
    let typed = says_later _ _ a.ty (Ty G T) c.in_ok-sub.ensures.extends ty in
    let found = c.in_ok-family.ensures.literal G T (at_home c.identity.new.book a.ty c.in_ok-sub.sub G T typed (c.in_ok-sub.ensures.typed G ctx)) in
    let (A, u, v, is, parts) = subst (λ l. IsLiteral c.literal.new.book l G T) c.in-Path.is found in
    (G, A, u, v, J, parts, line_has a.label G T A u v J is part e)

pub returns-in_err-line_part-in-Path-clause-extends : goal.returns-in_err-line_part-in-Path-clause-extends
returns-in_err-line_part-in-Path-clause-extends c = extends_extends (extends_extends c.in_ok-sub.ensures.extends c.in_ok-family.ensures.extends) c.in_err-line_part-in-Path.ensures.extends

pub returns-in_ok-line_part-in-Path-clause-extends : goal.returns-in_ok-line_part-in-Path-clause-extends
returns-in_ok-line_part-in-Path-clause-extends c = extends_extends (extends_extends c.in_ok-sub.ensures.extends c.in_ok-family.ensures.extends) c.in_ok-line_part-in-Path.ensures.extends

pub returns-in_ok-line_part-in-Path-clause-typed : goal.returns-in_ok-line_part-in-Path-clause-typed
returns-in_ok-line_part-in-Path-clause-typed c = λ G T J ctx ty part e.
    let a = c.args in
    let typed = says_later _ _ a.ty (Ty G T) c.in_ok-sub.ensures.extends ty in
    let found = c.in_ok-family.ensures.literal G T (at_home c.identity.new.book a.ty c.in_ok-sub.sub G T typed (c.in_ok-sub.ensures.typed G ctx)) in
    let (A, u, v, is, parts) = subst (λ l. IsLiteral c.literal.new.book l G T) c.in-Path.is found in
    c.in_ok-line_part-in-Path.ensures.typed G A u v J parts (line_has a.label G T A u v J is part e)
