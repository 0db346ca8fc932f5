use Rattle.std.proofs.Common.{refl}
use Rattle.trees.specs.Language.{Ty}
use Rattle.literal_types.proofs.GrowthLaws.{extends_extends}
use Rattle.typed_nodes.proofs.GrowthLaws.{says_later}
use Rattle.presupposed.proofs.PartLaws.{at_home}
use Rattle.presupposed.proofs.kids.kids_of.Goals as goal

pub context_of-requires : goal.context_of-requires
context_of-requires c =
    let (G, T, says) = c.requires in
    (G, (Ty G T, says, refl))

pub identity-requires : goal.identity-requires
identity-requires c =
    let (G, T, says) = c.requires in
    (G, c.in_ok-ctx.ensures.typed G (Ty G T, says, refl))

pub returns-in_err-sub-clause-extends : goal.returns-in_err-sub-clause-extends
returns-in_err-sub-clause-extends c = extends_extends c.in_ok-ctx.ensures.extends c.in_err-sub.ensures.extends

pub literal-requires : goal.literal-requires
literal-requires c =
    let (G, T, says) = c.requires in
    let grown = extends_extends c.in_ok-ctx.ensures.extends c.in_ok-sub.ensures.extends in
    (G, T, at_home c.identity.new.book c.args.ty c.in_ok-sub.sub G T (says_later _ _ c.args.ty (Ty G T) grown says) (c.in_ok-sub.ensures.typed G (c.in_ok-ctx.ensures.typed G (Ty G T, says, refl))))

pub returns-in_err-literal-clause-extends : goal.returns-in_err-literal-clause-extends
returns-in_err-literal-clause-extends c = extends_extends (extends_extends c.in_ok-ctx.ensures.extends c.in_ok-sub.ensures.extends) c.in_err-literal.ensures.extends

pub returns-clause-extends : goal.returns-clause-extends
returns-clause-extends c = extends_extends (extends_extends c.in_ok-ctx.ensures.extends c.in_ok-sub.ensures.extends) c.in_ok-literal.ensures.extends

pub returns-clause-literal : goal.returns-clause-literal
returns-clause-literal c = λ G T says.
    let grown = extends_extends c.in_ok-ctx.ensures.extends c.in_ok-sub.ensures.extends in
    c.in_ok-literal.ensures.literal G T (at_home c.identity.new.book c.args.ty c.in_ok-sub.sub G T (says_later _ _ c.args.ty (Ty G T) grown says) (c.in_ok-sub.ensures.typed G (c.in_ok-ctx.ensures.typed G (Ty G T, says, refl))))
