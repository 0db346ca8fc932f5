use Rattle.std.proofs.Common.{refl}
use Rattle.trees.specs.Language.{Ty}
use Rattle.literal_types.proofs.GrowthLaws.{extends_extends}
use Rattle.typed_nodes.proofs.GrowthLaws.{says_later}
use Rattle.presupposed.proofs.kids.kid_of.Goals as goal

pub context_of-requires : goal.context_of-requires
context_of-requires c =
    let (G, T, J, says, part, e) = c.requires in
    (G, (Ty G T, says, refl))

pub part_of-requires : goal.part_of-requires
part_of-requires c =
    let (G, T, J, says, part, e) = c.requires in
    let later = says_later _ _ c.args.ty (Ty G T) c.in_ok-ctx.ensures.extends says in
    (G, T, J, c.in_ok-ctx.ensures.typed G (Ty G T, says, refl), later, part, e)

pub returns-in_err-part_of-clause-extends : goal.returns-in_err-part_of-clause-extends
returns-in_err-part_of-clause-extends c = extends_extends c.in_ok-ctx.ensures.extends c.in_err-part_of.ensures.extends

pub returns-clause-extends : goal.returns-clause-extends
returns-clause-extends c = extends_extends c.in_ok-ctx.ensures.extends c.in_ok-part_of.ensures.extends

pub returns-clause-typed : goal.returns-clause-typed
returns-clause-typed c = λ G T J says part e.
    let later = says_later _ _ c.args.ty (Ty G T) c.in_ok-ctx.ensures.extends says in
    c.in_ok-part_of.ensures.typed G T J (c.in_ok-ctx.ensures.typed G (Ty G T, says, refl)) later part e
