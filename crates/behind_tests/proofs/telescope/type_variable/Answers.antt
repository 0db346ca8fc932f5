use Rattle.trees.specs.Trees.{Var}
use Rattle.trees.specs.Judgements.{WithVar, trees}
use Rattle.trees.specs.Language.{Ty}
use Rattle.rules.specs.Table.{universe}
use Rattle.typed_nodes.proofs.GrowthLaws.{says_later}
use Rattle.literal_types.proofs.GrowthLaws.{extends_extends}
use Rattle.behind_tests.proofs.telescope.type_variable.Goals as goal

pub with_variable-requires : goal.with_variable-requires
with_variable-requires c =
    let (G, ty) = c.requires in
    (G, universe trees, ty)

pub last-requires : goal.last-requires
last-requires c =
    let (G, ty) = c.requires in
    (G, universe trees, c.in_ok-ctx.ensures.typed G (universe trees) ty, says_later _ _ c.args.small_types (Ty G (universe trees)) c.in_ok-ctx.ensures.extends ty)

pub small_type-requires : goal.small_type-requires
small_type-requires c =
    let (G, ty) = c.requires in
    (WithVar G (universe trees), Var 0, c.in_ok-small.ensures.typed G (universe trees) (c.in_ok-ctx.ensures.typed G (universe trees) ty) (says_later _ _ c.args.small_types (Ty G (universe trees)) c.in_ok-ctx.ensures.extends ty))

pub returns-clause-extends : goal.returns-clause-extends
returns-clause-extends c = extends_extends (extends_extends c.in_ok-ctx.ensures.extends c.in_ok-small.ensures.extends) c.in_ok-small_type.ensures.extends

pub returns-clause-typed : goal.returns-clause-typed
returns-clause-typed c = λ G ty.
    c.in_ok-small_type.ensures.typed (WithVar G (universe trees)) (Var 0) (c.in_ok-small.ensures.typed G (universe trees) (c.in_ok-ctx.ensures.typed G (universe trees) ty) (says_later _ _ c.args.small_types (Ty G (universe trees)) c.in_ok-ctx.ensures.extends ty))
