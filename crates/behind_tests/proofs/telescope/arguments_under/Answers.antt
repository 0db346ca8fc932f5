use Rattle.trees.specs.Trees.{Var}
use Rattle.trees.specs.Judgements.{WithVar, trees}
use Rattle.trees.specs.Language.{Ctx, Ty}
use Rattle.rules.specs.Table.{universe}
use Rattle.typed_nodes.proofs.GrowthLaws.{says_later}
use Rattle.literal_types.proofs.GrowthLaws.{extends_extends}
use Rattle.behind_tests.specs.Telescopes.{with_two}
use Rattle.behind_tests.proofs.telescope.arguments_under.Goals as goal

pub type_variable-requires : goal.type_variable-requires
type_variable-requires c =
    let (G, ctx) = c.requires in
    (G, c.in_ok-universe.ensures.typed G ctx)

pub with_variable-requires : goal.with_variable-requires
with_variable-requires c =
    let (G, ctx) = c.requires in
    (WithVar G (universe trees), Var 0, c.in_ok-ty.ensures.typed G (c.in_ok-universe.ensures.typed G ctx))

pub last-requires : goal.last-requires
last-requires c =
    let (G, ctx) = c.requires in
    let H = WithVar G (universe trees) in
    let ty = c.in_ok-ty.ensures.typed G (c.in_ok-universe.ensures.typed G ctx) in
    (H, Var 0, c.in_ok-inner.ensures.typed H (Var 0) ty, says_later _ _ c.in_ok-ty.ty (Ty H (Var 0)) c.in_ok-inner.ensures.extends ty)

pub returns-clause-extends : goal.returns-clause-extends
returns-clause-extends c = extends_extends (extends_extends (extends_extends c.in_ok-universe.ensures.extends c.in_ok-ty.ensures.extends) c.in_ok-inner.ensures.extends) c.in_ok-element.ensures.extends

pub returns-clause-typed : goal.returns-clause-typed
returns-clause-typed c = λ G ctx.
    let H = WithVar G (universe trees) in
    let universe_then = c.in_ok-universe.ensures.typed G ctx in
    let ty = c.in_ok-ty.ensures.typed G universe_then in
    let inner = c.in_ok-inner.ensures.typed H (Var 0) ty in
    let ty_then = says_later _ _ c.in_ok-ty.ty (Ty H (Var 0)) c.in_ok-inner.ensures.extends ty in
    record {
      universe_is = says_later _ _ c.in_ok-universe.universe (Ty G (universe trees)) (extends_extends (extends_extends c.in_ok-ty.ensures.extends c.in_ok-inner.ensures.extends) c.in_ok-element.ensures.extends) universe_then;
      ty_is = says_later _ _ c.in_ok-ty.ty (Ty H (Var 0)) c.in_ok-element.ensures.extends ty_then;
      ctx_is = says_later _ _ c.in_ok-inner.inner (Ctx (with_two G)) c.in_ok-element.ensures.extends inner;
      element_is = c.in_ok-element.ensures.typed H (Var 0) inner ty_then;
    }
