use Rattle.trees.specs.Trees.{Var}
use Rattle.trees.specs.Judgements.{WithVar, trees}
use Rattle.trees.specs.Language.{Ty}
use Rattle.rules.specs.Table.{lam, pi, universe}
use Rattle.typed_nodes.proofs.GrowthLaws.{says_later}
use Rattle.literal_types.proofs.GrowthLaws.{extends_extends}
use Rattle.behind_tests.proofs.telescope.bound.Goals as goal

pub function-requires : goal.function-requires
function-requires c =
    let (G, two, (t, T, body)) = c.requires in
    (WithVar G (universe trees), Var 0, t, T, two.ty_is, body)

pub function-requires-2 : goal.function-requires-2
function-requires-2 c =
    let (G, two, (t, T, body)) = c.requires in
    (G, universe trees, lam trees (Var 0) t, pi trees (Var 0) T, says_later _ _ c.args.two.universe (Ty G (universe trees)) c.in_ok-inner.ensures.extends two.universe_is, c.in_ok-inner.ensures.typed (WithVar G (universe trees)) (Var 0) t T two.ty_is body)

pub returns-clause-extends : goal.returns-clause-extends
returns-clause-extends c = extends_extends c.in_ok-inner.ensures.extends c.in_ok-function.ensures.extends

pub returns-clause-typed : goal.returns-clause-typed
returns-clause-typed c = λ G two b.
    let (t, T, body) = b in
    let U = universe trees in
    let s = lam trees (Var 0) t in
    let S = pi trees (Var 0) T in
    let universe_then = says_later _ _ c.args.two.universe (Ty G U) c.in_ok-inner.ensures.extends two.universe_is in
    (lam trees U s, pi trees U S, c.in_ok-function.ensures.typed G U s S universe_then (c.in_ok-inner.ensures.typed (WithVar G U) (Var 0) t T two.ty_is body))
