use Rattle.std.proofs.Common.{List, reverse, refl, sym, subst}
use Rattle.trees.specs.Trees.{Var}
use Rattle.trees.specs.Judgements.{Nil, trees}
use Rattle.trees.specs.Language.{Ctx}
use Rattle.rules.specs.Table.{nat, weakened, zero}
use Rattle.typed_nodes.proofs.GrowthLaws.{says_later}
use Rattle.behind_tests.specs.declared.telescope.Arguments.{Arguments}
use Rattle.behind_tests.specs.Telescopes.{AreAll, with_two}
use Rattle.behind_tests.proofs.TelescopeLaws.{all_later, all_more}
use Rattle.behind_tests.proofs.telescope.function_of.Goals as goal

pub loop-init : goal.loop-init
loop-init c =
    let ctx = says_later _ _ c.in_ok-ctx.ctx (Ctx Nil) c.in_ok-body.ensures.extends c.in_ok-ctx.ensures.typed in
    (Nil, ctx, (zero trees, nat trees, c.in_ok-body.ensures.typed Nil c.in_ok-ctx.ensures.typed), subst (λ (xs : List Arguments). AreAll c.zero.new.book (reverse xs) Nil) (sym c.new-arguments.ensures.items) refl)

pub arguments_under-requires : goal.arguments_under-requires
arguments_under-requires c =
    let (G, ctx, body, all) = c.loop.invariant in
    (G, ctx)

pub loop-preserved : goal.loop-preserved
loop-preserved c =
    let l = c.loop in
    let (G, ctx, body, all) = l.invariant in
    let e = c.in_ok-two.ensures in
    let here = e.typed G ctx in
    let below = all_later l.book c.arguments_under.new.book (reverse l.arguments.items) G e.extends all in
    (with_two G, here.ctx_is, (Var 0, weakened trees (Var 0), here.element_is), all_more c.arguments_under.new.book l.arguments.items _ c.in_ok-two.two G c.in_ok-push.ensures.items below here)

pub bound_by_all-requires : goal.bound_by_all-requires
bound_by_all-requires c =
    let (G, ctx, body, all) = c.loop.invariant in
    (G, all, body)
