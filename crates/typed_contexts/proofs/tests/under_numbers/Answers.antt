use Rattle.std.proofs.Common.{◌≡◌, ◌-◌, suc, sym, ap, subst, arith}
use Rattle.trees.specs.Trees.{Tree, apply, shift_by}
use Rattle.trees.specs.Judgements.{Context, Nil, WithVar, trees}
use Rattle.trees.specs.Language.{Ty}
use Rattle.rules.specs.Table.{nat}
use Rattle.book.specs.Contents.{Contents}
use Rattle.book.specs.declared.kernel.NodeId.{NodeId}
use Rattle.typed_nodes.specs.Typed.{Says}
use Rattle.typed_nodes.proofs.GrowthLaws.{says_later}
use Rattle.typed_contexts.specs.Contexts.{at_depth, depth_of, outside}
use Rattle.typed_contexts.proofs.GrowthLaws.{further, place_later}
use Rattle.typed_contexts.proofs.tests.under_numbers.Goals as goal

pub numbers_type-requires : goal.numbers_type-requires
numbers_type-requires c = (Nil, c.ctx.ensures c.new.new.book Nil c.in_ok-places.ensures.place)

pub loop-variable-init : goal.loop-variable-init
loop-variable-init c =
    let start = c.in_ok-places.ensures.place in
    (Nil, place_later _ _ _ _ c.in_ok-numbers.ensures.extends start, (c.in_ok-numbers.ensures.typed Nil (c.ctx.ensures c.new.new.book Nil start)).1)

pub type_from-requires : goal.type_from-requires
type_from-requires c = let is = c.loop-variable.invariant in (is.0, nat trees, is.1, omega arith, is.2)

pub enter-requires : goal.enter-requires
enter-requires c =
    let is = c.loop-variable.invariant in
    (is.0, apply (nat trees) (shift_by (depth_of is.0 - 0)), place_later _ _ _ _ c.in_ok-here.ensures.extends is.1, c.in_ok-here.ensures.typed is.0 (nat trees) is.1 is.2)

-- the outermost context stays so under one more variable
still_outermost : (b : Contents) (node : NodeId) (H : Context) (A : Tree) → Says b node (Ty (at_depth 0 H) (nat trees)) → Says b node (Ty (at_depth 0 (WithVar H A)) (nat trees))
still_outermost b node H A says =
    let one_more : suc (depth_of H) - 0 ≡ suc (depth_of H - 0) = omega arith in
    subst (λ G. Says b node (Ty G (nat trees))) (sym (ap (λ n. outside n (WithVar H A)) one_more)) says

pub loop-variable-preserved : goal.loop-variable-preserved
loop-variable-preserved c =
    let is = c.loop-variable.invariant in
    let A = apply (nat trees) (shift_by (depth_of is.0 - 0)) in
    let here = c.in_ok-here.ensures.typed is.0 (nat trees) is.1 is.2 in
    (WithVar is.0 A, c.in_ok-enter.ensures.place is.0 A (place_later _ _ _ _ c.in_ok-here.ensures.extends is.1) here, still_outermost c.enter.new.book c.in_ok-numbers.numbers is.0 A (says_later _ _ _ (Ty (at_depth 0 is.0) (nat trees)) (further c.in_ok-here.ensures.extends c.in_ok-enter.ensures.extends) is.2))

pub returns : goal.returns
returns c = let is = c.loop-variable.invariant in (is.0, is.1)
