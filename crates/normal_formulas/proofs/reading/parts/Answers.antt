use Rattle.std.proofs.Common.{◌≡◌, ◌+◌, ◌-◌, suc, sym, ◌∙◌, ap, subst, arith, rules, ⊎_elim}
use denote.Enum.Bare.{same_true, same_false}
use Rattle.trees.specs.contracts.op.Op.{the_type}
use Rattle.trees.specs.Operators.{kids_of, binds_of}
use Rattle.trees.specs.Trees.{Make, NoTrees, More}
use Rattle.rows.proofs.TableLaws.{grows-same, grows-grows}
use Rattle.closures.specs.Environments.{deepest}
use Rattle.closures.specs.Shown.{lists}
use Rattle.tree_frames.specs.Frames.{tree_in, weight, OpensTo, OpensFrame}
use Rattle.normal_formulas.specs.Atoms.{IsNot}
use Rattle.normal_formulas.specs.Reads.{AreParts}
use Rattle.normal_formulas.proofs.ReadLaws.{op-same}
use Rattle.normal_formulas.proofs.KidLaws.{frame-opened, over-two, over-none}
use Rattle.normal_formulas.proofs.PartLaws.{no-variable, splitting-begin, splitting-next, splitting-end, splitting-none}
use Rattle.normal_formulas.proofs.reading.parts.Goals as goal

pub loop-parts-init : goal.loop-parts-init
loop-parts-init g c =
    let f = g.R.Rows.means c.args.rows.now in
    let begin = lists c.args.environments.now in
    (grows-same begin, splitting-begin f begin (deepest - 1) c.args.joiner c.new-parts.result.items c.args.closure c.new-parts.ensures.items c.requires.stands)

pub kid_of-requires-clause-stands : goal.kid_of-requires-clause-stands
kid_of-requires-clause-stands g c =
    let f = g.R.Rows.means c.args.rows.now in
    let known = lists c.loop-parts.environments in
    let new = lists c.open_tree.new.environments in
    frame-opened f known new c.loop-parts.rest 0 (deepest - 1) c.in-Operator.frame (subst (OpensTo f known new c.loop-parts.rest 0) c.in-Operator.is c.in_ok-frame.ensures.opens) c.loop-parts.invariant.1.rest_stands

pub kid_of-rest-requires-clause-stands : goal.kid_of-rest-requires-clause-stands
kid_of-rest-requires-clause-stands g c =
    let f = g.R.Rows.means c.args.rows.now in
    let known = lists c.loop-parts.environments in
    let new = lists c.open_tree.new.environments in
    frame-opened f known new c.loop-parts.rest 0 (deepest - 1) c.in-Operator.frame (subst (OpensTo f known new c.loop-parts.rest 0) c.in-Operator.is c.in_ok-frame.ensures.opens) c.loop-parts.invariant.1.rest_stands

pub loop-parts-smaller : goal.loop-parts-smaller
loop-parts-smaller g c =
    let f = g.R.Rows.means c.args.rows.now in
    let known = lists c.loop-parts.environments in
    let new = lists c.open_tree.new.environments in
    let o : OpensFrame f known new c.loop-parts.rest 0 c.in-Operator.frame = subst (OpensTo f known new c.loop-parts.rest 0) c.in-Operator.is c.in_ok-frame.ensures.opens in
    let same : c.in-Operator.frame.op ≡ c.args.joiner = same_true the_type (search rules) c.in-Operator.frame.op c.args.joiner (sym c.if-eq.ensures) in
    let whole = over-two f new _ c.in-Operator.frame c.kid_of.result c.kid_of-rest.result o.frame (ap kids_of same ∙ c.requires.joiner.two) c.kid_of.ensures c.kid_of-rest.ensures in
    let w : weight (tree_in f known c.loop-parts.rest) ≡ suc (suc (weight (tree_in f new c.kid_of.result)) + (suc (weight (tree_in f new c.kid_of-rest.result)) + 0)) = ap weight whole in
    omega (arith, w)

pub loop-parts-preserved : goal.loop-parts-preserved
loop-parts-preserved g c =
    let f = g.R.Rows.means c.args.rows.now in
    let begin = lists c.args.environments.now in
    let known = lists c.loop-parts.environments in
    let new = lists c.open_tree.new.environments in
    let o : OpensFrame f known new c.loop-parts.rest 0 c.in-Operator.frame = subst (OpensTo f known new c.loop-parts.rest 0) c.in-Operator.is c.in_ok-frame.ensures.opens in
    let same : c.in-Operator.frame.op ≡ c.args.joiner = same_true the_type (search rules) c.in-Operator.frame.op c.args.joiner (sym c.if-eq.ensures) in
    let whole = over-two f new _ c.in-Operator.frame c.kid_of.result c.kid_of-rest.result o.frame (ap kids_of same ∙ c.requires.joiner.two) c.kid_of.ensures c.kid_of-rest.ensures in
    let env = o.stands (deepest - 1) c.loop-parts.invariant.1.rest_stands in (
      grows-grows begin known new c.loop-parts.invariant.0 c.open_tree.ensures.grows,
      splitting-next f known new (deepest - 1) c.args.joiner (tree_in f begin c.args.closure) c.loop-parts.parts.items c.push.new.self.items c.loop-parts.rest c.kid_of.result c.kid_of-rest.result
          c.loop-parts.invariant.1 c.open_tree.ensures.grows c.in_ok-push-in-Operator.ensures.items
          (whole ∙ ap (λ o. Make o (More (tree_in f new c.kid_of.result) (More (tree_in f new c.kid_of-rest.result) NoTrees))) same)
          (c.kid_of.ensures.same (deepest - 1) env (ap (λ o. binds_of o 0) same ∙ c.requires.joiner.first))
          (c.kid_of-rest.ensures.same (deepest - 1) env (ap (λ o. binds_of o 1) same ∙ c.requires.joiner.second)),
    )

pub returns-in-Variable-clause-parts : goal.returns-in-Variable-clause-parts
returns-in-Variable-clause-parts g c =
    let f = g.R.Rows.means c.args.rows.now in
    let begin = lists c.args.environments.now in
    let known = lists c.loop-parts.environments in
    let new = lists c.open_tree.new.environments in
    let is = subst (OpensTo f known new c.loop-parts.rest 0) c.in-Variable.is c.in_ok-frame.ensures.opens in
    splitting-end f known new (deepest - 1) c.args.joiner c.args.none (tree_in f begin c.args.closure) c.loop-parts.parts.items c.push-in-Variable.new.self.items c.loop-parts.rest
    c.loop-parts.invariant.1 c.open_tree.ensures.grows c.in_ok-push-in-Variable.ensures.items
    (subst (IsNot c.args.joiner) is tt) (λ none e. no-variable c.in-Variable.field-0 c.args.none (is ∙ e))

pub returns-then-eq-2-clause-parts : goal.returns-then-eq-2-clause-parts
returns-then-eq-2-clause-parts g c =
    let f = g.R.Rows.means c.args.rows.now in
    let begin = lists c.args.environments.now in
    let known = lists c.loop-parts.environments in
    let new = lists c.open_tree.new.environments in
    let o : OpensFrame f known new c.loop-parts.rest 0 c.in-Operator.frame = subst (OpensTo f known new c.loop-parts.rest 0) c.in-Operator.is c.in_ok-frame.ensures.opens in
    let same : c.in-Operator.frame.op ≡ c.args.none = same_true the_type (search rules) c.in-Operator.frame.op c.args.none (sym c.if-eq-2.ensures) in
    let is = over-none f new _ c.in-Operator.frame o.frame (ap kids_of same ∙ c.requires.none) ∙ ap (λ p. Make p NoTrees) same in
    ⊎_elim
    (λ h. subst (AreParts f new (deepest - 1) c.args.joiner c.args.none (tree_in f begin c.args.closure)) (h.0 ∙ sym h.1)
    (splitting-none f known new (deepest - 1) c.args.joiner c.args.none (tree_in f begin c.args.closure) c.loop-parts.parts.items c.loop-parts.rest c.loop-parts.invariant.1 h.0 c.requires.apart is))
    (λ h. splitting-end f known new (deepest - 1) c.args.joiner c.args.none (tree_in f begin c.args.closure) c.loop-parts.parts.items c.in_ok-all-in-Operator.all.items c.loop-parts.rest c.loop-parts.invariant.1 c.open_tree.ensures.grows h.1
    (subst (IsNot c.args.joiner) (sym o.frame.whole) (same_false the_type c.in-Operator.frame.op c.args.joiner (sym c.if-eq.ensures))) (λ none e. h.0 none))
    c.in_ok-all-in-Operator.ensures

pub returns-else-eq-2-clause-parts : goal.returns-else-eq-2-clause-parts
returns-else-eq-2-clause-parts g c =
    let f = g.R.Rows.means c.args.rows.now in
    let begin = lists c.args.environments.now in
    let known = lists c.loop-parts.environments in
    let new = lists c.open_tree.new.environments in
    let o : OpensFrame f known new c.loop-parts.rest 0 c.in-Operator.frame = subst (OpensTo f known new c.loop-parts.rest 0) c.in-Operator.is c.in_ok-frame.ensures.opens in
    splitting-end f known new (deepest - 1) c.args.joiner c.args.none (tree_in f begin c.args.closure) c.loop-parts.parts.items c.push-else-eq-2.new.self.items c.loop-parts.rest
    c.loop-parts.invariant.1 c.open_tree.ensures.grows c.in_ok-push-in-Operator-2.ensures.items
    (subst (IsNot c.args.joiner) (sym o.frame.whole) (same_false the_type c.in-Operator.frame.op c.args.joiner (sym c.if-eq.ensures)))
    (λ none e. same_false the_type c.in-Operator.frame.op c.args.none (sym c.if-eq-2.ensures) (op-same c.in-Operator.frame.op c.args.none _ _ (sym o.frame.whole ∙ e)))
