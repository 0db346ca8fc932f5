use Rattle.std.proofs.Common.{◌≡◌, ◌+◌, ◌-◌, ◌∷◌, [], Vec, Global, true, false, suc, sym, ◌∙◌, ap, subst, arith, rules}
use Rattle.std.specs.Prelude.{option_map}
use Rattle.std.proofs.lemmas.List.{map-append}
use denote.Enum.Bare.{same_true, same_false}
use Rattle.trees.specs.contracts.op.Op.{the_type}
use Rattle.trees.specs.declared.op.Op.TheVariants as op
use Rattle.trees.specs.Operators.{kids_of, binds_of}
use Rattle.trees.specs.Trees.{Make, NoTrees, More, trees_of}
use Rattle.rows.proofs.TableLaws.{grows-same, grows-grows}
use Rattle.closures.specs.Environments.{deepest}
use Rattle.closures.specs.Shown.{lists}
use Rattle.tree_frames.specs.Frames.{tree_in, frame_trees, weight, OpensTo, OpensFrame}
use Rattle.normal_formulas.specs.Atoms.{conjunction, lists_of}
use Rattle.normal_formulas.specs.declared.atoms.Atom.{Atom}
use Rattle.normal_formulas.specs.Reads.{Reads}
use Rattle.tree_frames.proofs.FrameLaws.{tree-grows}
use Rattle.normal_formulas.proofs.KidLaws.{frame-opened, over-two, over-none}
use Rattle.normal_formulas.proofs.OrderLaws.{not-told}
use Rattle.normal_formulas.proofs.PartLaws.{covering-begin, covering-next, covering-end, covering-other, covering-variable, covering-first}
use Rattle.normal_formulas.proofs.reading.cover_of.Goals as goal

pub loop-conjunctions-init : goal.loop-conjunctions-init
loop-conjunctions-init g c =
    let f = g.R.Rows.means c.args.rows.now in
    let begin = lists c.args.environments.now in
    (grows-same begin, covering-begin f begin (deepest - 1) (lists_of c.new-conjunctions.result.items) c.args.closure (ap lists_of c.new-conjunctions.ensures.items) c.requires)

pub returns-then-eq-clause-reads : goal.returns-then-eq-clause-reads
returns-then-eq-clause-reads g c =
    let f = g.R.Rows.means c.args.rows.now in
    let begin = lists c.args.environments.now in
    let known = lists c.loop-conjunctions.environments in
    let new = lists c.open_tree.new.environments in
    let o : OpensFrame f known new c.loop-conjunctions.rest 0 c.in-Operator.frame = subst (OpensTo f known new c.loop-conjunctions.rest 0) c.in-Operator.is c.in_ok-frame.ensures.opens in
    let same : c.in-Operator.frame.op ≡ op.F0 = same_true the_type (search rules) c.in-Operator.frame.op op.F0 (sym c.if-eq.ensures) in
    covering-end f known (deepest - 1) (tree_in f begin c.args.closure) (lists_of c.loop-conjunctions.conjunctions.items) c.loop-conjunctions.rest c.loop-conjunctions.invariant.1
    (over-none f new _ c.in-Operator.frame o.frame (ap kids_of same) ∙ ap (λ p. Make p NoTrees) same)

pub returns-then-ne-clause-reads : goal.returns-then-ne-clause-reads
returns-then-ne-clause-reads g c =
    let f = g.R.Rows.means c.args.rows.now in
    let begin = lists c.args.environments.now in
    let known = lists c.loop-conjunctions.environments in
    let new = lists c.open_tree.new.environments in
    let o : OpensFrame f known new c.loop-conjunctions.rest 0 c.in-Operator.frame = subst (OpensTo f known new c.loop-conjunctions.rest 0) c.in-Operator.is c.in_ok-frame.ensures.opens in
    covering-other f known (deepest - 1) (tree_in f begin c.args.closure) (lists_of c.loop-conjunctions.conjunctions.items) c.loop-conjunctions.rest c.in-Operator.frame.op (trees_of (frame_trees f new c.in-Operator.frame)) c.loop-conjunctions.invariant.1 o.frame.whole
    (same_false the_type c.in-Operator.frame.op op.F0 (sym c.if-eq.ensures))
    (same_false the_type c.in-Operator.frame.op op.Join (not-told _ true c.if-ne.ensures))

pub kid_of-rest-requires-clause-stands : goal.kid_of-rest-requires-clause-stands
kid_of-rest-requires-clause-stands g c =
    let f = g.R.Rows.means c.args.rows.now in
    let known = lists c.loop-conjunctions.environments in
    let new = lists c.open_tree.new.environments in
    frame-opened f known new c.loop-conjunctions.rest 0 (deepest - 1) c.in-Operator.frame (subst (OpensTo f known new c.loop-conjunctions.rest 0) c.in-Operator.is c.in_ok-frame.ensures.opens) c.loop-conjunctions.invariant.1.rest_stands

pub kid_of-first-requires-clause-stands : goal.kid_of-first-requires-clause-stands
kid_of-first-requires-clause-stands g c =
    let f = g.R.Rows.means c.args.rows.now in
    let known = lists c.loop-conjunctions.environments in
    let new = lists c.open_tree.new.environments in
    frame-opened f known new c.loop-conjunctions.rest 0 (deepest - 1) c.in-Operator.frame (subst (OpensTo f known new c.loop-conjunctions.rest 0) c.in-Operator.is c.in_ok-frame.ensures.opens) c.loop-conjunctions.invariant.1.rest_stands

pub returns-in_default-clause-reads : goal.returns-in_default-clause-reads
returns-in_default-clause-reads g c =
    let f = g.R.Rows.means c.args.rows.now in
    let known = lists c.loop-conjunctions.environments in
    let new = lists c.open_tree.new.environments in
    let is = subst (OpensTo f known new c.loop-conjunctions.rest 0) c.in_default.is c.in_ok-frame.ensures.opens in
    covering-variable f known (deepest - 1) c.in_default.field-0 (tree_in f (lists c.args.environments.now) c.args.closure) (lists_of c.loop-conjunctions.conjunctions.items) c.loop-conjunctions.rest c.loop-conjunctions.invariant.1 is

pub product_of-requires : goal.product_of-requires
product_of-requires g c =
    let f = g.R.Rows.means c.args.rows.now in
    let known = lists c.loop-conjunctions.environments in
    let new = lists c.open_tree.new.environments in
    let o : OpensFrame f known new c.loop-conjunctions.rest 0 c.in-Operator.frame = subst (OpensTo f known new c.loop-conjunctions.rest 0) c.in-Operator.is c.in_ok-frame.ensures.opens in
    let same : c.in-Operator.frame.op ≡ op.Join = same_true the_type (search rules) c.in-Operator.frame.op op.Join (not-told _ false c.if-ne.ensures) in
    c.kid_of-first.ensures.same (deepest - 1) (o.stands (deepest - 1) c.loop-conjunctions.invariant.1.rest_stands) (ap (λ p. binds_of p 0) same)

pub returns-in_default-2-clause-reads : goal.returns-in_default-2-clause-reads
returns-in_default-2-clause-reads g c =
    let f = g.R.Rows.means c.args.rows.now in
    let known = lists c.loop-conjunctions.environments in
    let new = lists c.open_tree.new.environments in
    let o : OpensFrame f known new c.loop-conjunctions.rest 0 c.in-Operator.frame = subst (OpensTo f known new c.loop-conjunctions.rest 0) c.in-Operator.is c.in_ok-frame.ensures.opens in
    let same : c.in-Operator.frame.op ≡ op.Join = same_true the_type (search rules) c.in-Operator.frame.op op.Join (not-told _ false c.if-ne.ensures) in
    let whole = over-two f new _ c.in-Operator.frame c.kid_of-first.result c.kid_of-rest.result o.frame (ap kids_of same) c.kid_of-first.ensures c.kid_of-rest.ensures in
    covering-first f known new (deepest - 1) (tree_in f (lists c.args.environments.now) c.args.closure) (lists_of c.loop-conjunctions.conjunctions.items) c.loop-conjunctions.rest c.kid_of-first.result c.kid_of-rest.result c.loop-conjunctions.invariant.1
    (whole ∙ ap (λ p. Make p (More (tree_in f new c.kid_of-first.result) (More (tree_in f new c.kid_of-rest.result) NoTrees))) same)
    (subst (λ found. Reads conjunction (tree_in f new c.kid_of-first.result) (option_map (λ (v : Vec Atom Global). v.items) found)) c.in_default-2.is c.in_ok-conjunction.ensures.reads)

pub loop-conjunctions-smaller : goal.loop-conjunctions-smaller
loop-conjunctions-smaller g c =
    let f = g.R.Rows.means c.args.rows.now in
    let known = lists c.loop-conjunctions.environments in
    let new = lists c.open_tree.new.environments in
    let later = lists c.product_of.new.environments in
    let o : OpensFrame f known new c.loop-conjunctions.rest 0 c.in-Operator.frame = subst (OpensTo f known new c.loop-conjunctions.rest 0) c.in-Operator.is c.in_ok-frame.ensures.opens in
    let same : c.in-Operator.frame.op ≡ op.Join = same_true the_type (search rules) c.in-Operator.frame.op op.Join (not-told _ false c.if-ne.ensures) in
    let whole = over-two f new _ c.in-Operator.frame c.kid_of-first.result c.kid_of-rest.result o.frame (ap kids_of same) c.kid_of-first.ensures c.kid_of-rest.ensures in
    let stands = c.kid_of-rest.ensures.same (deepest - 1) (o.stands (deepest - 1) c.loop-conjunctions.invariant.1.rest_stands) (ap (λ p. binds_of p 1) same) in
    let w : weight (tree_in f known c.loop-conjunctions.rest) ≡ suc (suc (weight (tree_in f new c.kid_of-first.result)) + (suc (weight (tree_in f new c.kid_of-rest.result)) + 0)) = ap weight whole in
    let grown : weight (tree_in f later c.kid_of-rest.result) ≡ weight (tree_in f new c.kid_of-rest.result) = ap weight (tree-grows f new later (deepest - 1) c.kid_of-rest.result c.product_of.ensures.grows stands) in
    omega (arith, w, grown)

pub loop-conjunctions-preserved : goal.loop-conjunctions-preserved
loop-conjunctions-preserved g c =
    let f = g.R.Rows.means c.args.rows.now in
    let begin = lists c.args.environments.now in
    let known = lists c.loop-conjunctions.environments in
    let new = lists c.open_tree.new.environments in
    let later = lists c.product_of.new.environments in
    let o : OpensFrame f known new c.loop-conjunctions.rest 0 c.in-Operator.frame = subst (OpensTo f known new c.loop-conjunctions.rest 0) c.in-Operator.is c.in_ok-frame.ensures.opens in
    let same : c.in-Operator.frame.op ≡ op.Join = same_true the_type (search rules) c.in-Operator.frame.op op.Join (not-told _ false c.if-ne.ensures) in
    let whole = over-two f new _ c.in-Operator.frame c.kid_of-first.result c.kid_of-rest.result o.frame (ap kids_of same) c.kid_of-first.ensures c.kid_of-rest.ensures in
    let stands = c.kid_of-rest.ensures.same (deepest - 1) (o.stands (deepest - 1) c.loop-conjunctions.invariant.1.rest_stands) (ap (λ p. binds_of p 1) same) in (
      grows-grows begin known later c.loop-conjunctions.invariant.0 (grows-grows known new later c.open_tree.ensures.grows c.product_of.ensures.grows),
      covering-next f known new later (deepest - 1) (tree_in f begin c.args.closure) (lists_of c.loop-conjunctions.conjunctions.items) (lists_of c.push.new.self.items) c.in-Some.conjunction.items c.loop-conjunctions.rest c.kid_of-first.result c.kid_of-rest.result
          c.loop-conjunctions.invariant.1
          (ap lists_of c.in_ok-push.ensures.items ∙ map-append (λ (v : Vec Atom Global). v.items) c.loop-conjunctions.conjunctions.items (c.in-Some.conjunction ∷ []))
          (whole ∙ ap (λ p. Make p (More (tree_in f new c.kid_of-first.result) (More (tree_in f new c.kid_of-rest.result) NoTrees))) same)
          (subst (λ found. Reads conjunction (tree_in f new c.kid_of-first.result) (option_map (λ (v : Vec Atom Global). v.items) found)) c.in-Some.is c.in_ok-conjunction.ensures.reads)
          stands c.product_of.ensures.grows,
    )
