use Rattle.std.proofs.Common.{◌-◌, ◌∙◌, sym, subst, rules}
use denote.Enum.Bare.{same_true, same_false}
use Rattle.trees.specs.contracts.op.Op.{the_type}
use Rattle.trees.specs.Trees.{trees_of}
use Rattle.closures.specs.Shown.{lists}
use Rattle.tree_frames.specs.Frames.{tree_in, frame_trees, OpensTo, OpensFrame}
use Rattle.normal_parts.proofs.NumberLaws.{true-if, op-of, begins-variable, begins-make}
use Rattle.normal_parts.proofs.TellLaws.{is-no}
use Rattle.normal_parts.proofs.numbers.begins.Goals as goal

pub returns-in-Variable-clause-tells : goal.returns-in-Variable-clause-tells
returns-in-Variable-clause-tells g c =
    let f = g.R.Rows.means c.args.rows.now in
    let old = lists c.args.environments.now in
    let new = lists c.open_tree.new.environments in
    let is = subst (OpensTo f old new c.args.closure 0) c.in-Variable.is c.in_ok-open_tree.ensures.opens in
    is-no (begins-variable c.args.op c.in-Variable.field-0 (tree_in f old c.args.closure) is)

pub returns-in-Operator-clause-tells : goal.returns-in-Operator-clause-tells
returns-in-Operator-clause-tells g c =
    let f = g.R.Rows.means c.args.rows.now in
    let old = lists c.args.environments.now in
    let new = lists c.open_tree.new.environments in
    let o : OpensFrame f old new c.args.closure 0 c.in-Operator.frame = subst (OpensTo f old new c.args.closure 0) c.in-Operator.is c.in_ok-open_tree.ensures.opens in
    let ts = trees_of (frame_trees f new c.in-Operator.frame) in (
      λ told. begins-make c.args.op c.in-Operator.frame.op ts (tree_in f old c.args.closure) o.frame.whole (same_true the_type (search rules) c.in-Operator.frame.op c.args.op (sym c.eq.ensures ∙ told)),
      λ b. true-if c.eq.result (λ never. same_false the_type c.in-Operator.frame.op c.args.op (sym c.eq.ensures ∙ never) (op-of c.in-Operator.frame.op c.args.op ts (tree_in f old c.args.closure) o.frame.whole b)),
    )
