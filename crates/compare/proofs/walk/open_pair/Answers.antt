use Rattle.std.proofs.Common.{arith, rules}
use Rattle.std.proofs.lemmas.Bool.{eqb-true}
use denote.Enum.Bare.{same_true, same_false}
use Rattle.trees.specs.contracts.op.Op.{the_type}
use Rattle.closures.specs.Environments.{deepest}
use Rattle.closures.specs.Shown.{lists}
use Rattle.closures.proofs.HeadLaws.{closure-grows, closure-deeper}
use Rattle.compare.proofs.OpenLaws.{heads, heads-are, kids-stand-left, kids-stand-right, operators-agree, variable-left, variable-right, variables-open, operators-open, not_true, not_false}
use Rattle.compare.proofs.walk.open_pair.Goals as goal

pub head_of-requires-2 : goal.head_of-requires-2
head_of-requires-2 g c =
    let f = g.R.Rows.means c.args.rows.now in
    closure-grows f (lists c.args.environments.now) (lists c.head_of.new.environments) deepest c.args.pair.right c.head_of.ensures.grows
    (closure-deeper f (lists c.args.environments.now) _ deepest c.args.pair.right (omega arith) c.requires.1)

pub returns-then-ne-clause-no : goal.returns-then-ne-clause-no
returns-then-ne-clause-no g c =
    let f = g.R.Rows.means c.args.rows.now in
    let old = lists c.args.environments.now in
    let mid = lists c.head_of.new.environments in
    let known = lists c.head_of-2.new.environments in
    let whole = heads f old mid known _ c.args.pair c.in_ok-left.left c.in_ok-right.right c.requires c.head_of.ensures.grows c.head_of-2.ensures.grows c.in_ok-left.ensures.meaning c.in_ok-left.ensures.stands c.in_ok-right.ensures.meaning c.in_ok-right.ensures.stands in
    let h = heads-are f old known c.args.pair c.in_ok-left.left c.in_ok-right.right _ _ c.in-Make-Make.is-0 c.in-Make-Make.is-1 whole in
    λ e a. same_false the_type c.in-Make-Make.op c.in-Make-Make.other (not_true _ c.if-ne.ensures) (operators-agree f old known c.args.pair c.in-Make-Make.op c.in-Make-Make.other c.in-Make-Make.lefts c.in-Make-Make.rights c.in-Make-Make.left c.in-Make-Make.right h a)

pub add_kids-requires-clause-left : goal.add_kids-requires-clause-left
add_kids-requires-clause-left g c =
    let f = g.R.Rows.means c.args.rows.now in
    let old = lists c.args.environments.now in
    let mid = lists c.head_of.new.environments in
    let known = lists c.head_of-2.new.environments in
    let whole = heads f old mid known _ c.args.pair c.in_ok-left.left c.in_ok-right.right c.requires c.head_of.ensures.grows c.head_of-2.ensures.grows c.in_ok-left.ensures.meaning c.in_ok-left.ensures.stands c.in_ok-right.ensures.meaning c.in_ok-right.ensures.stands in
    let h = heads-are f old known c.args.pair c.in_ok-left.left c.in_ok-right.right _ _ c.in-Make-Make.is-0 c.in-Make-Make.is-1 whole in
    kids-stand-left f old known _ c.args.pair c.in-Make-Make.op c.in-Make-Make.lefts c.in-Make-Make.left _ h c.requires

pub add_kids-requires-clause-right : goal.add_kids-requires-clause-right
add_kids-requires-clause-right g c =
    let f = g.R.Rows.means c.args.rows.now in
    let old = lists c.args.environments.now in
    let mid = lists c.head_of.new.environments in
    let known = lists c.head_of-2.new.environments in
    let whole = heads f old mid known _ c.args.pair c.in_ok-left.left c.in_ok-right.right c.requires c.head_of.ensures.grows c.head_of-2.ensures.grows c.in_ok-left.ensures.meaning c.in_ok-left.ensures.stands c.in_ok-right.ensures.meaning c.in_ok-right.ensures.stands in
    let h = heads-are f old known c.args.pair c.in_ok-left.left c.in_ok-right.right _ _ c.in-Make-Make.is-0 c.in-Make-Make.is-1 whole in
    let same = same_true the_type (search rules) c.in-Make-Make.op c.in-Make-Make.other (not_false _ c.if-ne.ensures) in
    rw same (kids-stand-right f old known _ c.args.pair c.in-Make-Make.other c.in-Make-Make.rights c.in-Make-Make.right _ h c.requires)

pub returns-in-Var-Var-clause-yes : goal.returns-in-Var-Var-clause-yes
returns-in-Var-Var-clause-yes g c =
    let f = g.R.Rows.means c.args.rows.now in
    let old = lists c.args.environments.now in
    let mid = lists c.head_of.new.environments in
    let known = lists c.head_of-2.new.environments in
    let whole = heads f old mid known _ c.args.pair c.in_ok-left.left c.in_ok-right.right c.requires c.head_of.ensures.grows c.head_of-2.ensures.grows c.in_ok-left.ensures.meaning c.in_ok-left.ensures.stands c.in_ok-right.ensures.meaning c.in_ok-right.ensures.stands in
    let h = heads-are f old known c.args.pair c.in_ok-left.left c.in_ok-right.right _ _ c.in-Var-Var.is-0 c.in-Var-Var.is-1 whole in
    λ e. variables-open f old known c.args.pair c.args.pairs.now.keys c.in-Var-Var.left c.in-Var-Var.right h (eqb-true _ _ e)

pub returns-in_ok-add_kids-in-Make-Make-clause-yes : goal.returns-in_ok-add_kids-in-Make-Make-clause-yes
returns-in_ok-add_kids-in-Make-Make-clause-yes g c =
    let f = g.R.Rows.means c.args.rows.now in
    let old = lists c.args.environments.now in
    let mid = lists c.head_of.new.environments in
    let known = lists c.head_of-2.new.environments in
    let whole = heads f old mid known _ c.args.pair c.in_ok-left.left c.in_ok-right.right c.requires c.head_of.ensures.grows c.head_of-2.ensures.grows c.in_ok-left.ensures.meaning c.in_ok-left.ensures.stands c.in_ok-right.ensures.meaning c.in_ok-right.ensures.stands in
    let h = heads-are f old known c.args.pair c.in_ok-left.left c.in_ok-right.right _ _ c.in-Make-Make.is-0 c.in-Make-Make.is-1 whole in
    let same = same_true the_type (search rules) c.in-Make-Make.op c.in-Make-Make.other (not_false _ c.if-ne.ensures) in
    λ e. operators-open f old known c.args.pair c.in-Make-Make.op c.in-Make-Make.other c.in-Make-Make.lefts c.in-Make-Make.rights c.in-Make-Make.left c.in-Make-Make.right c.args.pairs.now.keys c.add_kids.new.pairs.keys same h c.in_ok-add_kids-in-Make-Make.ensures.opens

pub returns-in_ok-add_kids-in-Make-Make-clause-stand : goal.returns-in_ok-add_kids-in-Make-Make-clause-stand
returns-in_ok-add_kids-in-Make-Make-clause-stand g c =
    let f = g.R.Rows.means c.args.rows.now in
    let old = lists c.args.environments.now in
    let mid = lists c.head_of.new.environments in
    let known = lists c.head_of-2.new.environments in
    let whole = heads f old mid known _ c.args.pair c.in_ok-left.left c.in_ok-right.right c.requires c.head_of.ensures.grows c.head_of-2.ensures.grows c.in_ok-left.ensures.meaning c.in_ok-left.ensures.stands c.in_ok-right.ensures.meaning c.in_ok-right.ensures.stands in
    let h = heads-are f old known c.args.pair c.in_ok-left.left c.in_ok-right.right _ _ c.in-Make-Make.is-0 c.in-Make-Make.is-1 whole in
    λ e n s. c.in_ok-add_kids-in-Make-Make.ensures.stand n (h.left_stands n s) (h.right_stands n s)

pub returns-in-Var-Make-clause-no : goal.returns-in-Var-Make-clause-no
returns-in-Var-Make-clause-no g c =
    let f = g.R.Rows.means c.args.rows.now in
    let old = lists c.args.environments.now in
    let mid = lists c.head_of.new.environments in
    let known = lists c.head_of-2.new.environments in
    let whole = heads f old mid known _ c.args.pair c.in_ok-left.left c.in_ok-right.right c.requires c.head_of.ensures.grows c.head_of-2.ensures.grows c.in_ok-left.ensures.meaning c.in_ok-left.ensures.stands c.in_ok-right.ensures.meaning c.in_ok-right.ensures.stands in
    let h = heads-are f old known c.args.pair c.in_ok-left.left c.in_ok-right.right _ _ c.in-Var-Make.is-0 c.in-Var-Make.is-1 whole in
    λ e a. variable-left f old known c.args.pair _ _ _ _ h a

pub returns-in-Var-Make-2-clause-no : goal.returns-in-Var-Make-2-clause-no
returns-in-Var-Make-2-clause-no g c =
    let f = g.R.Rows.means c.args.rows.now in
    let old = lists c.args.environments.now in
    let mid = lists c.head_of.new.environments in
    let known = lists c.head_of-2.new.environments in
    let whole = heads f old mid known _ c.args.pair c.in_ok-left.left c.in_ok-right.right c.requires c.head_of.ensures.grows c.head_of-2.ensures.grows c.in_ok-left.ensures.meaning c.in_ok-left.ensures.stands c.in_ok-right.ensures.meaning c.in_ok-right.ensures.stands in
    let h = heads-are f old known c.args.pair c.in_ok-left.left c.in_ok-right.right _ _ c.in-Var-Make.is-0 c.in-Var-Make.is-1 whole in
    λ e a. variable-right f old known c.args.pair _ _ _ _ h a
