use Rattle.std.proofs.Common.{◌≤◌, ◌<◌, ◌-◌, sym, ◌∙◌, ap, subst, arith}
use Rattle.std.proofs.lemmas.List.Elements.{All-weaker}
use Rattle.closures.specs.Environments.{deepest, listed}
use Rattle.closures.specs.Shown.{lists}
use Rattle.closures.specs.Closures.{head_meaning, HeadStands}
use Rattle.side_conditions.proofs.OpeningLaws.{made_over, head_tree, head_var, shape_made, no_name, name_found}
use Rattle.side_conditions.proofs.opening.shape_of.Goals as goal

pub shape_over-requires-clause-count : goal.shape_over-requires-clause-count
shape_over-requires-clause-count g c =
    let f = g.R.Rows.means c.args.rows.now in
    let old = lists c.args.environments.now in
    let new = lists c.head_of.new.environments in
    let tree = head_tree f old new c.args.at (deepest - 1) c.in_ok-index.field-0 c.requires.stands c.in_ok-index.ensures.meaning c.in_ok-index.ensures.stands in
    let made = made_over f (listed new c.in-Make.environment) c.in-Make.op c.in-Make.kids.now _ (ap (head_meaning f new) (sym c.in-Make.is) ∙ tree) in
    made.count

pub shape_over-requires-clause-within : goal.shape_over-requires-clause-within
shape_over-requires-clause-within g c =
    let f = g.R.Rows.means c.args.rows.now in
    let new = lists c.head_of.new.environments in
    let stands = subst (HeadStands f new (deepest - 1)) c.in-Make.is (c.in_ok-index.ensures.stands (deepest - 1) c.requires.stands) in
    stands.within

pub shape_over-requires-clause-shallow : goal.shape_over-requires-clause-shallow
shape_over-requires-clause-shallow g c =
    let f = g.R.Rows.means c.args.rows.now in
    let new = lists c.head_of.new.environments in
    let stands = subst (HeadStands f new (deepest - 1)) c.in-Make.is (c.in_ok-index.ensures.stands (deepest - 1) c.requires.stands) in
    All-weaker (λ w. w.depth ≤ deepest - 1) (λ w. w.depth < deepest) (λ w (h : w.depth ≤ deepest - 1). omega arith) (listed new c.in-Make.environment) stands.shallow

pub returns-in-None-clause-shape : goal.returns-in-None-clause-shape
returns-in-None-clause-shape g c =
    let f = g.R.Rows.means c.args.rows.now in
    let old = lists c.args.environments.now in
    let new = lists c.head_of.new.environments in
    let is = head_var f old new c.args.at (deepest - 1) c.in_ok-index.field-0 c.requires.stands c.in_ok-index.ensures.meaning c.in_ok-index.ensures.stands c.in-Var.index c.in-Var.is in
    rw (← is) (no_name c.args.names.now c.args.at.depth c.in-Var.index c.in-None.ensures)

pub returns-in-Some-clause-shape : goal.returns-in-Some-clause-shape
returns-in-Some-clause-shape g c =
    let f = g.R.Rows.means c.args.rows.now in
    let old = lists c.args.environments.now in
    let new = lists c.head_of.new.environments in
    let is = head_var f old new c.args.at (deepest - 1) c.in_ok-index.field-0 c.requires.stands c.in_ok-index.ensures.meaning c.in_ok-index.ensures.stands c.in-Var.index c.in-Var.is in
    name_found f old new c.args.names.now c.args.at c.in-Var.index c.in-Some.level is c.in-Some.ensures.0 c.in-Some.ensures.1

pub returns-in-Make-clause-shape : goal.returns-in-Make-clause-shape
returns-in-Make-clause-shape g c =
    let f = g.R.Rows.means c.args.rows.now in
    let old = lists c.args.environments.now in
    let new = lists c.head_of.new.environments in
    shape_made f old new c.args.at (deepest - 1) c.in_ok-index.field-0 c.requires.stands c.in_ok-index.ensures.meaning c.in_ok-index.ensures.stands
    c.args.names.now c.in-Make.op c.in-Make.kids.now c.in-Make.environment
    (ap (head_meaning f new) (sym c.in-Make.is))
    (λ n s. subst (HeadStands f new n) c.in-Make.is s)
    c.shape_over.result c.shape_over.ensures
