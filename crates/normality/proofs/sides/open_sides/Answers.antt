use Rattle.std.proofs.Common.{◌≡◌, ◌-◌, true, false, refl, sym, ◌∙◌, subst, arith, rules}
use denote.Enum.Bare.{same_true, same_false}
use Rattle.trees.specs.contracts.op.Op.{the_type}
use Rattle.trees.specs.declared.op.Op.TheVariants as op
use Rattle.rows.proofs.TableLaws.{grows-same}
use Rattle.closures.specs.Environments.{deepest}
use Rattle.closures.specs.Shown.{lists}
use Rattle.fixed_names.specs.Shown.{fixed_by}
use Rattle.fixed_names.specs.Scopes.{fixed_in}
use Rattle.tree_frames.specs.Frames.{tree_in, OpensTo, OpensFrame}
use Rattle.normal_formulas.proofs.OrderLaws.{not-told}
use Rattle.normality.proofs.SideLaws.{face-variable, body-then, face-frame, body-frame, sides-tell, sides-no-body, sides-end, sides-other}
use Rattle.normality.proofs.sides.open_sides.Given as given
use Rattle.normality.proofs.sides.open_sides.Goals as goal
use Rattle.normality.proofs.sides.open_sides.Goals.{In-Operator, In-Operator-2}

face-opens : (g : given.Over) (c : In-Operator g) → OpensFrame (g.R.Rows.means c.args.rows.now) (lists c.args.environments.now) (lists c.open_tree.new.environments) c.args.sides.face 0 c.in-Operator.face
face-opens g c = subst (OpensTo (g.R.Rows.means c.args.rows.now) (lists c.args.environments.now) (lists c.open_tree.new.environments) c.args.sides.face 0) c.in-Operator.is c.in_ok-face.ensures.opens

body-opens : (g : given.Over) (c : In-Operator-2 g) → OpensFrame (g.R.Rows.means c.args.rows.now) (lists c.open_tree.new.environments) (lists c.open_tree-2.new.environments) c.args.sides.body 0 c.in-Operator-2.body
body-opens g c = subst (OpensTo (g.R.Rows.means c.args.rows.now) (lists c.open_tree.new.environments) (lists c.open_tree-2.new.environments) c.args.sides.body 0) c.in-Operator-2.is c.in_ok-body.ensures.opens

pub returns-in_default-clause-tells : goal.returns-in_default-clause-tells
returns-in_default-clause-tells g c =
    let f = g.R.Rows.means c.args.rows.now in
    let old = lists c.args.environments.now in
    let is = subst (OpensTo f old (lists c.open_tree.new.environments) c.args.sides.face 0) c.in_default.is c.in_ok-face.ensures.opens in
    λ p. face-variable (fixed_in (fixed_by c.args.scopes.now) c.args.sides.scope) c.args.sides.raised c.in_default.field-0 (tree_in f old c.args.sides.face) (tree_in f old c.args.sides.body) is p

pub open_tree-requires-2 : goal.open_tree-requires-2
open_tree-requires-2 g c = body-then (g.R.Rows.means c.args.rows.now) (lists c.args.environments.now) (lists c.open_tree.new.environments) (lists c.open_tree.new.environments) (fixed_by c.args.scopes.now) (deepest - 1) c.args.sides c.open_tree.ensures.grows (grows-same (lists c.open_tree.new.environments)) c.requires.face c.requires.body

pub returns-in_default-2-clause-tells : goal.returns-in_default-2-clause-tells
returns-in_default-2-clause-tells g c =
    let f = g.R.Rows.means c.args.rows.now in
    let mid = lists c.open_tree.new.environments in
    let last = lists c.open_tree-2.new.environments in
    let is = subst (OpensTo f mid last c.args.sides.body 0) c.in_default-2.is c.in_ok-body.ensures.opens in
    sides-no-body f (lists c.args.environments.now) mid last (fixed_by c.args.scopes.now) (deepest - 1) c.args.sides c.open_tree.ensures.grows c.open_tree-2.ensures.grows c.requires.face c.requires.body last (fixed_by c.args.scopes.now) c.in_default-2.field-0 c.args.tests.now.items c.args.tests.now.items is

pub returns-then-eq-clause-tells : goal.returns-then-eq-clause-tells
returns-then-eq-clause-tells g c =
    let f = g.R.Rows.means c.args.rows.now in
    let mid = lists c.open_tree.new.environments in
    let last = lists c.open_tree-2.new.environments in
    let z = fixed_by c.args.scopes.now in
    let here = goal.at.returns-then-eq-clause-tells g c in
    sides-end f (lists c.args.environments.now) mid last z (deepest - 1) c.args.sides c.open_tree.ensures.grows c.open_tree-2.ensures.grows c.requires.face c.requires.body last z c.in-Operator.face c.in-Operator-2.body c.args.tests.now.items c.eq-then-eq.result
    (face-opens g here.In-Operator) (body-opens g here.In-Operator-2) (same_true the_type (search rules) c.in-Operator.face.op op.F0 (sym c.if-eq.ensures))
    (λ told. same_true the_type (search rules) c.in-Operator-2.body.op op.Empty (sym c.eq-then-eq.ensures ∙ told)) (λ never. same_false the_type c.in-Operator-2.body.op op.Empty (sym c.eq-then-eq.ensures ∙ never))

pub returns-then-ne-clause-tells : goal.returns-then-ne-clause-tells
returns-then-ne-clause-tells g c =
    let f = g.R.Rows.means c.args.rows.now in
    let mid = lists c.open_tree.new.environments in
    let last = lists c.open_tree-2.new.environments in
    let z = fixed_by c.args.scopes.now in
    let here = goal.at.returns-then-ne-clause-tells g c in
    sides-other f (lists c.args.environments.now) mid last z (deepest - 1) c.args.sides c.open_tree.ensures.grows c.open_tree-2.ensures.grows c.requires.face c.requires.body last z c.in-Operator.face c.in-Operator-2.body c.args.tests.now.items c.args.tests.now.items
    (face-opens g here.In-Operator) (body-opens g here.In-Operator-2) (same_false the_type c.in-Operator.face.op op.F0 (sym c.if-eq.ensures))
    (λ joins systems. same_false the_type c.in-Operator.face.op op.Join (not-told _ true c.if-ne.ensures) joins)

pub returns-then-ne-2-clause-tells : goal.returns-then-ne-2-clause-tells
returns-then-ne-2-clause-tells g c =
    let f = g.R.Rows.means c.args.rows.now in
    let mid = lists c.open_tree.new.environments in
    let last = lists c.open_tree-2.new.environments in
    let z = fixed_by c.args.scopes.now in
    let here = goal.at.returns-then-ne-2-clause-tells g c in
    sides-other f (lists c.args.environments.now) mid last z (deepest - 1) c.args.sides c.open_tree.ensures.grows c.open_tree-2.ensures.grows c.requires.face c.requires.body last z c.in-Operator.face c.in-Operator-2.body c.args.tests.now.items c.args.tests.now.items
    (face-opens g here.In-Operator) (body-opens g here.In-Operator-2) (same_false the_type c.in-Operator.face.op op.F0 (sym c.if-eq.ensures))
    (λ joins systems. same_false the_type c.in-Operator-2.body.op op.Sys (not-told _ true c.if-ne-2.ensures) systems)

pub open_side-requires-clause-face : goal.open_side-requires-clause-face
open_side-requires-clause-face g c =
    face-frame (g.R.Rows.means c.args.rows.now) (lists c.args.environments.now) (lists c.open_tree.new.environments) (lists c.open_tree-2.new.environments) (fixed_by c.args.scopes.now) (deepest - 1) c.args.sides c.open_tree.ensures.grows c.open_tree-2.ensures.grows c.requires.face c.requires.body
    c.in-Operator.face (face-opens g (goal.at.open_side-requires-clause-face g c).In-Operator)

pub open_side-requires-clause-body : goal.open_side-requires-clause-body
open_side-requires-clause-body g c =
    body-frame (g.R.Rows.means c.args.rows.now) (lists c.args.environments.now) (lists c.open_tree.new.environments) (lists c.open_tree-2.new.environments) (fixed_by c.args.scopes.now) (deepest - 1) c.args.sides c.open_tree.ensures.grows c.open_tree-2.ensures.grows c.requires.face c.requires.body
    c.in-Operator-2.body (body-opens g (goal.at.open_side-requires-clause-body g c).In-Operator-2)

pub returns-clause-tells : goal.returns-clause-tells
returns-clause-tells g c =
    let f = g.R.Rows.means c.args.rows.now in
    let mid = lists c.open_tree.new.environments in
    let last = lists c.open_tree-2.new.environments in
    let here = goal.at.returns-clause-tells g c in
    sides-tell f (lists c.args.environments.now) mid last (fixed_by c.args.scopes.now) (deepest - 1) c.args.sides c.open_tree.ensures.grows c.open_tree-2.ensures.grows c.requires.face c.requires.body (lists c.open_side.new.environments) (fixed_by c.open_side.new.scopes)
    c.in-Operator.face c.in-Operator-2.body c.args.tests.now.items c.open_side.new.tests.items c.in_ok-open_side.field-0 (face-opens g here.In-Operator) (body-opens g here.In-Operator-2) c.in_ok-open_side.ensures.tells
