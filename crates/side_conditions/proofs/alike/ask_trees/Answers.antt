use Rattle.closures.specs.Shown.{lists}
use Rattle.closures.specs.Closures.{closure_meaning}
use Rattle.compare.proofs.AskLaws.{asks-true}
use Rattle.side_conditions.specs.Contexts.{context_of}
use Rattle.side_conditions.specs.Formulas.{AreAlike, AreSameFormulas}
use Rattle.side_conditions.specs.Shapes.{tree_of}
use Rattle.side_conditions.proofs.AlikeLaws.{formulas-asked, formulas-unlike, trees-asked}
use Rattle.std.proofs.Common.{rules, ◌≡◌, refl, ap, inl, Some, None}
use Rattle.side_conditions.proofs.alike.ask_trees.Goals as goal

pub returns-then-eq-clause-yes : goal.returns-then-eq-clause-yes
returns-then-eq-clause-yes g c =
    let f = g.R.Rows.means c.args.rows.now in
    let known = lists c.args.environments.now in
    let H = context_of (f c.args.faces.now.ctx.0) in
    let same : c.args.left ≡ c.args.right = search rules in
    λ yes. asks-true f known (AreAlike H (tree_of (closure_meaning f known c.args.left)) (tree_of (closure_meaning f known c.args.right))) c.args.pairs.now.keys (inl (ap (λ z. tree_of (closure_meaning f known z)) same))

pub returns-in-Some-clause-yes : goal.returns-in-Some-clause-yes
returns-in-Some-clause-yes g c =
    let f = g.R.Rows.means c.args.rows.now in
    let known = lists c.args.environments.now in
    let H = context_of (f c.args.faces.now.ctx.0) in
    let r = tree_of (closure_meaning f known c.args.left) in
    let s = tree_of (closure_meaning f known c.args.right) in
    let formulas : AreSameFormulas H r s (Some c.in-Some.same) = rw c.in-Some.is at c.in_ok-same.ensures.same in
    formulas-asked f (lists c.same_formulas.new.environments) H r s c.in-Some.same c.args.pairs.now.keys formulas

pub returns-in-Some-clause-no : goal.returns-in-Some-clause-no
returns-in-Some-clause-no g c =
    let f = g.R.Rows.means c.args.rows.now in
    let known = lists c.args.environments.now in
    let H = context_of (f c.args.faces.now.ctx.0) in
    let r = tree_of (closure_meaning f known c.args.left) in
    let s = tree_of (closure_meaning f known c.args.right) in
    let formulas : AreSameFormulas H r s (Some c.in-Some.same) = rw c.in-Some.is at c.in_ok-same.ensures.same in
    formulas-unlike f known H r s c.in-Some.same formulas

pub returns-in_ok-add_pair-in-None-clause-yes : goal.returns-in_ok-add_pair-in-None-clause-yes
returns-in_ok-add_pair-in-None-clause-yes g c =
    let f = g.R.Rows.means c.args.rows.now in
    let known = lists c.args.environments.now in
    let H = context_of (f c.args.faces.now.ctx.0) in
    let r = tree_of (closure_meaning f known c.args.left) in
    let s = tree_of (closure_meaning f known c.args.right) in
    let none : AreSameFormulas H r s None = rw c.in-None.is at c.in_ok-same.ensures.same in
    λ yes. trees-asked f known (lists c.same_formulas.new.environments) H c.args.left c.args.right _ c.args.pairs.now.keys c.add_pair.new.pairs.keys refl refl c.in_ok-same.ensures.grows c.requires.left c.requires.right none c.in_ok-add_pair-in-None.ensures
