use Rattle.side_conditions.specs.declared.reading.Detail.TheVariants as detail
use Rattle.std.proofs.Common.{refl, sym, ◌∙◌, subst, Some, None}
use Rattle.rows.proofs.TableLaws.{grows-grows}
use Rattle.closures.specs.Shown.{lists}
use Rattle.closures.specs.Closures.{closure_meaning, IsClosure}
use Rattle.closures.proofs.HeadLaws.{closure-grows}
use Rattle.side_conditions.specs.Contexts.{context_of}
use Rattle.side_conditions.specs.Readings.{IsFormOf, IsValued}
use Rattle.side_conditions.specs.Shapes.{tree_of}
use Rattle.side_conditions.specs.Shown.{reading_at}
use Rattle.side_conditions.specs.Formulas.{IsFormOr}
use Rattle.side_conditions.proofs.FormulaLaws.{form-at}
use Rattle.side_conditions.proofs.alike.same_formulas.Goals as goal

pub read-requires-2-clause-stands : goal.read-requires-2-clause-stands
read-requires-2-clause-stands g c =
    let f = g.R.Rows.means c.args.rows.now in
    let known = lists c.args.environments.now in
    closure-grows f known (lists c.read.new.environments) 0 c.outermost-right.result.closure c.in_ok-read.ensures.grows (subst (IsClosure f known 0) (sym c.outermost-right.ensures.closure) c.requires.right)

pub returns-in_ok-same-in-Some-Some-clause-same : goal.returns-in_ok-same-in-Some-Some-clause-same
returns-in_ok-same-in-Some-Some-clause-same g c =
    let f = g.R.Rows.means c.args.rows.now in
    let known = lists c.args.environments.now in
    let newer = lists c.read-2.new.environments in
    let table = reading_at c.read-2.new.readings in
    let H = context_of (f c.args.faces.now.ctx.0) in
    let r = tree_of (closure_meaning f known c.args.left) in
    let s = tree_of (closure_meaning f known c.args.right) in
    let names = c.names-2.result.now in
    let grows = grows-grows known (lists c.read.new.environments) newer c.in_ok-read.ensures.grows c.in_ok-read-2.ensures.grows in
    let same = sym c.requires.stands.names_are ∙ sym c.names-2.ensures in
    let left : IsFormOf H r c.in-Some-Some.left.now = form-at (IsValued detail.Value) refl f known newer names table c.outermost-left.result c.args.left (Some c.in-Some-Some.left.now) grows c.requires.left c.outermost-left.ensures.closure c.outermost-left.ensures.depth c.in_ok-read-2.ensures.remembers (c.in_ok-read-2.ensures.keeps c.outermost-left.result c.in_ok-read.ensures.there) c.in-Some-Some.ensures H same in
    let right : IsFormOf H s c.in-Some-Some.right.now = form-at (IsValued detail.Value) refl f known newer names table c.outermost-right.result c.args.right (Some c.in-Some-Some.right.now) grows c.requires.right c.outermost-right.ensures.closure c.outermost-right.ensures.depth c.in_ok-read-2.ensures.remembers c.in_ok-read-2.ensures.there c.in-Some-Some.ensures' H same in
    record {
      left = left.is_one;
      right = right.is_one;
      exact = c.in_ok-same-in-Some-Some.ensures.same f c.requires.stands r s left right;
    }

pub returns-in_default-2-clause-same : goal.returns-in_default-2-clause-same
returns-in_default-2-clause-same g c =
    let f = g.R.Rows.means c.args.rows.now in
    let known = lists c.args.environments.now in
    let newer = lists c.read-2.new.environments in
    let table = reading_at c.read-2.new.readings in
    let H = context_of (f c.args.faces.now.ctx.0) in
    let r = tree_of (closure_meaning f known c.args.left) in
    let names = c.names-2.result.now in
    let grows = grows-grows known (lists c.read.new.environments) newer c.in_ok-read.ensures.grows c.in_ok-read-2.ensures.grows in
    let same = sym c.requires.stands.names_are ∙ sym c.names-2.ensures in
    let left : IsFormOr H r None = form-at (IsValued detail.Value) refl f known newer names table c.outermost-left.result c.args.left None grows c.requires.left c.outermost-left.ensures.closure c.outermost-left.ensures.depth c.in_ok-read-2.ensures.remembers (c.in_ok-read-2.ensures.keeps c.outermost-left.result c.in_ok-read.ensures.there) c.in_default.ensures H same in
    λ l r. left l

pub returns-in_default-clause-same : goal.returns-in_default-clause-same
returns-in_default-clause-same g c =
    let f = g.R.Rows.means c.args.rows.now in
    let known = lists c.args.environments.now in
    let newer = lists c.read-2.new.environments in
    let table = reading_at c.read-2.new.readings in
    let H = context_of (f c.args.faces.now.ctx.0) in
    let s = tree_of (closure_meaning f known c.args.right) in
    let names = c.names-2.result.now in
    let grows = grows-grows known (lists c.read.new.environments) newer c.in_ok-read.ensures.grows c.in_ok-read-2.ensures.grows in
    let same = sym c.requires.stands.names_are ∙ sym c.names-2.ensures in
    let right : IsFormOr H s None = form-at (IsValued detail.Value) refl f known newer names table c.outermost-right.result c.args.right None grows c.requires.right c.outermost-right.ensures.closure c.outermost-right.ensures.depth c.in_ok-read-2.ensures.remembers c.in_ok-read-2.ensures.there c.in_default.ensures' H same in
    λ l r. right r
