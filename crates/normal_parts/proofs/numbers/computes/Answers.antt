use Rattle.std.proofs.Common.{◌≡◌, ◌⊎◌, inl, inr, ◌-◌, sym, ◌∙◌, ap, ap₂, subst}
use Rattle.closures.specs.Environments.{deepest}
use Rattle.closures.specs.Shown.{lists}
use Rattle.closures.proofs.HeadLaws.{closure-grows}
use Rattle.rows.specs.Tables.{Grows}
use Rattle.rows.proofs.TableLaws.{grows-grows}
use Rattle.trees.specs.declared.op.Op.TheVariants as op
use Rattle.tree_frames.specs.Frames.{tree_in}
use Rattle.tree_frames.proofs.FrameLaws.{tree-grows}
use Rattle.normal_parts.specs.Normal.{Begins, SidesBegin}
use Rattle.normal_parts.proofs.NumberLaws.{all-later}
use Rattle.normal_parts.proofs.TellLaws.{yes-is, no-is, is-no, is-yes, for-both}
use Rattle.normal_parts.proofs.numbers.computes.Goals as goal

pub returns-then-not-branch-clause-tells : goal.returns-then-not-branch-clause-tells
returns-then-not-branch-clause-tells g c = is-no (λ h. no-is _ c.in_ok-begins.ensures.tells c.if-not-branch.true h.0)

pub all_begin-requires : goal.all_begin-requires
all_begin-requires g c = record {
  body = closure-grows (g.R.Rows.means c.args.rows.now) (lists c.args.environments.now) (lists c.begins.new.environments) (deepest - 1) c.args.body c.begins.ensures.grows c.requires.body;
  base = closure-grows (g.R.Rows.means c.args.rows.now) (lists c.args.environments.now) (lists c.begins.new.environments) (deepest - 1) c.args.base c.begins.ensures.grows c.requires.base;
}

pub returns-then-branch-clause-tells : goal.returns-then-branch-clause-tells
returns-then-branch-clause-tells g c =
    let f = g.R.Rows.means c.args.rows.now in
    let e = all-later f (lists c.args.environments.now) (lists c.begins.new.environments) (deepest - 1) op.Zero c.args.body c.args.base c.begins.ensures.grows c.requires.body c.requires.base in
    is-yes (yes-is _ c.in_ok-begins.ensures.tells c.if-not-branch.false, inl (e.to (yes-is _ c.in_ok-all_begin.ensures.tells c.if-branch.true)))

pub all_begin-requires-2-clause-body : goal.all_begin-requires-2-clause-body
all_begin-requires-2-clause-body g c =
    let f = g.R.Rows.means c.args.rows.now in
    let old = lists c.args.environments.now in
    let mid = lists c.begins.new.environments in
    let last = lists c.all_begin.new.environments in
    closure-grows f old last (deepest - 1) c.args.body (grows-grows old mid last c.begins.ensures.grows c.all_begin.ensures.grows) c.requires.body

pub all_begin-requires-2-clause-base : goal.all_begin-requires-2-clause-base
all_begin-requires-2-clause-base g c =
    let f = g.R.Rows.means c.args.rows.now in
    let old = lists c.args.environments.now in
    let mid = lists c.begins.new.environments in
    let last = lists c.all_begin.new.environments in
    closure-grows f old last (deepest - 1) c.args.base (grows-grows old mid last c.begins.ensures.grows c.all_begin.ensures.grows) c.requires.base

pub returns-clause-tells : goal.returns-clause-tells
returns-clause-tells g c =
    let f = g.R.Rows.means c.args.rows.now in
    let old = lists c.args.environments.now in
    let mid = lists c.begins.new.environments in
    let last = lists c.all_begin.new.environments in
    let zeros = all-later f old mid (deepest - 1) op.Zero c.args.body c.args.base c.begins.ensures.grows c.requires.body c.requires.base in
    let sucs = all-later f old last (deepest - 1) op.Suc c.args.body c.args.base (grows-grows old mid last c.begins.ensures.grows c.all_begin.ensures.grows) c.requires.body c.requires.base in
    for-both _
    (λ all. (yes-is _ c.in_ok-begins.ensures.tells c.if-not-branch.false, inr (sucs.to all)))
    (λ h. elim h.1 [
      | inl z ↦ absurd (no-is _ c.in_ok-all_begin.ensures.tells c.if-branch.false (zeros.from z))
      | inr s ↦ sucs.from s
    ])
    c.in_ok-all_begin-2.ensures.tells
