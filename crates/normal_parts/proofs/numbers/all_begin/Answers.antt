use Rattle.std.proofs.Common.{◌-◌, sym, ap, subst}
use Rattle.closures.specs.Environments.{deepest}
use Rattle.closures.specs.Shown.{lists}
use Rattle.closures.proofs.HeadLaws.{closure-grows}
use Rattle.rows.proofs.TableLaws.{grows-grows}
use Rattle.tree_frames.specs.Frames.{tree_in}
use Rattle.tree_frames.proofs.FrameLaws.{tree-grows}
use Rattle.normal_parts.specs.Normal.{SidesBegin}
use Rattle.normal_parts.proofs.TellLaws.{yes-is, no-is, is-no, for-both}
use Rattle.normal_parts.proofs.numbers.all_begin.Goals as goal

pub returns-then-not-branch-clause-tells : goal.returns-then-not-branch-clause-tells
returns-then-not-branch-clause-tells g c = is-no (λ h. no-is _ c.in_ok-begins.ensures.tells c.if-not-branch.true h.0)

pub sides_begin-requires : goal.sides_begin-requires
sides_begin-requires g c = closure-grows (g.R.Rows.means c.args.rows.now) (lists c.args.environments.now) (lists c.begins.new.environments) (deepest - 1) c.args.body c.begins.ensures.grows c.requires.body

pub returns-clause-tells : goal.returns-clause-tells
returns-clause-tells g c =
    let f = g.R.Rows.means c.args.rows.now in
    let same = tree-grows f (lists c.args.environments.now) (lists c.begins.new.environments) (deepest - 1) c.args.body c.begins.ensures.grows c.requires.body in
    for-both _ (λ s. (yes-is _ c.in_ok-begins.ensures.tells c.if-not-branch.false, subst (SidesBegin c.args.op) same s)) (λ h. subst (SidesBegin c.args.op) (sym same) h.1) c.in_ok-sides_begin.ensures.tells
