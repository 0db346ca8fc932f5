use Rattle.std.proofs.Common.{◌-◌, refl, arith}
use Rattle.trees.specs.declared.op.Op.TheVariants as op
use Rattle.form_rows.proofs.RowLaws.{are_none, is_kept, is_made, kept_then}
use Rattle.form_rows.proofs.SystemLaws.{sided_none, sided_more, sided_all, sys_fits, join_fits}
use Rattle.form_rows.proofs.systems.system.Goals as goal

pub loop-at-init : goal.loop-at-init
loop-at-init g c =
    sided_none c.requires.as_many (kept_then c.make.ensures.kept c.make-2.ensures.kept)
    (is_kept c.make-2.ensures.kept (is_made op.F0 refl (are_none (g.M.Rows.means c.args.maker.now)) c.in_ok-others.ensures.meaning))
    (is_made op.Empty refl (are_none (g.M.Rows.means c.make.new.self)) c.in_ok-row.ensures.meaning)

pub make-requires-in-loop-at : goal.make-requires-in-loop-at
make-requires-in-loop-at g c =
    let t = c.loop-at-test.true in
    sys_fits (c.loop-at.at - 1) c.requires.as_many c.requires.faces c.requires.values c.loop-at.invariant (omega arith)

pub make-requires-in-loop-at-2 : goal.make-requires-in-loop-at-2
make-requires-in-loop-at-2 g c =
    let t = c.loop-at-test.true in
    join_fits (c.loop-at.at - 1) c.requires.as_many c.requires.faces c.requires.values c.loop-at.invariant (omega arith) _ c.make-in-loop-at.ensures.kept

pub loop-at-preserved : goal.loop-at-preserved
loop-at-preserved g c =
    let t = c.loop-at-test.true in
    sided_more (c.loop-at.at - 1) c.requires.as_many c.requires.faces c.requires.values c.loop-at.invariant (omega arith) _ _ c.in_ok-row-2.row c.in_ok-others-2.others
    c.make-in-loop-at.ensures.kept c.in_ok-row-2.ensures.meaning c.make-in-loop-at-2.ensures.kept c.in_ok-others-2.ensures.meaning

pub returns-clause-body : goal.returns-clause-body
returns-clause-body g c ps ts a b = let n = c.loop-at-test.false in sided_all ps ts c.loop-at.invariant (omega arith) a b
