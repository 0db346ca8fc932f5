use Rattle.std.proofs.Common.{◌≡◌, ◌-◌, ◌∙◌, suc, List, Some, sym, ap, subst, arith}
use Rattle.trees.specs.Things.{ASubst, Kept}
use Rattle.trees.proofs.Meanings.{kept-same}
use Rattle.deriv_file.specs.declared.row.Row.{Row}
use Rattle.book_writer.specs.Means.{lines_mean}
use Rattle.book_writer.proofs.PushLaws.{passed-on, passed-end, passed-shift}
use Rattle.book_writer.proofs.lines.Lines.without.Goals as goal

pub sub_line-requires : goal.sub_line-requires
sub_line-requires c = let w = c.loop-left.invariant.1 c.requires.0 c.requires.1 in (w.rest, w.is)

pub loop-left-preserved : goal.loop-left-preserved
loop-left-preserved c = (
  c.loop-left.invariant.0,
  λ d e.
      let w = c.loop-left.invariant.1 d e in
      let left = c.loop-left.left in
      let more : left ≡ suc (left - 1) = omega (arith, c.loop-left-test.true) in
      passed-on c.loop-left.self c.loop-left.at c.in-Push.sub _ left (left - 1) d c.args.count w (c.in-Push.ensures w.rest w.is) more,
)

pub returns-in_err-longer_shift-in-Shift-clause-kept : goal.returns-in_err-longer_shift-in-Shift-clause-kept
returns-in_err-longer_shift-in-Shift-clause-kept c = subst (λ (rows : List Row). Kept (lines_mean rows) (lines_mean c.longer_shift.new.self)) c.loop-left.invariant.0 c.longer_shift.ensures.kept

pub returns-in-Shift-clause-kept : goal.returns-in-Shift-clause-kept
returns-in-Shift-clause-kept c = subst (λ (rows : List Row). Kept (lines_mean rows) (lines_mean c.longer_shift.new.self)) c.loop-left.invariant.0 c.longer_shift.ensures.kept

pub returns-in-Shift-clause-meaning : goal.returns-in-Shift-clause-meaning
returns-in-Shift-clause-meaning c = λ d e.
    let w = c.loop-left.invariant.1 d e in
    let f = lines_mean c.loop-left.self in
    c.in_ok-longer_shift-in-Shift.ensures.meaning ∙ ap (λ s. Some (ASubst s)) (passed-shift f c.loop-left.at c.loop-left.left c.in-Shift.shift d c.args.count w (c.in-Shift.ensures w.rest w.is))

pub returns-clause-kept : goal.returns-clause-kept
returns-clause-kept c = subst (λ (rows : List Row). Kept (lines_mean c.args.self.now) (lines_mean rows)) (sym c.loop-left.invariant.0) (kept-same (lines_mean c.args.self.now))

pub returns-clause-meaning : goal.returns-clause-meaning
returns-clause-meaning c = λ d e.
    passed-end (lines_mean c.loop-left.self) c.loop-left.at c.loop-left.left d c.args.count (c.loop-left.invariant.1 d e) (omega (arith, c.loop-left-test.false))
