use Rattle.std.proofs.Common.{◌≡◌, ◌+◌, suc, Some, ap, ap₂, ◌∙◌, arith}
use Rattle.trees.specs.Trees.{shift_by, then}
use Rattle.trees.specs.Judgements.{trees}
use Rattle.trees.specs.Things.{ASubst, both, then_of, pushed_on}
use Rattle.substitution.specs.Forms.{lift_by}
use Rattle.book.specs.Shown.{book_means}
use Rattle.book.proofs.FitLaws.{extends-trans}
use Rattle.trails.proofs.open.lifted.Goals as goal

pub loop-n-preserved : goal.loop-n-preserved
loop-n-preserved c = record {
  extends =
      extends-trans _ _ _ (extends-trans _ _ _ c.loop-n.invariant.extends (extends-trans _ _ _ c.in_ok-up.ensures.extends c.in_ok-raised.ensures.extends))
      (extends-trans _ _ _ c.in_ok-last.ensures.extends c.in_ok-row.ensures.extends);
  means = λ d is.
      let below = lift_by trees c.loop-n.n d in
      let row = c.in_ok-up.ensures.extends.rows.keeps _ _ (c.loop-n.invariant.means d is) in
      let raised : book_means c.try_then.new.book c.in_ok-raised.raised ≡ Some (ASubst (then below (shift_by 1))) =
      c.in_ok-raised.ensures.means ∙ ap₂ (both then_of) row c.in_ok-up.ensures.meaning in
      let pushed = c.in_ok-row.ensures.means ∙ ap₂ (both pushed_on) (c.in_ok-last.ensures.extends.rows.keeps _ _ raised) c.in_ok-last.ensures.meaning in
      let more : suc c.loop-n.n ≡ c.loop-n.n + 1 = omega arith in
      pushed ∙ ap (λ n. Some (ASubst (lift_by trees n d))) more;
}
