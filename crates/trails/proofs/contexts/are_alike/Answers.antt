use Rattle.std.proofs.Common.{refl, subst}
use Rattle.book.specs.Shown.{book_means}
use Rattle.book.proofs.FitLaws.{extends-refl, extends-trans}
use Rattle.trails.specs.Rows.{IsCompared}
use Rattle.trails.proofs.ContextLaws.{compared-none, compared-more}
use Rattle.trails.proofs.contexts.are_alike.Goals as goal

pub loop-turn-init : goal.loop-turn-init
loop-turn-init c = record {
  extends = extends-refl c.args.book.now;
  compared = λ G H left right. compared-none (book_means c.args.book.now) c.args.left c.args.right G H left right;
}

pub returns-in-Empty-clause-extends : goal.returns-in-Empty-clause-extends
returns-in-Empty-clause-extends c = extends-trans _ _ _ c.loop-turn.invariant.extends c.in_ok-last_entries.ensures.extends

pub returns-in-Empty-clause-alike : goal.returns-in-Empty-clause-alike
returns-in-Empty-clause-alike c = λ G H left right.
    let so_far = c.loop-turn.invariant.compared G H left right in
    let told = subst (λ x. IsCompared (book_means c.last_entries.new.book) x so_far.left so_far.right) c.in-Empty.is (c.in_ok-last_entries.ensures.compared so_far.left so_far.right so_far.left_is so_far.right_is) in
    (λ yes. so_far.same.1 told, λ alike. refl)

pub returns-in-Apart-clause-extends : goal.returns-in-Apart-clause-extends
returns-in-Apart-clause-extends c = extends-trans _ _ _ c.loop-turn.invariant.extends c.in_ok-last_entries.ensures.extends

pub returns-in-Apart-clause-alike : goal.returns-in-Apart-clause-alike
returns-in-Apart-clause-alike c = λ G H left right.
    let so_far = c.loop-turn.invariant.compared G H left right in
    let never = subst (λ x. IsCompared (book_means c.last_entries.new.book) x so_far.left so_far.right) c.in-Apart.is (c.in_ok-last_entries.ensures.compared so_far.left so_far.right so_far.left_is so_far.right_is) in
    (λ yes. cc, λ alike. absurd (never (so_far.same.0 alike)))

pub loop-turn-preserved : goal.loop-turn-preserved
loop-turn-preserved c =
    let f = book_means c.loop-turn.book in
    let g = book_means c.last_entries.new.book in
    record {
      extends = extends-trans _ _ _ c.loop-turn.invariant.extends c.in_ok-last_entries.ensures.extends;
      compared = λ G H left right.
          let so_far = c.loop-turn.invariant.compared G H left right in
          compared-more f g c.loop-turn.here c.loop-turn.there c.in-Before.left c.in-Before.right G H so_far
          (subst (λ x. IsCompared g x so_far.left so_far.right) c.in-Before.is (c.in_ok-last_entries.ensures.compared so_far.left so_far.right so_far.left_is so_far.right_is));
    }
