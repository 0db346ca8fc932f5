use Rattle.std.proofs.Common.{◌≡◌, ◌∙◌, subst, Some}
use Rattle.trees.specs.Claimed.{claimed}
use Rattle.book.specs.Shown.{book_concludes, book_means}
use Rattle.book.proofs.FitLaws.{use-later}
use Rattle.compositions.proofs.UnfoldLaws.{in_context}
use Rattle.compositions.proofs.unfolding.concluded.Goals as goal

pub returns : goal.returns
returns c =
    let (J, use_is, says) = c.in_ok-equal.ensures.concludes in
    let b = c.try_conclude.new.book in
    let step = c.args.step.now in
    let equation = subst (λ x. claimed (book_means b) x ≡ Some J) c.in-TmEq.is (c.in_ok-there.ensures.claim ∙ says) in
    let context = subst (λ x. claimed (book_means b) x ≡ book_concludes b c.args.ctx.0) c.in-Ctx.is c.in_ok-here.ensures.claim in (
      J,
      record {
        use_is = use-later c.args.book.now b c.in_ok-equal.ensures.extends step.rule step.parts step.premises J use_is;
        context_is = in_context b c.args.ctx J c.in-Ctx.here c.in-TmEq.there c.in-TmEq.field-1 c.in-TmEq.field-2 c.in-TmEq.field-3 equation context c.if-here-there.false;
      },
    )
