use Rattle.std.proofs.Common.{inl, refl, subst}
use Rattle.trees.specs.declared.op.Op.TheVariants as op
use Rattle.book.specs.Shown.{book_means}
use Rattle.book.proofs.FitLaws.{extends-trans}
use Rattle.trails.specs.Kids.{HasKid, kid}
use Rattle.trails.specs.Openings.{Finds}
use Rattle.trails.proofs.eta.half.Goals as goal

pub returns-in-Some-clause-means : goal.returns-in-Some-clause-means
returns-in-Some-clause-means c = λ t is one.
    let g = book_means c.kid_of.new.book in
    let finds = subst (λ o. Finds g o (HasKid op.Pair c.args.place t) (kid c.args.place t)) c.in-Some.is (c.in_ok-half.ensures.kid t is) in
    record { tree = kid c.args.place t; holds = inl (finds.0, refl); is = finds.1 }

pub returns-in_ok-try_make-in-None-clause-extends : goal.returns-in_ok-try_make-in-None-clause-extends
returns-in_ok-try_make-in-None-clause-extends c = extends-trans _ _ _ c.in_ok-half.ensures.extends c.in_ok-try_make-in-None.ensures.extends
