use Rattle.std.proofs.Common.{inl, inr, refl, subst, ◌∙◌}
use Rattle.trees.specs.Trees.{Var}
use Rattle.trees.specs.Judgements.{trees}
use Rattle.substitution.specs.Forms.{weaken}
use Rattle.book.specs.Shown.{book_means}
use Rattle.book.proofs.FitLaws.{extends-trans}
use Rattle.trails.specs.Kids.{HasKid, kid}
use Rattle.trails.specs.Openings.{Finds}
use Rattle.trails.specs.Trails.{at_variable}
use Rattle.trails.proofs.StationLaws.{made-two}
use Rattle.trails.proofs.eta.body.Goals as goal

pub returns-in-Some-clause-means : goal.returns-in-Some-clause-means
returns-in-Some-clause-means c = λ t is two.
    let g = book_means c.kid_of.new.book in
    let finds = subst (λ o. Finds g o (HasKid c.args.made c.args.place t) (kid c.args.place t)) c.in-Some.is (c.in_ok-body.ensures.kid t is) in
    record { tree = kid c.args.place t; holds = inl (finds.0, refl); is = finds.1 }

pub returns-in_ok-try_make-in-None-clause-extends : goal.returns-in_ok-try_make-in-None-clause-extends
returns-in_ok-try_make-in-None-clause-extends c =
    extends-trans _ _ _ (extends-trans _ _ _ c.in_ok-body.ensures.extends c.in_ok-tree-in-None.ensures.extends)
    (extends-trans _ _ _ c.in_ok-last-in-None.ensures.extends c.in_ok-try_make-in-None.ensures.extends)

pub returns-in_ok-try_make-in-None-clause-means : goal.returns-in_ok-try_make-in-None-clause-means
returns-in_ok-try_make-in-None-clause-means c = λ t is two.
    let g = book_means c.kid_of.new.book in
    let never = subst (λ o. Finds g o (HasKid c.args.made c.args.place t) (kid c.args.place t)) c.in-None.is (c.in_ok-body.ensures.kid t is) in
    let raised = c.in_ok-tree-in-None.ensures.means t (c.in_ok-body.ensures.extends.rows.keeps _ _ is) in
    record {
      tree = at_variable c.args.by t;
      holds = inr (never, refl);
      is =
          c.in_ok-try_make-in-None.ensures.means
          ∙ made-two (book_means c.var.new.self) c.args.by c.in_ok-tree-in-None.tree c.in_ok-last-in-None.last (weaken trees t) (Var 0) two (c.in_ok-last-in-None.ensures.extends.rows.keeps _ _ raised)
          c.in_ok-last-in-None.ensures.meaning;
    }
