use Rattle.std.proofs.Common.{◌≡◌, Some, subst, sym, ap, ap₂, ◌∙◌}
use Rattle.trees.specs.Trees.{apply_under, id}
use Rattle.trees.specs.Things.{ATree, both, instance_of}
use Rattle.substitution.proofs.BinderLaws.{apply_under-lift_by}
use Rattle.book.specs.Shown.{book_means}
use Rattle.book.proofs.FitLaws.{extends-trans}
use Rattle.trails.specs.Openings.{IsSubstOr}
use Rattle.trails.proofs.OpeningLaws.{apply_under-id}
use Rattle.trails.proofs.open.under.Goals as goal

pub returns-in_ok-try_instance-in-Some-clause-extends : goal.returns-in_ok-try_instance-in-Some-clause-extends
returns-in_ok-try_instance-in-Some-clause-extends c =
    extends-trans _ _ _ c.in_ok-sub-in-Some.ensures.extends c.in_ok-try_instance-in-Some.ensures.extends

pub returns-in_ok-try_instance-in-Some-clause-means : goal.returns-in_ok-try_instance-in-Some-clause-means
returns-in_ok-try_instance-in-Some-clause-means c = λ t d tree sub.
    let lifted = c.in_ok-sub-in-Some.ensures.means d (subst (λ o. IsSubstOr (book_means c.args.book.now) o d) c.in-Some.is sub) in
    c.in_ok-try_instance-in-Some.ensures.means
    ∙ ap₂ (both instance_of) (c.in_ok-sub-in-Some.ensures.extends.rows.keeps _ _ tree) lifted
    ∙ ap (λ u. Some (ATree u)) (sym (apply_under-lift_by t c.args.by d))

pub returns-in-None-clause-means : goal.returns-in-None-clause-means
returns-in-None-clause-means c = λ t d tree sub.
    let none : d ≡ id = subst (λ o. IsSubstOr (book_means c.args.book.now) o d) c.in-None.is sub in
    tree ∙ ap (λ u. Some (ATree u)) (sym (ap (apply_under t c.args.by) none ∙ apply_under-id t c.args.by))
