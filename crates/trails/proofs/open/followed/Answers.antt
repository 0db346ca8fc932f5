use Rattle.std.proofs.Common.{◌≡◌, Some, subst, sym, ap, ◌∙◌}
use Rattle.trees.specs.Trees.{then, id}
use Rattle.trees.specs.Things.{ASubst}
use Rattle.substitution.proofs.ThenLaws.{then-id}
use Rattle.book.specs.Shown.{book_means}
use Rattle.trails.specs.Openings.{IsSubstOr}
use Rattle.trails.proofs.open.followed.Goals as goal

pub returns-in-None-clause-means : goal.returns-in-None-clause-means
returns-in-None-clause-means c = λ d e first second.
    let none : e ≡ id = subst (λ o. IsSubstOr (book_means c.args.book.now) o e) c.in-None.is second in
    first ∙ ap (λ s. Some (ASubst s)) (sym (ap (then d) none ∙ then-id d))
