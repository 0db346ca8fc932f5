use Rattle.std.proofs.Common.{◌≡◌, subst, sym, ap, ◌∙◌}
use Rattle.trees.specs.Trees.{apply, id}
use Rattle.substitution.proofs.ThenLaws.{apply-id}
use Rattle.book.specs.Shown.{book_means}
use Rattle.trails.specs.Openings.{IsSubstOr, IsRead, IsOver}
use Rattle.trails.proofs.OpeningLaws.{met-first, instance-then}
use Rattle.trails.proofs.open.turned.Goals as goal

pub returns-in-Some-clause-means : goal.returns-in-Some-clause-means
returns-in-Some-clause-means c = λ t d tree sub.
    let f = book_means c.args.book.now in
    met-first f c.in-Variable.index c.in-Some.sub t d (subst (λ r. IsRead f r t) c.in-Variable.is (c.in_ok-index.ensures t tree))
    (subst (λ o. IsSubstOr f o d) c.in-Some.is sub)

pub returns-in-None-clause-means : goal.returns-in-None-clause-means
returns-in-None-clause-means c = λ t d tree sub.
    let f = book_means c.args.book.now in
    let none : d ≡ id = subst (λ o. IsSubstOr f o d) c.in-None.is sub in
    ap (apply t) none ∙ apply-id t ∙ subst (λ r. IsRead f r t) c.in-Variable.is (c.in_ok-index.ensures t tree)

pub returns-in_ok-sub-in-Instance-clause-means : goal.returns-in_ok-sub-in-Instance-clause-means
returns-in_ok-sub-in-Instance-clause-means c = λ t d tree sub.
    let f = book_means c.args.book.now in
    let given = c.in_ok-sub-in-Instance.ensures in
    instance-then f (book_means c.followed.new.book) given.extends.rows c.in-Instance.below c.in-Instance.first c.in_ok-sub-in-Instance.sub t d
    (subst (λ r. IsRead f r t) c.in-Instance.is (c.in_ok-index.ensures t tree)) (λ e is. given.means e d is sub)

pub returns-in_ok-opened-in-Operator-clause-means : goal.returns-in_ok-opened-in-Operator-clause-means
returns-in_ok-opened-in-Operator-clause-means c = λ t d tree sub.
    let f = book_means c.args.book.now in
    let over = subst (λ r. IsRead f r t) c.in-Operator.is (c.in_ok-index.ensures t tree) in
    c.in_ok-opened-in-Operator.ensures.means t d (subst (λ rows. IsOver f c.in-Operator.op rows t) (sym c.as_slice.ensures.value) over) sub
