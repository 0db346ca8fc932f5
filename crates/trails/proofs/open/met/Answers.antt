use Rattle.std.proofs.Common.{subst, sym, ◌∙◌, arith}
use Rattle.trees.specs.Trees.{shift_by}
use Rattle.book.specs.Shown.{book_means}
use Rattle.trails.specs.Openings.{IsSubstOr}
use Rattle.trails.proofs.RowLaws.{same-subst, then-parts}
use Rattle.trails.proofs.OpeningLaws.{met-shift, met-then}
use Rattle.trails.proofs.open.met.Goals as goal

pub returns-in-Some-Some-clause-means : goal.returns-in-Some-Some-clause-means
returns-in-Some-Some-clause-means c = λ d e sub rest.
    let f = book_means c.args.book.now in
    let is = same-subst d (shift_by c.in-Shift.by) (sym sub ∙ c.in-Shift.ensures.meaning) in
    met-shift f c.in-Shift.by c.args.index c.in-Some-Some.index c.in-Some-Some.rest d e is (omega (arith, c.in-Some-Some.ensures))
    (subst (λ o. IsSubstOr f o e) c.in-Some-Some.is-1 rest)

pub returns-in_ok-rest-in-Then-clause-means : goal.returns-in_ok-rest-in-Then-clause-means
returns-in_ok-rest-in-Then-clause-means c = λ d e sub rest.
    let f = book_means c.args.book.now in
    let g = book_means c.followed.new.book in
    let b = then-parts f c.in-Then.field-0.0 c.in-Then.field-1.0 d (sym c.in-Then.ensures.meaning ∙ sub) in
    met-then g c.args.index c.in-Then.field-0.0 c.in_ok-rest-in-Then.rest d b.first b.second e b.whole
    (c.in_ok-rest-in-Then.ensures.extends.rows.keeps _ _ b.first_is)
    (c.in_ok-rest-in-Then.ensures.means b.second e b.second_is rest)
