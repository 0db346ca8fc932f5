use Rattle.book.proofs.FitLaws.{extends-trans}
use Rattle.trails.proofs.ends.same_faces.Goals as goal

pub returns-then-there-clause-extends : goal.returns-then-there-clause-extends
returns-then-there-clause-extends c = extends-trans _ _ _ c.in_ok-there.ensures.extends c.in_ok-back.ensures.extends

pub returns-then-there-clause-same : goal.returns-then-there-clause-same
returns-then-there-clause-same c = λ G p q ctx left right.
    let kept = c.in_ok-there.ensures.extends.rows in
    let first = c.in_ok-there.ensures.follows G p q ctx left right in
    let second = c.in_ok-back.ensures.follows G q p (kept.keeps _ _ ctx) (kept.keeps _ _ right) (kept.keeps _ _ left) in
    (λ told. (first.0 c.if-there.true, second.0 told), λ both. second.1 both.1)

pub returns-else-there-clause-extends : goal.returns-else-there-clause-extends
returns-else-there-clause-extends c = extends-trans _ _ _ c.in_ok-there.ensures.extends c.in_ok-back.ensures.extends
