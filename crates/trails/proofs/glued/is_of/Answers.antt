use Rattle.trails.proofs.glued.is_of.Goals as goal

pub returns-then-is_there-clause-is : goal.returns-then-is_there-clause-is
returns-then-is_there-clause-is c = λ G H a b there ctx left tree.
    let kept = c.in_ok-is_there.ensures.extends.rows in
    let first = c.in_ok-is_there.ensures.alike G H there ctx in
    let second = c.in_ok-is_this.ensures a b (kept.keeps _ _ left) (kept.keeps _ _ tree) in
    (λ told. (first.0 c.if-is_there.true, second.0 told), λ both. second.1 both.1)
