use Rattle.std.proofs.Common.{◌≡◌, refl, sym, ◌∙◌}
use Rattle.book.specs.Shown.{book_means}
use Rattle.book.proofs.FitLaws.{extends-trans}
use Rattle.trails.proofs.EquationLaws.{agrees}
use Rattle.trails.proofs.GoesLaws.{normal-goes}
use Rattle.trails.proofs.glued.right_sides.Goals as goal

pub returns-then-not-branch-clause-goes : goal.returns-then-not-branch-clause-goes
returns-then-not-branch-clause-goes c = λ C m n s i j stands q way.
    let told = c.in_ok-is_of.ensures.is i.ctx s.ctx i.left s.left i.ctx_is stands.ctx i.left_is stands.left in
    let h = agrees (book_means c.args.book.now) C m c.args.from_left i s.ctx s.left q.left way.left in
    let wrong = sym c.if-not-branch.true ∙ told.1 (h.alike, h.tree) in
    cc

pub returns-then-not-branch-2-clause-extends : goal.returns-then-not-branch-2-clause-extends
returns-then-not-branch-2-clause-extends c = extends-trans _ _ _ c.in_ok-is_of.ensures.extends c.in_ok-is_of-2.ensures.extends

pub returns-then-not-branch-2-clause-goes : goal.returns-then-not-branch-2-clause-goes
returns-then-not-branch-2-clause-goes c = λ C m n s i j stands q way.
    let a = c.in_ok-is_of.ensures.extends.rows in
    let told = c.in_ok-is_of-2.ensures.is j.ctx s.ctx j.left s.right (a.keeps _ _ j.ctx_is) (a.keeps _ _ stands.ctx) (a.keeps _ _ j.left_is) (a.keeps _ _ stands.right) in
    let h = agrees (book_means c.args.book.now) C n c.args.from_right j s.ctx s.right q.right way.right in
    let wrong = sym c.if-not-branch-2.true ∙ told.1 (h.alike, h.tree) in
    cc

pub returns-clause-extends : goal.returns-clause-extends
returns-clause-extends c = extends-trans _ _ _ c.in_ok-is_of.ensures.extends c.in_ok-is_of-2.ensures.extends

pub returns-clause-goes : goal.returns-clause-goes
returns-clause-goes c = λ C m n s i j stands.
    let f = book_means c.args.book.now in
    let a = c.in_ok-is_of.ensures.extends.rows in
    let b = c.in_ok-is_of-2.ensures.extends.rows in
    let left = (c.in_ok-is_of.ensures.is i.ctx s.ctx i.left s.left i.ctx_is stands.ctx i.left_is stands.left).0 c.if-not-branch.false in
    let right = (c.in_ok-is_of-2.ensures.is j.ctx s.ctx j.left s.right (a.keeps _ _ j.ctx_is) (a.keeps _ _ stands.ctx) (a.keeps _ _ j.left_is) (a.keeps _ _ stands.right)).0 c.if-not-branch-2.false in
    normal-goes f _ C m n c.args.from_left c.args.from_right i j s _ left right
    (b.keeps _ _ (a.keeps _ _ stands.ctx)) (b.keeps _ _ (a.keeps _ _ i.right_is)) (b.keeps _ _ (a.keeps _ _ j.right_is)) refl
