use Rattle.std.proofs.Common.{subst}
use Rattle.book.specs.Shown.{book_means, book_concludes}
use Rattle.book.proofs.FitLaws.{extends-trans}
use Rattle.trails.specs.Rows.{GoesOr, IsUngluedAs}
use Rattle.trails.specs.Trails.{unglued, AreNormal, AreBases}
use Rattle.trails.proofs.EquationLaws.{widens-equation, equation-kept, bases-tree, unglued-as, bases-from, bases-normal}
use Rattle.trails.proofs.GoesLaws.{goes_or-as}
use Rattle.trails.proofs.glued.bases.Goals as goal

pub returns-in_ok-right_sides-in-Some-clause-extends : goal.returns-in_ok-right_sides-in-Some-clause-extends
returns-in_ok-right_sides-in-Some-clause-extends c = extends-trans _ _ _ c.in_ok-unglued.ensures.extends c.in_ok-right_sides-in-Some.ensures.extends

pub returns-in_ok-right_sides-in-Some-clause-goes : goal.returns-in_ok-right_sides-in-Some-clause-goes
returns-in_ok-right_sides-in-Some-clause-goes c = λ C widens s stands.
    let f = book_means c.args.book.now in
    let g = book_means c.as_unglued.new.book in
    let old = book_concludes c.args.book.now in
    let m = c.args.left_node.0 in
    let n = c.args.right_node.0 in
    let l = c.in_ok-from_left.from_left in
    let r = c.in_ok-from_right.from_right in
    let i = widens-equation f old C widens m l c.in_ok-from_left.ensures in
    let j = widens-equation f old C widens n r c.in_ok-from_right.ensures in
    let kept = c.in_ok-unglued.ensures.extends.rows in
    let goes = subst (λ o. GoesOr g o (IsUngluedAs i.left s)) c.in-Some.is (c.in_ok-unglued.ensures.unglued i.left s i.left_is stands) in
    let t = goes.next in
    goes_or-as _ _ (AreNormal C m n t) (AreBases C m n s) (λ q normal. bases-from i.left C m n s t q goes.way normal)
    (λ q bases. bases-normal i.left C m n s t q goes.way bases (bases-tree f C m n l i s q bases))
    (c.in_ok-right_sides-in-Some.ensures.goes C m n t (equation-kept f g kept (C m) l i) (equation-kept f g kept (C n) r j) goes.stands)

pub returns-in-None-clause-goes : goal.returns-in-None-clause-goes
returns-in-None-clause-goes c = λ C widens s stands q bases.
    let f = book_means c.args.book.now in
    let g = book_means c.as_unglued.new.book in
    let old = book_concludes c.args.book.now in
    let m = c.args.left_node.0 in
    let n = c.args.right_node.0 in
    let l = c.in_ok-from_left.from_left in
    let i = widens-equation f old C widens m l c.in_ok-from_left.ensures in
    let none = subst (λ o. GoesOr g o (IsUngluedAs i.left s)) c.in-None.is (c.in_ok-unglued.ensures.unglued i.left s i.left_is stands) in
    none (unglued bases.face bases.types bases.maps s) (unglued-as i.left C m n s q bases (bases-tree f C m n l i s q bases))
