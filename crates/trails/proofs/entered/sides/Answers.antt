use Rattle.std.proofs.Common.{refl, subst, sym, ◌∙◌}
use Rattle.book.specs.Shown.{book_means}
use Rattle.book.proofs.FitLaws.{extends-trans}
use Rattle.trails.specs.Kids.{HasKid, kid}
use Rattle.trails.specs.Openings.{Finds}
use Rattle.trails.specs.Rows.{IsListedOr}
use Rattle.trails.specs.Trails.{HaveOne, HasConjunction, conjunction, HasSide, side}
use Rattle.trails.proofs.StepLaws.{side-unlisted, side-plain, side-faces, side-no_conjunction, side-no_left, side-no_right}
use Rattle.trails.proofs.StationLaws.{stands-kept}
use Rattle.trails.proofs.GoesLaws.{side-goes}
use Rattle.trails.proofs.entered.sides.Goals as goal

pub returns-in_default-clause-goes : goal.returns-in_default-clause-goes
returns-in_default-clause-goes c = λ s stands.
    side-unlisted c.args.at c.args.number s (subst (IsListedOr c.args.at s.left) c.in_default.is (c.in_ok-found.ensures.listed s.left stands.left))

pub returns-in_default-face-clause-goes : goal.returns-in_default-face-clause-goes
returns-in_default-face-clause-goes c = λ s stands.
    let listed = subst (IsListedOr c.args.at s.left) c.in-Some.is (c.in_ok-found.ensures.listed s.left stands.left) in
    side-plain c.args.at c.args.number s c.in-Some.found listed (sym c.face.ensures ∙ c.in_default-face.is)

pub returns-in_default-2-clause-extends : goal.returns-in_default-2-clause-extends
returns-in_default-2-clause-extends c = extends-trans _ _ _ c.in_ok-found.ensures.extends c.in_ok-face.ensures.extends

pub returns-in_default-2-clause-goes : goal.returns-in_default-2-clause-goes
returns-in_default-2-clause-goes c = λ s stands.
    let found = c.in-Some.found in
    let place = c.in-Some-face.place in
    let a = c.in_ok-found.ensures.extends.rows in
    let listed = subst (IsListedOr c.args.at s.left) c.in-Some.is (c.in_ok-found.ensures.listed s.left stands.left) in
    let faced = sym c.face.ensures ∙ c.in-Some-face.is in
    side-faces c.args.at c.args.number place s found listed faced
    (subst (λ o. Finds (book_means c.one_kid.new.book) o (HaveOne found.op place s) (kid place s.left)) c.in_default-2.is
    (c.in_ok-face.ensures.finds s (stands-kept _ _ a _ _ stands)))

pub returns-in_default-3-clause-extends : goal.returns-in_default-3-clause-extends
returns-in_default-3-clause-extends c = extends-trans _ _ _ c.in_ok-found.ensures.extends (extends-trans _ _ _ c.in_ok-face.ensures.extends c.in_ok-there.ensures.extends)

pub returns-in_default-3-clause-goes : goal.returns-in_default-3-clause-goes
returns-in_default-3-clause-goes c = λ s stands.
    let k = c.args.at in
    let n = c.args.number in
    let found = c.in-Some.found in
    let place = c.in-Some-face.place in
    let listed = subst (IsListedOr k s.left) c.in-Some.is (c.in_ok-found.ensures.listed s.left stands.left) in
    let faced = sym c.face.ensures ∙ c.in-Some-face.is in
    let at_face = stands-kept _ _ c.in_ok-found.ensures.extends.rows _ _ stands in
    let one = subst (λ o. Finds (book_means c.one_kid.new.book) o (HaveOne found.op place s) (kid place s.left)) c.in-Some-2.is (c.in_ok-face.ensures.finds s at_face) in
    let there = subst (λ o. Finds (book_means c.conjunction.new.book) o (HasConjunction n (kid place s.left)) (conjunction n (kid place s.left))) c.in_default-3.is (c.in_ok-there.ensures.finds (kid place s.left) one.1) in
    side-no_conjunction k n place s found listed faced there

pub returns-in_default-4-clause-extends : goal.returns-in_default-4-clause-extends
returns-in_default-4-clause-extends c = extends-trans _ _ _ c.in_ok-found.ensures.extends (extends-trans _ _ _ c.in_ok-face.ensures.extends (extends-trans _ _ _ c.in_ok-there.ensures.extends c.in_ok-left.ensures.extends))

pub returns-in_default-4-clause-goes : goal.returns-in_default-4-clause-goes
returns-in_default-4-clause-goes c = λ s stands.
    let k = c.args.at in
    let n = c.args.number in
    let found = c.in-Some.found in
    let place = c.in-Some-face.place in
    let listed = subst (IsListedOr k s.left) c.in-Some.is (c.in_ok-found.ensures.listed s.left stands.left) in
    let faced = sym c.face.ensures ∙ c.in-Some-face.is in
    let at_face = stands-kept _ _ c.in_ok-found.ensures.extends.rows _ _ stands in
    let one = subst (λ o. Finds (book_means c.one_kid.new.book) o (HaveOne found.op place s) (kid place s.left)) c.in-Some-2.is (c.in_ok-face.ensures.finds s at_face) in
    let there = subst (λ o. Finds (book_means c.conjunction.new.book) o (HasConjunction n (kid place s.left)) (conjunction n (kid place s.left))) c.in-Some-3.is (c.in_ok-there.ensures.finds (kid place s.left) one.1) in
    let at_left = stands-kept _ _ c.in_ok-there.ensures.extends.rows _ _ (stands-kept _ _ c.in_ok-face.ensures.extends.rows _ _ at_face) in
    let left = subst (λ o. Finds (book_means c.side_of.new.book) o (HasKid found.op k s.left × HasSide n (kid k s.left)) (side n (kid k s.left))) c.in_default-4.is (c.in_ok-left.ensures.finds s.left at_left.left) in
    side-no_left k n s found listed left

pub returns-in_default-5-clause-extends : goal.returns-in_default-5-clause-extends
returns-in_default-5-clause-extends c = extends-trans _ _ _ c.in_ok-found.ensures.extends (extends-trans _ _ _ c.in_ok-face.ensures.extends (extends-trans _ _ _ c.in_ok-there.ensures.extends (extends-trans _ _ _ c.in_ok-left.ensures.extends c.in_ok-right.ensures.extends)))

pub returns-in_default-5-clause-goes : goal.returns-in_default-5-clause-goes
returns-in_default-5-clause-goes c = λ s stands.
    let k = c.args.at in
    let n = c.args.number in
    let found = c.in-Some.found in
    let place = c.in-Some-face.place in
    let listed = subst (IsListedOr k s.left) c.in-Some.is (c.in_ok-found.ensures.listed s.left stands.left) in
    let faced = sym c.face.ensures ∙ c.in-Some-face.is in
    let at_face = stands-kept _ _ c.in_ok-found.ensures.extends.rows _ _ stands in
    let one = subst (λ o. Finds (book_means c.one_kid.new.book) o (HaveOne found.op place s) (kid place s.left)) c.in-Some-2.is (c.in_ok-face.ensures.finds s at_face) in
    let there = subst (λ o. Finds (book_means c.conjunction.new.book) o (HasConjunction n (kid place s.left)) (conjunction n (kid place s.left))) c.in-Some-3.is (c.in_ok-there.ensures.finds (kid place s.left) one.1) in
    let at_left = stands-kept _ _ c.in_ok-there.ensures.extends.rows _ _ (stands-kept _ _ c.in_ok-face.ensures.extends.rows _ _ at_face) in
    let left = subst (λ o. Finds (book_means c.side_of.new.book) o (HasKid found.op k s.left × HasSide n (kid k s.left)) (side n (kid k s.left))) c.in-Some-4.is (c.in_ok-left.ensures.finds s.left at_left.left) in
    let at_right = stands-kept _ _ c.in_ok-left.ensures.extends.rows _ _ at_left in
    let right = subst (λ o. Finds (book_means c.side_of-2.new.book) o (HasKid found.op k s.right × HasSide n (kid k s.right)) (side n (kid k s.right))) c.in_default-5.is (c.in_ok-right.ensures.finds s.right at_right.right) in
    side-no_right k n s found listed right

pub returns-clause-extends : goal.returns-clause-extends
returns-clause-extends c = extends-trans _ _ _ c.in_ok-found.ensures.extends (extends-trans _ _ _ c.in_ok-face.ensures.extends (extends-trans _ _ _ c.in_ok-there.ensures.extends (extends-trans _ _ _ c.in_ok-left.ensures.extends (extends-trans _ _ _ c.in_ok-right.ensures.extends c.in_ok-ctx.ensures.extends))))

pub returns-clause-goes : goal.returns-clause-goes
returns-clause-goes c = λ s stands.
    let k = c.args.at in
    let n = c.args.number in
    let found = c.in-Some.found in
    let place = c.in-Some-face.place in
    let listed = subst (IsListedOr k s.left) c.in-Some.is (c.in_ok-found.ensures.listed s.left stands.left) in
    let faced = sym c.face.ensures ∙ c.in-Some-face.is in
    let at_face = stands-kept _ _ c.in_ok-found.ensures.extends.rows _ _ stands in
    let one = subst (λ o. Finds (book_means c.one_kid.new.book) o (HaveOne found.op place s) (kid place s.left)) c.in-Some-2.is (c.in_ok-face.ensures.finds s at_face) in
    let there = subst (λ o. Finds (book_means c.conjunction.new.book) o (HasConjunction n (kid place s.left)) (conjunction n (kid place s.left))) c.in-Some-3.is (c.in_ok-there.ensures.finds (kid place s.left) one.1) in
    let at_left = stands-kept _ _ c.in_ok-there.ensures.extends.rows _ _ (stands-kept _ _ c.in_ok-face.ensures.extends.rows _ _ at_face) in
    let left = subst (λ o. Finds (book_means c.side_of.new.book) o (HasKid found.op k s.left × HasSide n (kid k s.left)) (side n (kid k s.left))) c.in-Some-4.is (c.in_ok-left.ensures.finds s.left at_left.left) in
    let at_right = stands-kept _ _ c.in_ok-left.ensures.extends.rows _ _ at_left in
    let right = subst (λ o. Finds (book_means c.side_of-2.new.book) o (HasKid found.op k s.right × HasSide n (kid k s.right)) (side n (kid k s.right))) c.in-Some-5.is (c.in_ok-right.ensures.finds s.right at_right.right) in
    let at_ctx = stands-kept _ _ c.in_ok-right.ensures.extends.rows _ _ at_right in
    let later = c.in_ok-ctx.ensures.extends.rows in
    let face = c.in_ok-right.ensures.extends.rows.keeps _ _ (c.in_ok-left.ensures.extends.rows.keeps _ _ there.1) in
    side-goes _ k n place s found _ listed faced one.0 there.0 left.0 right.0
    (c.in_ok-ctx.ensures.means s.ctx (conjunction n (kid place s.left)) at_ctx.ctx face)
    (later.keeps _ _ (c.in_ok-right.ensures.extends.rows.keeps _ _ left.1)) (later.keeps _ _ right.1) refl
