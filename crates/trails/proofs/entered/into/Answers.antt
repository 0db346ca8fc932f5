use Rattle.std.proofs.Common.{subst, sym, ◌∙◌}
use Rattle.book.specs.Shown.{book_means}
use Rattle.book.proofs.FitLaws.{extends-trans}
use Rattle.trails.specs.Kids.{HasKid, kid}
use Rattle.trails.specs.Openings.{Finds}
use Rattle.trails.specs.Rows.{IsListedOr}
use Rattle.trails.proofs.StepLaws.{into-unlisted, into-faced, into-no_left, into-no_right}
use Rattle.trails.proofs.GoesLaws.{into-goes}
use Rattle.trails.proofs.entered.into.Goals as goal

pub returns-in_default-clause-goes : goal.returns-in_default-clause-goes
returns-in_default-clause-goes c = λ s stands.
    into-unlisted c.args.at s (subst (IsListedOr c.args.at s.left) c.in_default.is (c.in_ok-found.ensures.listed s.left stands.left))

pub returns-in_default-sort-clause-goes : goal.returns-in_default-sort-clause-goes
returns-in_default-sort-clause-goes c = λ s stands.
    let listed = subst (IsListedOr c.args.at s.left) c.in-Some.is (c.in_ok-found.ensures.listed s.left stands.left) in
    into-faced c.args.at s c.in-Some.found listed (sym c.sort.ensures ∙ c.in_default-sort.is)

pub returns-in_default-2-clause-extends : goal.returns-in_default-2-clause-extends
returns-in_default-2-clause-extends c = extends-trans _ _ _ c.in_ok-found.ensures.extends c.in_ok-left.ensures.extends

pub returns-in_default-2-clause-goes : goal.returns-in_default-2-clause-goes
returns-in_default-2-clause-goes c = λ s stands.
    let k = c.args.at in
    let found = c.in-Some.found in
    let a = c.in_ok-found.ensures.extends.rows in
    let listed = subst (IsListedOr k s.left) c.in-Some.is (c.in_ok-found.ensures.listed s.left stands.left) in
    into-no_left k s found listed
    (subst (λ o. Finds (book_means c.kid_of.new.book) o (HasKid found.op k s.left) (kid k s.left)) c.in_default-2.is (c.in_ok-left.ensures.kid s.left (a.keeps _ _ stands.left)))

pub returns-in_default-3-clause-extends : goal.returns-in_default-3-clause-extends
returns-in_default-3-clause-extends c =
    extends-trans _ _ _ c.in_ok-found.ensures.extends (extends-trans _ _ _ c.in_ok-left.ensures.extends c.in_ok-right.ensures.extends)

pub returns-in_default-3-clause-goes : goal.returns-in_default-3-clause-goes
returns-in_default-3-clause-goes c = λ s stands.
    let k = c.args.at in
    let found = c.in-Some.found in
    let a = c.in_ok-found.ensures.extends.rows in
    let b = c.in_ok-left.ensures.extends.rows in
    let listed = subst (IsListedOr k s.left) c.in-Some.is (c.in_ok-found.ensures.listed s.left stands.left) in
    into-no_right k s found listed
    (subst (λ o. Finds (book_means c.kid_of-2.new.book) o (HasKid found.op k s.right) (kid k s.right)) c.in_default-3.is (c.in_ok-right.ensures.kid s.right (b.keeps _ _ (a.keeps _ _ stands.right))))

pub returns-clause-extends : goal.returns-clause-extends
returns-clause-extends c =
    extends-trans _ _ _ c.in_ok-found.ensures.extends
    (extends-trans _ _ _ c.in_ok-left.ensures.extends (extends-trans _ _ _ c.in_ok-right.ensures.extends c.in_ok-ctx.ensures.extends))

pub returns-clause-goes : goal.returns-clause-goes
returns-clause-goes c = λ s stands.
    let k = c.args.at in
    let found = c.in-Some.found in
    let a = c.in_ok-found.ensures.extends.rows in
    let b = c.in_ok-left.ensures.extends.rows in
    let d = c.in_ok-right.ensures.extends.rows in
    let e = c.in_ok-ctx.ensures.extends.rows in
    let listed = subst (IsListedOr k s.left) c.in-Some.is (c.in_ok-found.ensures.listed s.left stands.left) in
    let left = subst (λ o. Finds (book_means c.kid_of.new.book) o (HasKid found.op k s.left) (kid k s.left)) c.in-Some-2.is (c.in_ok-left.ensures.kid s.left (a.keeps _ _ stands.left)) in
    let right = subst (λ o. Finds (book_means c.kid_of-2.new.book) o (HasKid found.op k s.right) (kid k s.right)) c.in-Some-3.is (c.in_ok-right.ensures.kid s.right (b.keeps _ _ (a.keeps _ _ stands.right))) in
    into-goes _ k s found _ listed (sym c.sort.ensures ∙ c.in-Some-sort.is) left.0 right.0
    (c.in_ok-ctx.ensures.means s.ctx s.left (d.keeps _ _ (b.keeps _ _ (a.keeps _ _ stands.ctx))) (d.keeps _ _ (b.keeps _ _ (a.keeps _ _ stands.left))))
    (e.keeps _ _ (d.keeps _ _ left.1)) (e.keeps _ _ right.1)
