use Rattle.std.proofs.Common.{refl, subst, ◌∙◌}
use Rattle.trees.specs.declared.op.Op.TheVariants as op
use Rattle.book.specs.Shown.{book_means}
use Rattle.book.proofs.FitLaws.{extends-trans}
use Rattle.trails.specs.Kids.{HasKid, kid}
use Rattle.trails.specs.Openings.{Finds}
use Rattle.trails.proofs.StationLaws.{stands-kept, made-four}
use Rattle.trails.proofs.GoesLaws.{unglued-goes}
use Rattle.trails.proofs.glued.as_unglued.Goals as goal

pub returns-in_default-clause-unglued : goal.returns-in_default-clause-unglued
returns-in_default-clause-unglued c = λ a s tree stands q way.
    let face = subst (λ o. Finds (book_means c.kid_of.new.book) o (HasKid op.Unglue 0 a) (kid 0 a)) c.in_default.is (c.in_ok-face.ensures.kid a tree) in
    face way.face

pub returns-in_default-2-clause-extends : goal.returns-in_default-2-clause-extends
returns-in_default-2-clause-extends c = extends-trans _ _ _ c.in_ok-face.ensures.extends c.in_ok-types.ensures.extends

pub returns-in_default-2-clause-unglued : goal.returns-in_default-2-clause-unglued
returns-in_default-2-clause-unglued c = λ a s tree stands q way.
    let face = subst (λ o. Finds (book_means c.kid_of.new.book) o (HasKid op.Unglue 0 a) (kid 0 a)) c.in-Some.is (c.in_ok-face.ensures.kid a tree) in
    let types = subst (λ o. Finds (book_means c.kid_of-2.new.book) o (HasKid op.Unglue 1 a) (kid 1 a)) c.in_default-2.is (c.in_ok-types.ensures.kid a (c.in_ok-face.ensures.extends.rows.keeps _ _ tree)) in
    types way.types

pub returns-in_default-3-clause-extends : goal.returns-in_default-3-clause-extends
returns-in_default-3-clause-extends c = extends-trans _ _ _ c.in_ok-face.ensures.extends (extends-trans _ _ _ c.in_ok-types.ensures.extends c.in_ok-maps.ensures.extends)

pub returns-in_default-3-clause-unglued : goal.returns-in_default-3-clause-unglued
returns-in_default-3-clause-unglued c = λ a s tree stands q way.
    let face = subst (λ o. Finds (book_means c.kid_of.new.book) o (HasKid op.Unglue 0 a) (kid 0 a)) c.in-Some.is (c.in_ok-face.ensures.kid a tree) in
    let types = subst (λ o. Finds (book_means c.kid_of-2.new.book) o (HasKid op.Unglue 1 a) (kid 1 a)) c.in-Some-2.is (c.in_ok-types.ensures.kid a (c.in_ok-face.ensures.extends.rows.keeps _ _ tree)) in
    let maps = subst (λ o. Finds (book_means c.kid_of-3.new.book) o (HasKid op.Unglue 2 a) (kid 2 a)) c.in_default-3.is (c.in_ok-maps.ensures.kid a (c.in_ok-types.ensures.extends.rows.keeps _ _ (c.in_ok-face.ensures.extends.rows.keeps _ _ tree))) in
    maps way.maps

pub returns-clause-extends : goal.returns-clause-extends
returns-clause-extends c = extends-trans _ _ _ c.in_ok-face.ensures.extends (extends-trans _ _ _ c.in_ok-types.ensures.extends (extends-trans _ _ _ c.in_ok-maps.ensures.extends (extends-trans _ _ _ c.in_ok-left.ensures.extends c.in_ok-right.ensures.extends)))

pub returns-clause-unglued : goal.returns-clause-unglued
returns-clause-unglued c = λ a s tree stands.
    let face = subst (λ o. Finds (book_means c.kid_of.new.book) o (HasKid op.Unglue 0 a) (kid 0 a)) c.in-Some.is (c.in_ok-face.ensures.kid a tree) in
    let types = subst (λ o. Finds (book_means c.kid_of-2.new.book) o (HasKid op.Unglue 1 a) (kid 1 a)) c.in-Some-2.is (c.in_ok-types.ensures.kid a (c.in_ok-face.ensures.extends.rows.keeps _ _ tree)) in
    let maps = subst (λ o. Finds (book_means c.kid_of-3.new.book) o (HasKid op.Unglue 2 a) (kid 2 a)) c.in-Some-3.is (c.in_ok-maps.ensures.kid a (c.in_ok-types.ensures.extends.rows.keeps _ _ (c.in_ok-face.ensures.extends.rows.keeps _ _ tree))) in
    let y = c.in_ok-types.ensures.extends.rows in
    let z = c.in_ok-maps.ensures.extends.rows in
    let u = c.in_ok-left.ensures.extends.rows in
    let v = c.in_ok-right.ensures.extends.rows in
    let g = book_means c.kid_of-3.new.book in
    let h = book_means c.try_make.new.book in
    let before = stands-kept _ _ z _ _ (stands-kept _ _ y _ _ (stands-kept _ _ c.in_ok-face.ensures.extends.rows _ _ stands)) in
    let p = z.keeps _ _ (y.keeps _ _ face.1) in
    let t = z.keeps _ _ types.1 in
    let left = c.in_ok-left.ensures.means ∙ made-four g op.Unglue c.in-Some.face c.in-Some-2.types c.in-Some-3.maps c.args.station.left (kid 0 a) (kid 1 a) (kid 2 a) s.left refl p t maps.1 before.left in
    let right = c.in_ok-right.ensures.means ∙ made-four h op.Unglue c.in-Some.face c.in-Some-2.types c.in-Some-3.maps c.args.station.right (kid 0 a) (kid 1 a) (kid 2 a) s.right refl (u.keeps _ _ p) (u.keeps _ _ t) (u.keeps _ _ maps.1) (u.keeps _ _ before.right) in
    unglued-goes _ a s _ face.0 types.0 maps.0 record {
      ctx = v.keeps _ _ (u.keeps _ _ before.ctx);
      left = v.keeps _ _ left;
      right = right;
      is = before.is;
    }
