use Rattle.trees.specs.Judgements.{WithName}
use Rattle.side_conditions.proofs.CombineLaws.{neg_reading, is_zero_reading, is_one_reading, all_reading, formula_kind, face_kind}
use Rattle.side_conditions.proofs.reading.Reading.of_unary.Goals as goal

pub returns-in_ok-neg-in-Some : goal.returns-in_ok-neg-in-Some
returns-in_ok-neg-in-Some c = rw c.in-Neg.is (λ d G t level r. (
  formula_kind c.args.kid.now c.in-Some.form.now c.in-Some.ensures G t r.0,
  λ v.
      neg_reading c.args.kid.now c.in-Some.form.now c.in_ok-neg-in-Some.field-0 c.in-Some.ensures c.in_ok-neg-in-Some.ensures G t (r.1 v),
))

pub returns-in_ok-eq-in-Some-form : goal.returns-in_ok-eq-in-Some-form
returns-in_ok-eq-in-Some-form c = rw c.in-IsZero.is (λ d G t level r. (
  formula_kind c.args.kid.now c.in-Some-form.form.now c.in-Some-form.ensures G t r.0,
  λ v.
      is_zero_reading c.args.kid.now c.in-Some-form.form.now c.in_ok-eq-in-Some-form.field-0 c.in-Some-form.ensures c.in_ok-eq-in-Some-form.ensures G t (r.1 v),
))

pub returns-in_ok-eq-in-Some-form-2 : goal.returns-in_ok-eq-in-Some-form-2
returns-in_ok-eq-in-Some-form-2 c = rw c.in-IsOne.is (λ d G t level r. (
  formula_kind c.args.kid.now c.in-Some-form-2.form.now c.in-Some-form-2.ensures G t r.0,
  λ v.
      is_one_reading c.args.kid.now c.in-Some-form-2.form.now c.in_ok-eq-in-Some-form-2.field-0 c.in-Some-form-2.ensures c.in_ok-eq-in-Some-form-2.ensures G t (r.1 v),
))

pub returns-in_ok-forall-in-Some-face : goal.returns-in_ok-forall-in-Some-face
returns-in_ok-forall-in-Some-face c = rw c.in-All.is (λ d G t level r. (
  face_kind c.args.kid.now c.in-Some-face.face.now c.in-Some-face.ensures (WithName G) t r.0,
  λ v.
      all_reading c.args.kid.now c.in-Some-face.face.now c.in_ok-forall-in-Some-face.field-0 c.args.level c.in-Some-face.ensures c.in_ok-forall-in-Some-face.ensures.truth G t level (r.1 v),
))
