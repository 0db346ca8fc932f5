-- How readings of kids make those of operators over them.
use Rattle.std.proofs.Common.{◌≡◌, ℕ, suc, ◌+◌, Bool, true, false, ◌&&◌, ◌||◌, List, Some, None, refl, sym, ◌∙◌, ap, ap₂}
use Rattle.std.specs.Prelude.{IsTrue}
use Rattle.std.proofs.lemmas.Bool.{and_parts}
use Rattle.trees.specs.declared.op.Op.TheVariants as op
use Rattle.trees.specs.Trees.{Tree, Var, Make, NoTrees, More}
use Rattle.trees.specs.Judgements.{Context, WithName}
use Rattle.points.specs.Values.{Value, free_value, negation, meet, join, Valuation, value_at}
use Rattle.points.specs.Points.{Point, with_free, valuation_of}
use Rattle.interval.specs.declared.literals.Literal.{Literal}
use Rattle.interval.specs.Forms.{form_value}
use Rattle.faces.specs.declared.equations.Equation.{Equation}
use Rattle.faces.specs.Equations.{equals_end}
use Rattle.faces.specs.Faces.{face_truth}
use Rattle.side_conditions.specs.declared.reading.Reading.{Reading}
use Rattle.side_conditions.specs.declared.reading.Reading.TheVariants as reading
use Rattle.conditions.specs.Sides.{is_name, is_formula, is_face, value, is_true}
use Rattle.side_conditions.specs.Levels.{count_indices, point_by_index}
use Rattle.side_conditions.specs.Readings.{IsFormOf, IsFaceOf, IsKindOf, IsValueOf, is_readable, form_in, face_in}
use Rattle.side_conditions.proofs.LevelLaws.{by_index-at, valuation-by_index, free-by_index}

-- no tree is both
pub apart : (G : Context) (t : Tree) → is_formula G t ≡ true → is_face G t ≡ true → ⊥
apart G (Var k) h i = cc
apart G (Make op.I0 NoTrees) h i = cc
apart G (Make op.I1 NoTrees) h i = cc
apart G (Make op.Neg (More r NoTrees)) h i = cc
apart G (Make op.Min (More r (More s NoTrees))) h i = cc
apart G (Make op.Max (More r (More s NoTrees))) h i = cc
apart G _ h i = cc

first_or : (a : Bool) → (a || false) ≡ true → a ≡ true
first_or true h = refl
first_or false h = h

pub name_reading : (G : Context) (k level : ℕ) (form : List (List Literal)) → ((v : Valuation) → form_value form v ≡ value_at v level) → count_indices G ≡ suc (level + k) → IsTrue (is_name G k) → IsFormOf G (Var k) form
name_reading G k level form e count name = record {
  is_one = name;
  value_is = λ v. e v ∙ sym (by_index-at free_value (count_indices G) v k level count);
}

pub neg_reading : (kid : Reading) (form new : List (List Literal)) → Some form ≡ form_in kid → ((v : Valuation) → form_value new v ≡ negation (form_value form v)) → (G : Context) (t : Tree) → IsValueOf G t kid → IsFormOf G (Make op.Neg (More t NoTrees)) new
neg_reading (reading.Form old) form new is e G t r =
    let same : form ≡ old = cc in
    record { is_one = r.is_one; value_is = λ v. e v ∙ ap (λ f. negation (form_value f v)) same ∙ ap negation (r.value_is v) }
neg_reading (reading.Face face) form new is e G t r = cc

value_by_point : (G : Context) (t : Tree) (form : List (List Literal)) → IsFormOf G t form → (x : Point) → form_value form (valuation_of x) ≡ value (valuation_of (point_by_index G x)) t
value_by_point G t form r x = r.value_is (valuation_of x) ∙ ap (λ v. value v t) (sym (valuation-by_index (count_indices G) x))

pub is_zero_reading : (kid : Reading) (form : List (List Literal)) (new : List (List Equation)) → Some form ≡ form_in kid → ((x : Point) → face_truth new x ≡ equals_end (form_value form (valuation_of x)) false) → (G : Context) (t : Tree) → IsValueOf G t kid → IsFaceOf G (Make op.Eq0 (More t NoTrees)) new
is_zero_reading (reading.Form old) form new is e G t r =
    let same : form ≡ old = cc in
    record { is_one = r.is_one; truth_is = λ x. e x ∙ ap (λ f. (form_value f (valuation_of x)).fails) same ∙ ap (λ (v : Value). v.fails) (value_by_point G t old r x) }
is_zero_reading (reading.Face face) form new is e G t r = cc

pub is_one_reading : (kid : Reading) (form : List (List Literal)) (new : List (List Equation)) → Some form ≡ form_in kid → ((x : Point) → face_truth new x ≡ equals_end (form_value form (valuation_of x)) true) → (G : Context) (t : Tree) → IsValueOf G t kid → IsFaceOf G (Make op.Eq1 (More t NoTrees)) new
is_one_reading (reading.Form old) form new is e G t r =
    let same : form ≡ old = cc in
    record { is_one = r.is_one; truth_is = λ x. e x ∙ ap (λ f. (form_value f (valuation_of x)).holds) same ∙ ap (λ (v : Value). v.holds) (value_by_point G t old r x) }
is_one_reading (reading.Face face) form new is e G t r = cc

pub all_reading : (kid : Reading) (face new : List (List Equation)) (level : ℕ) → Some face ≡ face_in kid → ((x : Point) → face_truth new x ≡ face_truth face (with_free level x)) → (G : Context) (t : Tree) → level ≡ count_indices G → IsValueOf (WithName G) t kid → IsFaceOf G (Make op.All (More t NoTrees)) new
all_reading (reading.Form form) face new level is e G t count r = cc
all_reading (reading.Face old) face new level is e G t count r =
    let same : face ≡ old = cc in
    record {
      is_one = r.is_one;
      truth_is = λ x.
          e x
          ∙ ap₂ (λ f n. face_truth f (with_free n x)) same count
          ∙ r.truth_is (with_free (count_indices G) x)
          ∙ ap (λ y. is_true y t) (free-by_index (count_indices G) x);
    }

pub min_reading : (left right : Reading) (a b new : List (List Literal)) → Some a ≡ form_in left → Some b ≡ form_in right → ((v : Valuation) → form_value new v ≡ meet (form_value a v) (form_value b v)) → (G : Context) (s t : Tree) → IsValueOf G s left → IsValueOf G t right → IsFormOf G (Make op.Min (More s (More t NoTrees))) new
min_reading (reading.Form f) (reading.Form g) a b new p q e G s t l r =
    let same : a ≡ f = cc in
    let also : b ≡ g = cc in
    record {
      is_one = ap₂ ◌&&◌ l.is_one r.is_one;
      value_is = λ v. e v ∙ ap₂ (λ x y. meet (form_value x v) (form_value y v)) same also ∙ ap₂ meet (l.value_is v) (r.value_is v);
    }
min_reading (reading.Form f) (reading.Face g) a b new p q e G s t l r = cc
min_reading (reading.Face f) right a b new p q e G s t l r = cc

pub max_reading : (left right : Reading) (a b new : List (List Literal)) → Some a ≡ form_in left → Some b ≡ form_in right → ((v : Valuation) → form_value new v ≡ join (form_value a v) (form_value b v)) → (G : Context) (s t : Tree) → IsValueOf G s left → IsValueOf G t right → IsFormOf G (Make op.Max (More s (More t NoTrees))) new
max_reading (reading.Form f) (reading.Form g) a b new p q e G s t l r =
    let same : a ≡ f = cc in
    let also : b ≡ g = cc in
    record {
      is_one = ap₂ ◌&&◌ l.is_one r.is_one;
      value_is = λ v. e v ∙ ap₂ (λ x y. join (form_value x v) (form_value y v)) same also ∙ ap₂ join (l.value_is v) (r.value_is v);
    }
max_reading (reading.Form f) (reading.Face g) a b new p q e G s t l r = cc
max_reading (reading.Face f) right a b new p q e G s t l r = cc

pub meet_reading : (left right : Reading) (a b new : List (List Equation)) → Some a ≡ face_in left → Some b ≡ face_in right → ((x : Point) → face_truth new x ≡ (face_truth a x && face_truth b x)) → (G : Context) (s t : Tree) → IsValueOf G s left → IsValueOf G t right → IsFaceOf G (Make op.Meet (More s (More t NoTrees))) new
meet_reading (reading.Face f) (reading.Face g) a b new p q e G s t l r =
    let same : a ≡ f = cc in
    let also : b ≡ g = cc in
    record {
      is_one = ap₂ ◌&&◌ l.is_one r.is_one;
      truth_is = λ x. e x ∙ ap₂ (λ y z. face_truth y x && face_truth z x) same also ∙ ap₂ ◌&&◌ (l.truth_is x) (r.truth_is x);
    }
meet_reading (reading.Face f) (reading.Form g) a b new p q e G s t l r = cc
meet_reading (reading.Form f) right a b new p q e G s t l r = cc

pub join_reading : (left right : Reading) (a b new : List (List Equation)) → Some a ≡ face_in left → Some b ≡ face_in right → ((x : Point) → face_truth new x ≡ (face_truth a x || face_truth b x)) → (G : Context) (s t : Tree) → IsValueOf G s left → IsValueOf G t right → IsFaceOf G (Make op.Join (More s (More t NoTrees))) new
join_reading (reading.Face f) (reading.Face g) a b new p q e G s t l r =
    let same : a ≡ f = cc in
    let also : b ≡ g = cc in
    record {
      is_one = ap₂ ◌&&◌ l.is_one r.is_one;
      truth_is = λ x. e x ∙ ap₂ (λ y z. face_truth y x || face_truth z x) same also ∙ ap₂ ◌||◌ (l.truth_is x) (r.truth_is x);
    }
join_reading (reading.Face f) (reading.Form g) a b new p q e G s t l r = cc
join_reading (reading.Form f) right a b new p q e G s t l r = cc

-- a kid of the wrong kind

pub no_form : (kid : Reading) → None ≡ form_in kid → (G : Context) (t : Tree) → IsKindOf G t kid → is_formula G t ≡ true → ⊥
no_form (reading.Form form) none G t r h = cc
no_form (reading.Face face) none G t r h = apart G t h r

pub no_face : (kid : Reading) → None ≡ face_in kid → (G : Context) (t : Tree) → IsKindOf G t kid → is_face G t ≡ true → ⊥
no_face (reading.Form form) none G t r h = apart G t r h
no_face (reading.Face face) none G t r h = cc

pub neg_unread : (kid : Reading) → None ≡ form_in kid → (G : Context) (t : Tree) → IsKindOf G t kid → IsTrue (is_readable G (Make op.Neg (More t NoTrees))) → ⊥
neg_unread kid none G t r h = no_form kid none G t r (first_or (is_formula G t) h)

pub min_unread : (G : Context) (s t : Tree) → (is_formula G s ≡ true → is_formula G t ≡ true → ⊥) → IsTrue (is_readable G (Make op.Min (More s (More t NoTrees)))) → ⊥
min_unread G s t never h =
    let both = and_parts (is_formula G s) (is_formula G t) (first_or (is_formula G s && is_formula G t) h) in
    never both.0 both.1

pub max_unread : (G : Context) (s t : Tree) → (is_formula G s ≡ true → is_formula G t ≡ true → ⊥) → IsTrue (is_readable G (Make op.Max (More s (More t NoTrees)))) → ⊥
max_unread G s t never h =
    let both = and_parts (is_formula G s) (is_formula G t) (first_or (is_formula G s && is_formula G t) h) in
    never both.0 both.1

pub faces_unread : (G : Context) (s t : Tree) → (is_face G s ≡ true → is_face G t ≡ true → ⊥) → (is_face G s && is_face G t) ≡ true → ⊥
faces_unread G s t never h = let both = and_parts (is_face G s) (is_face G t) h in never both.0 both.1

-- kinds of kids
pub formula_kind : (kid : Reading) (form : List (List Literal)) → Some form ≡ form_in kid → (G : Context) (t : Tree) → IsKindOf G t kid → is_formula G t ≡ true
formula_kind (reading.Form old) form is G t k = k
formula_kind (reading.Face face) form is G t k = cc

pub face_kind : (kid : Reading) (face : List (List Equation)) → Some face ≡ face_in kid → (G : Context) (t : Tree) → IsKindOf G t kid → is_face G t ≡ true
face_kind (reading.Form form) face is G t k = cc
face_kind (reading.Face old) face is G t k = k
