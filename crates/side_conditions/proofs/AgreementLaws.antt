-- What valuations and points say of names that a tree hasn't makes no difference to it.
use Rattle.std.proofs.Common.{◌≡◌, ℕ, zero, suc, ◌<◌, true, ◌&&◌, ◌||◌, [], ◌∷◌, drop, refl, sym, ◌∙◌, ap, ap₂, arith}
use Rattle.std.proofs.lemmas.Bool.{and_parts}
use Rattle.std.proofs.Math.ListN.{get_or-map}
use Rattle.trees.specs.declared.op.Op.TheVariants as op
use Rattle.trees.specs.Trees.{Tree, Var, Make, NoTrees, More}
use Rattle.trees.specs.Judgements.{Context, Nil, WithVar, WithName, WithFace}
use Rattle.points.specs.Values.{Value, negation, meet, join, Valuation, value_at}
use Rattle.points.specs.Points.{Point, Free, coordinate_value, valuation_of, coordinate_at}
use Rattle.conditions.specs.Sides.{is_name, is_formula, is_face, value, is_true, Satisfies}
use Rattle.side_conditions.specs.Levels.{count_indices}

abbrev pub SameValues : ℕ → Valuation → Valuation → Type 0
SameValues n v w = (k : ℕ) → k < n → value_at v k ≡ value_at w k

abbrev pub SameCoordinates : ℕ → Point → Point → Type 0
SameCoordinates n x y = (k : ℕ) → k < n → coordinate_at x k ≡ coordinate_at y k

pub name_within : (G : Context) (k : ℕ) → is_name G k ≡ true → k < count_indices G
name_within Nil k e = cc
name_within (WithVar G A) zero e = cc
name_within (WithVar G A) (suc k) e = let h = name_within G k e in omega arith
name_within (WithName G) zero e = omega arith
name_within (WithName G) (suc k) e = let h = name_within G k e in omega arith
name_within (WithFace G p) k e = name_within G k e

pub value-same : (G : Context) (v w : Valuation) → SameValues (count_indices G) v w → (r : Tree) → is_formula G r ≡ true → value v r ≡ value w r
value-same G v w same (Var k) h = same k (name_within G k h)
value-same G v w same (Make op.I0 NoTrees) h = refl
value-same G v w same (Make op.I1 NoTrees) h = refl
value-same G v w same (Make op.Neg (More r NoTrees)) h = ap negation (value-same G v w same r h)
value-same G v w same (Make op.Min (More r (More s NoTrees))) h =
    let p = and_parts (is_formula G r) (is_formula G s) h in
    ap₂ meet (value-same G v w same r p.0) (value-same G v w same s p.1)
value-same G v w same (Make op.Max (More r (More s NoTrees))) h =
    let p = and_parts (is_formula G r) (is_formula G s) h in
    ap₂ join (value-same G v w same r p.0) (value-same G v w same s p.1)
value-same G v w same _ h = cc

same_values : (n : ℕ) (x y : Point) → SameCoordinates n x y → SameValues n (valuation_of x) (valuation_of y)
same_values n x y same k lt =
    get_or-map coordinate_value x k Free ∙ ap coordinate_value (same k lt) ∙ sym (get_or-map coordinate_value y k Free)

one_more_free : (n : ℕ) (x y : Point) → SameCoordinates n x y → SameCoordinates (suc n) (Free ∷ x) (Free ∷ y)
one_more_free n x y same zero lt = refl
one_more_free n x y same (suc k) lt = same k (omega arith)

pub truth-same : (G : Context) (x y : Point) → SameCoordinates (count_indices G) x y → (p : Tree) → is_face G p ≡ true → is_true x p ≡ is_true y p
truth-same G x y same (Make op.F0 NoTrees) h = refl
truth-same G x y same (Make op.F1 NoTrees) h = refl
truth-same G x y same (Make op.Eq0 (More r NoTrees)) h =
    ap (λ (v : Value). v.fails) (value-same G (valuation_of x) (valuation_of y) (same_values (count_indices G) x y same) r h)
truth-same G x y same (Make op.Eq1 (More r NoTrees)) h =
    ap (λ (v : Value). v.holds) (value-same G (valuation_of x) (valuation_of y) (same_values (count_indices G) x y same) r h)
truth-same G x y same (Make op.Meet (More p (More q NoTrees))) h =
    let b = and_parts (is_face G p) (is_face G q) h in
    ap₂ ◌&&◌ (truth-same G x y same p b.0) (truth-same G x y same q b.1)
truth-same G x y same (Make op.Join (More p (More q NoTrees))) h =
    let b = and_parts (is_face G p) (is_face G q) h in
    ap₂ ◌||◌ (truth-same G x y same p b.0) (truth-same G x y same q b.1)
truth-same G x y same (Make op.All (More p NoTrees)) h =
    truth-same (WithName G) (Free ∷ x) (Free ∷ y) (one_more_free (count_indices G) x y same) p h
truth-same G x y same _ h = cc

drop_one : (n : ℕ) (x y : Point) → SameCoordinates (suc n) x y → SameCoordinates n (drop 1 x) (drop 1 y)
drop_one n x y same k lt = dropped x k ∙ same (suc k) (omega arith) ∙ sym (dropped y k)
  where
    dropped : (z : Point) (j : ℕ) → coordinate_at (drop 1 z) j ≡ coordinate_at z (suc j)
    dropped [] j = refl
    dropped (c ∷ rest) j = refl

pub satisfies-same : (G : Context) (x y : Point) → SameCoordinates (count_indices G) x y → Satisfies G x → Satisfies G y
satisfies-same Nil x y same s = tt
satisfies-same (WithVar G A) x y same s = satisfies-same G (drop 1 x) (drop 1 y) (drop_one (count_indices G) x y same) s
satisfies-same (WithName G) x y same s = satisfies-same G (drop 1 x) (drop 1 y) (drop_one (count_indices G) x y same) s
satisfies-same (WithFace G p) x y same s =
    (satisfies-same G x y same s.0, (s.1.0, sym (truth-same G x y same p s.1.0) ∙ s.1.1))
