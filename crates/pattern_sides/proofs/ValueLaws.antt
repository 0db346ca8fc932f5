-- Values of formulas and truths of faces: under a renaming, at a point, and under the valuations over it.
use Rattle.std.proofs.Common.{◌≡◌, ◌⊎◌, inl, inr, ℕ, zero, suc, List, [], ◌∷◌, map, drop, Bool, true, false, ◌&&◌, ◌||◌, cond, refl, sym, ◌∙◌, ap, ap₂, subst}
use Rattle.std.specs.List.{All}
use Rattle.std.proofs.lemmas.List.Elements.{All-head, All-tail}
use Rattle.std.proofs.Math.ListN.{get_or-map}
use Rattle.trees.specs.Language.{Holds}
use Rattle.trees.specs.declared.op.Op.TheVariants as op
use Rattle.trees.specs.Trees.{Tree, Var, Make, NoTrees, More, apply, shift_by}
use Rattle.trees.specs.Judgements.{trees}
use Rattle.substitution.proofs.Maps.{rename, beneath, raise-one}
use Rattle.substitution.proofs.ThenLaws.{apply-shift_by}
use Rattle.points.specs.Values.{Value, zero_value, one_value, free_value, negation, meet, join, Valuation, value_at}
use Rattle.points.specs.Points.{Coordinate, AtZero, AtOne, Free, Point, coordinate_at, coordinate_value, valuation_of, IsOver, LiesOver}
use Rattle.patterns.specs.Patterns.{ContextPart, Empty, AddVar, AddName, AddFace}
use Rattle.patterns.specs.Values.{Parts}
use Rattle.patterns.specs.Normals.{Normal, NormalContext, NShift, apply_normal}
use Rattle.patterns.specs.Fillings.{filled, filled_context, filled_condition}
use Rattle.patterns.specs.Tests.{NormalCondition, same_normal_context}
use Rattle.patterns.proofs.NormalLaws.{filled-apply_normal}
use Rattle.patterns.proofs.SameLaws.{both, same_normal_context-true}
use Rattle.conditions.specs.Sides.{value, is_true, Satisfies, SideHolds}
use Rattle.pattern_sides.specs.Truths.{with_held, faces_of}

-- a renamed tree

pub value-rename : (t : Tree) (f : ℕ → ℕ) (v w : Valuation) → ((k : ℕ) → value_at v (f k) ≡ value_at w k) → value v (rename t f) ≡ value w t
value-rename (Var k) f v w h = h k
value-rename (Make op.I0 NoTrees) f v w h = refl
value-rename (Make op.I1 NoTrees) f v w h = refl
value-rename (Make op.Neg (More r NoTrees)) f v w h = ap negation (value-rename r f v w h)
value-rename (Make op.Min (More r (More s NoTrees))) f v w h = ap₂ meet (value-rename r f v w h) (value-rename s f v w h)
value-rename (Make op.Max (More r (More s NoTrees))) f v w h = ap₂ join (value-rename r f v w h) (value-rename s f v w h)
value-rename _ f v w h = refl

free-beneath : (f : ℕ → ℕ) (x y : Point) → ((k : ℕ) → value_at (valuation_of x) (f k) ≡ value_at (valuation_of y) k) → (k : ℕ) → value_at (valuation_of (Free ∷ x)) (beneath f k) ≡ value_at (valuation_of (Free ∷ y)) k
free-beneath f x y h zero = refl
free-beneath f x y h (suc k) = h k

is_true-rename : (p : Tree) (f : ℕ → ℕ) (x y : Point) → ((k : ℕ) → value_at (valuation_of x) (f k) ≡ value_at (valuation_of y) k) → is_true x (rename p f) ≡ is_true y p
is_true-rename (Make op.F1 NoTrees) f x y h = refl
is_true-rename (Make op.Eq0 (More r NoTrees)) f x y h = ap (λ (w : Value). w.fails) (value-rename r f (valuation_of x) (valuation_of y) h)
is_true-rename (Make op.Eq1 (More r NoTrees)) f x y h = ap (λ (w : Value). w.holds) (value-rename r f (valuation_of x) (valuation_of y) h)
is_true-rename (Make op.Meet (More p (More q NoTrees))) f x y h = ap₂ ◌&&◌ (is_true-rename p f x y h) (is_true-rename q f x y h)
is_true-rename (Make op.Join (More p (More q NoTrees))) f x y h = ap₂ ◌||◌ (is_true-rename p f x y h) (is_true-rename q f x y h)
is_true-rename (Make op.All (More p NoTrees)) f x y h = is_true-rename p (beneath f) (Free ∷ x) (Free ∷ y) (free-beneath f x y h)
is_true-rename _ f x y h = refl

pub dropped : (x : Point) (k : ℕ) → value_at (valuation_of x) (suc k) ≡ value_at (valuation_of (drop 1 x)) k
dropped [] k = refl
dropped (c ∷ rest) k = refl

is_true-up : (x : Point) (p : Tree) → is_true x (apply p (shift_by 1)) ≡ is_true (drop 1 x) p
is_true-up x p = ap (is_true x) (apply-shift_by p 1 ∙ raise-one p) ∙ is_true-rename p suc x (drop 1 x) (dropped x)

-- the faces of a context are true where it is satisfied

abbrev pub AllTrue : Parts trees → Point → List Normal → Type 0
AllTrue v x [] = Unit {0}
AllTrue v x (p ∷ ps) = (is_true x (filled v p) ≡ true) × AllTrue v x ps

all_true-up : (v : Parts trees) (x : Point) (ps : List Normal) → AllTrue v (drop 1 x) ps → AllTrue v x (map (apply_normal (NShift 1)) ps)
all_true-up v x [] h = tt
all_true-up v x (p ∷ ps) h =
    (ap (is_true x) (filled-apply_normal v (NShift 1) p) ∙ is_true-up x (filled v p) ∙ h.0, all_true-up v x ps h.1)

-- what conditions say to hold in the context

held-one : (v : Parts trees) (G : NormalContext) (x : Point) → Satisfies (filled_context v G) x → (H : NormalContext) (p : Normal) (cs : List NormalCondition) (ps : List Normal) → SideHolds (filled_condition v (Holds H p)) → (b : Bool) → same_normal_context H G ≡ b → AllTrue v x (with_held G cs ps) → AllTrue v x (cond b (p ∷ with_held G cs ps) (with_held G cs ps))
held-one v G x s H p cs ps here true same rest =
    ((here x (subst (λ K. Satisfies (filled_context v K) x) (sym (same_normal_context-true H G same)) s)).1, rest)
held-one v G x s H p cs ps here false same rest = rest

held-true : (v : Parts trees) (G : NormalContext) (x : Point) → Satisfies (filled_context v G) x → (cs : List NormalCondition) → All SideHolds (map (filled_condition v) cs) → (ps : List Normal) → AllTrue v x ps → AllTrue v x (with_held G cs ps)
held-true v G x s [] holds ps all = all
held-true v G x s (Holds H p ∷ cs) holds ps all =
    held-one v G x s H p cs ps (All-head SideHolds (filled_condition v (Holds H p)) (map (filled_condition v) cs) holds) (same_normal_context H G) refl
    (held-true v G x s cs (All-tail SideHolds (filled_condition v (Holds H p)) (map (filled_condition v) cs) holds) ps all)
held-true v G x s (c ∷ cs) holds ps all =
    held-true v G x s cs (All-tail SideHolds (filled_condition v c) (map (filled_condition v) cs) holds) ps all

pub faces-true : (v : Parts trees) (facts : List NormalCondition) → All SideHolds (map (filled_condition v) facts) → (G : NormalContext) (x : Point) → Satisfies (filled_context v G) x → AllTrue v x (faces_of facts G)
faces-true v facts holds (ContextPart k) x s = held-true v (ContextPart k) x s facts holds [] tt
faces-true v facts holds Empty x s = held-true v Empty x s facts holds [] tt
faces-true v facts holds (AddVar G A) x s =
    held-true v (AddVar G A) x s facts holds (map (apply_normal (NShift 1)) (faces_of facts G)) (all_true-up v x (faces_of facts G) (faces-true v facts holds G (drop 1 x) s))
faces-true v facts holds (AddName G) x s =
    held-true v (AddName G) x s facts holds (map (apply_normal (NShift 1)) (faces_of facts G)) (all_true-up v x (faces_of facts G) (faces-true v facts holds G (drop 1 x) s))
faces-true v facts holds (AddFace G p) x s =
    held-true v (AddFace G p) x s facts holds (p ∷ faces_of facts G) (s.1.1, faces-true v facts holds G x s.0)

-- at a point no formula is 1 and 0

abbrev pub IsPointValue : Value → Type 0
IsPointValue w = (w.holds && w.fails) ≡ false

not_both-negation : (a b : Bool) → (a && b) ≡ false → (b && a) ≡ false
not_both-negation true true h = h
not_both-negation true false h = refl
not_both-negation false true h = refl
not_both-negation false false h = refl

not_both-meet : (a b c d : Bool) → (a && b) ≡ false → (c && d) ≡ false → ((a && c) && (b || d)) ≡ false
not_both-meet true true c d h k = absurd (cc h)
not_both-meet true false true d h k = k
not_both-meet true false false d h k = refl
not_both-meet false b c d h k = refl

not_both-join : (a b c d : Bool) → (a && b) ≡ false → (c && d) ≡ false → ((a || c) && (b && d)) ≡ false
not_both-join true true c d h k = absurd (cc h)
not_both-join true false c d h k = refl
not_both-join false true c d h k = k
not_both-join false false true d h k = refl
not_both-join false false false d h k = refl

point-negation : (w : Value) → IsPointValue w → IsPointValue (negation w)
point-negation w h = not_both-negation w.holds w.fails h

point-meet : (v w : Value) → IsPointValue v → IsPointValue w → IsPointValue (meet v w)
point-meet v w h k = not_both-meet v.holds v.fails w.holds w.fails h k

point-join : (v w : Value) → IsPointValue v → IsPointValue w → IsPointValue (join v w)
point-join v w h k = not_both-join v.holds v.fails w.holds w.fails h k

coordinate-point : (c : Coordinate) → IsPointValue (coordinate_value c)
coordinate-point AtZero = refl
coordinate-point AtOne = refl
coordinate-point Free = refl

pub point-value : (x : Point) (t : Tree) → IsPointValue (value (valuation_of x) t)
point-value x (Var k) = subst IsPointValue (sym (get_or-map coordinate_value x k Free)) (coordinate-point (coordinate_at x k))
point-value x (Make op.I0 NoTrees) = refl
point-value x (Make op.I1 NoTrees) = refl
point-value x (Make op.Neg (More r NoTrees)) = point-negation (value (valuation_of x) r) (point-value x r)
point-value x (Make op.Min (More r (More s NoTrees))) =
    point-meet (value (valuation_of x) r) (value (valuation_of x) s) (point-value x r) (point-value x s)
point-value x (Make op.Max (More r (More s NoTrees))) =
    point-join (value (valuation_of x) r) (value (valuation_of x) s) (point-value x r) (point-value x s)
point-value x _ = refl

-- what is 1 or 0 at a point is so under each valuation over it

pub record IsAbove (p w : Value) : Type 0 where
  pub if_one : p.holds ≡ true → w ≡ one_value
  pub if_zero : p.fails ≡ true → w ≡ zero_value

pub or_cases : (a b : Bool) → (a || b) ≡ true → (a ≡ true) ⊎ (b ≡ true)
or_cases true b h = inl refl
or_cases false b h = inr h

and-false : (a : Bool) → (a && false) ≡ false
and-false true = refl
and-false false = refl

or-true : (a : Bool) → (a || true) ≡ true
or-true true = refl
or-true false = refl

abbrev pub worth : Bool → Bool → Value
worth a b = record { holds = a; fails = b }

meet-zero : (w : Value) → meet w zero_value ≡ zero_value
meet-zero w = ap₂ worth (and-false w.holds) (or-true w.fails)

join-one : (w : Value) → join w one_value ≡ one_value
join-one w = ap₂ worth (or-true w.holds) (and-false w.fails)

pub above-meet : (p q v w : Value) → IsAbove p v → IsAbove q w → IsAbove (meet p q) (meet v w)
above-meet p q v w a b = record {
  if_one = λ h. let f = both p.holds q.holds h in ap₂ meet (a.if_one f.0) (b.if_one f.1);
  if_zero = λ h. by_side (or_cases p.fails q.fails h);
}
  where
    by_side : (p.fails ≡ true) ⊎ (q.fails ≡ true) → meet v w ≡ zero_value
    by_side (inl h) = ap (λ z. meet z w) (a.if_zero h)
    by_side (inr h) = ap (meet v) (b.if_zero h) ∙ meet-zero v

pub above-join : (p q v w : Value) → IsAbove p v → IsAbove q w → IsAbove (join p q) (join v w)
above-join p q v w a b = record {
  if_one = λ h. by_side (or_cases p.holds q.holds h);
  if_zero = λ h. let f = both p.fails q.fails h in ap₂ join (a.if_zero f.0) (b.if_zero f.1);
}
  where
    by_side : (p.holds ≡ true) ⊎ (q.holds ≡ true) → join v w ≡ one_value
    by_side (inl h) = ap (λ z. join z w) (a.if_one h)
    by_side (inr h) = ap (join v) (b.if_one h) ∙ join-one v

above-coordinate : (c : Coordinate) (w : Value) → IsOver c w → IsAbove (coordinate_value c) w
above-coordinate AtZero w over = record { if_one = λ h. absurd (cc h); if_zero = λ h. over }
above-coordinate AtOne w over = record { if_one = λ h. over; if_zero = λ h. absurd (cc h) }
above-coordinate Free w over = record { if_one = λ h. absurd (cc h); if_zero = λ h. absurd (cc h) }

pub above-free : IsAbove free_value free_value
above-free = record { if_one = λ h. absurd (cc h); if_zero = λ h. absurd (cc h) }

pub over-value : (x : Point) (v : Valuation) → LiesOver x v → (t : Tree) → IsAbove (value (valuation_of x) t) (value v t)
over-value x v over (Var k) =
    subst (λ p. IsAbove p (value_at v k)) (sym (get_or-map coordinate_value x k Free)) (above-coordinate (coordinate_at x k) (value_at v k) (over k))
over-value x v over (Make op.I0 NoTrees) = record { if_one = λ h. absurd (cc h); if_zero = λ h. refl }
over-value x v over (Make op.I1 NoTrees) = record { if_one = λ h. refl; if_zero = λ h. absurd (cc h) }
over-value x v over (Make op.Neg (More r NoTrees)) =
    let a = over-value x v over r in record { if_one = λ h. ap negation (a.if_zero h); if_zero = λ h. ap negation (a.if_one h) }
over-value x v over (Make op.Min (More r (More s NoTrees))) =
    above-meet (value (valuation_of x) r) (value (valuation_of x) s) (value v r) (value v s) (over-value x v over r) (over-value x v over s)
over-value x v over (Make op.Max (More r (More s NoTrees))) =
    above-join (value (valuation_of x) r) (value (valuation_of x) s) (value v r) (value v s) (over-value x v over r) (over-value x v over s)
over-value x v over _ = above-free
