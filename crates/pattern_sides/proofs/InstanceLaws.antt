-- Where `all i.q` is true, q is true at every formula.
use Rattle.std.proofs.Common.{◌≡◌, ⊎_elim, inl, inr, ◌⊎◌, ℕ, zero, suc, List, [], ◌∷◌, Bool, true, false, ◌&&◌, ◌||◌, refl, sym, ◌∙◌, ap, add-zero, subst}
use Rattle.trees.specs.declared.op.Op.TheVariants as op
use Rattle.trees.specs.Trees.{Tree, Var, Make, NoTrees, More, Subst, apply, up, push, shift_by}
use Rattle.trees.specs.Judgements.{trees}
use Rattle.substitution.specs.Forms.{lift}
use Rattle.substitution.specs.Action.{look}
use Rattle.substitution.proofs.Maps.{raise-one}
use Rattle.substitution.proofs.ThenLaws.{look-then, apply-shift_by}
use Rattle.substitution.proofs.BinderLaws.{apply_under-one}
use Rattle.points.specs.Values.{Value, zero_value, one_value, negation, Valuation, value_at}
use Rattle.points.specs.Points.{Free, Point, valuation_of}
use Rattle.patterns.specs.Values.{Parts}
use Rattle.patterns.specs.Normals.{Normal, NMake, NoNormals, MoreNormals, NShift, NPush, apply_normal}
use Rattle.patterns.specs.Fillings.{filled}
use Rattle.patterns.proofs.NormalLaws.{filled-apply_normal}
use Rattle.patterns.proofs.SameLaws.{both}
use Rattle.conditions.specs.Sides.{value, is_true}
use Rattle.pattern_sides.specs.Truths.{Instance, with_instances, instances_at}
use Rattle.pattern_sides.proofs.UnderLaws.{and_true}
use Rattle.pattern_sides.proofs.ValueLaws.{value-rename, dropped, IsPointValue, point-value, IsAbove, above-free, above-meet, above-join, worth, or_cases}

-- what is 1 or 0 under one valuation is so of the instance under another

above-under : (t : Tree) (d : Subst) (v w : Valuation) → ((k : ℕ) → IsAbove (value_at w k) (value v (look d k))) → IsAbove (value w t) (value v (apply t d))
above-under (Var k) d v w h = h k
above-under (Make op.I0 NoTrees) d v w h = record { if_one = λ e. absurd (cc e); if_zero = λ e. refl }
above-under (Make op.I1 NoTrees) d v w h = record { if_one = λ e. refl; if_zero = λ e. absurd (cc e) }
above-under (Make op.Neg (More r NoTrees)) d v w h =
    let a = above-under r d v w h in record { if_one = λ e. ap negation (a.if_zero e); if_zero = λ e. ap negation (a.if_one e) }
above-under (Make op.Min (More r (More s NoTrees))) d v w h =
    above-meet (value w r) (value w s) (value v (apply r d)) (value v (apply s d)) (above-under r d v w h) (above-under s d v w h)
above-under (Make op.Max (More r (More s NoTrees))) d v w h =
    above-join (value w r) (value w s) (value v (apply r d)) (value v (apply s d)) (above-under r d v w h) (above-under s d v w h)
above-under _ d v w h = record { if_one = λ e. absurd (cc e); if_zero = λ e. absurd (cc e) }

value-up : (x : Point) (t : Tree) → value (valuation_of (Free ∷ x)) (apply t up) ≡ value (valuation_of x) t
value-up x t = ap (value (valuation_of (Free ∷ x))) (apply-shift_by t 1 ∙ raise-one t) ∙ value-rename t suc (valuation_of (Free ∷ x)) (valuation_of x) (dropped (Free ∷ x))

above-lift : (d : Subst) (x y : Point) → ((k : ℕ) → IsAbove (value_at (valuation_of y) k) (value (valuation_of x) (look d k))) → (k : ℕ) → IsAbove (value_at (valuation_of (Free ∷ y)) k) (value (valuation_of (Free ∷ x)) (look (lift trees d) k))
above-lift d x y h zero = above-free
above-lift d x y h (suc k) =
    subst (IsAbove (value_at (valuation_of y) k)) (sym (ap (value (valuation_of (Free ∷ x))) (look-then d up k) ∙ value-up x (look d k))) (h k)

or_true : (a b : Bool) → (a ≡ true) ⊎ (b ≡ true) → (a || b) ≡ true
or_true true b h = refl
or_true false b (inl h) = absurd (cc h)
or_true false b (inr h) = h

true-under : (p : Tree) (d : Subst) (x y : Point) → ((k : ℕ) → IsAbove (value_at (valuation_of y) k) (value (valuation_of x) (look d k))) → is_true y p ≡ true → is_true x (apply p d) ≡ true
true-under (Make op.F1 NoTrees) d x y h e = refl
true-under (Make op.Eq0 (More r NoTrees)) d x y h e =
    ap (λ (w : Value). w.fails) ((above-under r d (valuation_of x) (valuation_of y) h).if_zero e)
true-under (Make op.Eq1 (More r NoTrees)) d x y h e =
    ap (λ (w : Value). w.holds) ((above-under r d (valuation_of x) (valuation_of y) h).if_one e)
true-under (Make op.Meet (More p (More q NoTrees))) d x y h e =
    let f = both (is_true y p) (is_true y q) e in
    and_true _ _ (true-under p d x y h f.0) (true-under q d x y h f.1)
true-under (Make op.Join (More p (More q NoTrees))) d x y h e =
    or_true _ _
    (⊎_elim
    (λ f. inl (true-under p d x y h f))
    (λ f. inr (true-under q d x y h f))
    (or_cases (is_true y p) (is_true y q) e))
true-under (Make op.All (More p NoTrees)) d x y h e =
    ap (is_true (Free ∷ x)) (apply_under-one p d)
    ∙ true-under p (lift trees d) (Free ∷ x) (Free ∷ y) (above-lift d x y h) e
true-under _ d x y h e = absurd (cc e)

-- at a formula in place of the name

self-one : (a b : Bool) → (a && b) ≡ false → a ≡ true → worth a b ≡ one_value
self-one true true h e = absurd (cc h)
self-one true false h e = refl
self-one false b h e = absurd (cc e)

self-zero : (a b : Bool) → (a && b) ≡ false → b ≡ true → worth a b ≡ zero_value
self-zero true true h e = absurd (cc h)
self-zero a false h e = absurd (cc e)
self-zero false true h e = refl

above-self : (w : Value) → IsPointValue w → IsAbove w w
above-self w h = record { if_one = self-one w.holds w.fails h; if_zero = self-zero w.holds w.fails h }

above-put : (x : Point) (r : Tree) (k : ℕ) → IsAbove (value_at (valuation_of (Free ∷ x)) k) (value (valuation_of x) (look (push (shift_by 0) r) k))
above-put x r zero = record { if_one = λ e. absurd (cc e); if_zero = λ e. absurd (cc e) }
above-put x r (suc k) =
    subst (λ j. IsAbove (value_at (valuation_of x) k) (value_at (valuation_of x) j)) (sym (add-zero k)) (above-self (value_at (valuation_of x) k) (point-value x (Var k)))

all-put : (v : Parts trees) (x : Point) (q r : Normal) → is_true x (filled v (NMake op.All (MoreNormals q NoNormals))) ≡ true → is_true x (filled v (apply_normal (NPush (NShift 0) r) q)) ≡ true
all-put v x q r e =
    ap (is_true x) (filled-apply_normal v (NPush (NShift 0) r) q)
    ∙ true-under (filled v q) (push (shift_by 0) (filled v r)) x (Free ∷ x) (above-put x (filled v r)) e

-- each instance is true where its `all` is
abbrev pub AllGiven : Parts trees → Point → List Instance → Type 0
AllGiven v x [] = Unit {0}
AllGiven v x (i ∷ is) =
    (is_true x (filled v i.of_all) ≡ true → is_true x (filled v i.is) ≡ true) × AllGiven v x is

given-more : (v : Parts trees) (x : Point) (q : Normal) (rs : List Normal) (more : List Instance) → AllGiven v x more → AllGiven v x (with_instances (NMake op.All (MoreNormals q NoNormals)) q rs more)
given-more v x q [] more h = h
given-more v x q (r ∷ rs) more h = (all-put v x q r, given-more v x q rs more h)

pub all-given : (v : Parts trees) (x : Point) (rs ts : List Normal) → AllGiven v x (instances_at rs ts)
all-given v x rs [] = tt
all-given v x rs (NMake op.All (MoreNormals q NoNormals) ∷ ts) = given-more v x q rs (instances_at rs ts) (all-given v x rs ts)
all-given v x rs (t ∷ ts) = all-given v x rs ts
