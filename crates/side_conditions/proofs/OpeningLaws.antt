-- What stands outermost in a formula or a face.
use Rattle.std.proofs.Common.{◌≡◌, ℕ, zero, suc, ◌+◌, ◌-◌, ◌<◌, Bool, true, false, ◌||◌, cond, List, [], ◌∷◌, length, get_or, Option, Some, None, refl, sym, ◌∙◌, ap, ap₂, arith, zero-add}
use Rattle.std.specs.Prelude.{option_and_then, IsTrue, ◌==◌, MatchOption}
use Rattle.std.specs.List.{All}
use Rattle.std.proofs.lemmas.Bool.{eqb-true}
use Rattle.std.proofs.lemmas.List.Elements.{All-nil, All-cons, All-head, All-tail}
use Rattle.trees.specs.declared.op.Op.{Op}
use Rattle.trees.specs.declared.op.Op.TheVariants as op
use Rattle.trees.specs.Operators.{kids_of, binds_of}
use Rattle.trees.specs.Trees.{Tree, Trees, Var, Make, NoTrees, More, trees_of}
use Rattle.trees.specs.Judgements.{Context, Nil, WithVar, WithName, WithFace}
use Rattle.trees.specs.Things.{Thing, ATree, ASubst, AContext, Meanings, both, consed, only_trees, over_kids, made}
use Rattle.rows.specs.Views.{IsTree}
use Rattle.closures.specs.declared.environments.Environment.{Environment}
use Rattle.closures.specs.declared.closure.Closure.{Closure}
use Rattle.closures.specs.declared.heads.Head.{Head}
use Rattle.closures.specs.declared.heads.Head.TheVariants as head
use Rattle.closures.specs.Environments.{Waiting, listed, deepened}
use Rattle.closures.specs.Closures.{IsClosure, Stands, HeadStands, closure_meaning, head_meaning, kid_things, all_there, under, delays}
use Rattle.substitution.specs.Delayed.{closed}
use Rattle.trees.proofs.OperatorLaws.{binds_of-most}
use Rattle.closures.proofs.HeadLaws.{closure-deeper, kid-stands}
use Rattle.side_conditions.specs.declared.subtree.Subtree.{Subtree}
use Rattle.side_conditions.specs.declared.shapes.Nullary.{Nullary}
use Rattle.side_conditions.specs.declared.shapes.Nullary.TheVariants as nullary
use Rattle.side_conditions.specs.declared.shapes.Unary.{Unary}
use Rattle.side_conditions.specs.declared.shapes.Unary.TheVariants as unary
use Rattle.side_conditions.specs.declared.shapes.Binary.{Binary}
use Rattle.side_conditions.specs.declared.shapes.Binary.TheVariants as binary
use Rattle.side_conditions.specs.declared.shapes.Connective.TheVariants as connective
use Rattle.side_conditions.specs.declared.shapes.Shape.{Shape}
use Rattle.side_conditions.specs.declared.shapes.Shape.TheVariants as shape
use Rattle.conditions.specs.Sides.{is_name}
use Rattle.side_conditions.specs.Levels.{indices, with_names}
use Rattle.side_conditions.specs.Readings.{is_readable}
use Rattle.side_conditions.specs.Shapes.{nullary_op, unary_op, binary_op, connective_of, bound_by, tree_of, tree_at, with_bound}
use Rattle.side_conditions.specs.Openings.{IsKid, IsUnreadable, OverKids, IsShapeOver, IsShapeOf}

-- names

pub is_name-indices : (G : Context) (k : ℕ) → is_name G k ≡ get_or (indices G) k false
is_name-indices Nil k = refl
is_name-indices (WithVar G A) zero = refl
is_name-indices (WithVar G A) (suc k) = is_name-indices G k
is_name-indices (WithName G) zero = refl
is_name-indices (WithName G) (suc k) = is_name-indices G k
is_name-indices (WithFace G p) k = is_name-indices G k

pub indices-with_names : (n : ℕ) (G : Context) → indices (with_names n G) ≡ with_bound n (indices G)
indices-with_names zero G = refl
indices-with_names (suc n) G = ap (λ ns. true ∷ ns) (indices-with_names n G)

pub length-with_bound : (n : ℕ) (names : List Bool) → length (with_bound n names) ≡ n + length names
length-with_bound zero names = omega arith
length-with_bound (suc n) names = let h = length-with_bound n names in omega arith

pub bound_below : (n : ℕ) (names : List Bool) (k : ℕ) → k < n → get_or (with_bound n names) k false ≡ true
bound_below zero names k lt = absurd (omega arith)
bound_below (suc n) names zero lt = refl
bound_below (suc n) names (suc k) lt = bound_below n names k (omega arith)

pub bound_above : (n : ℕ) (names : List Bool) (k j : ℕ) → k ≡ n + j → get_or (with_bound n names) k false ≡ get_or names j false
bound_above zero names k j e = let s : k ≡ j = omega arith in ap (λ i. get_or names i false) s
bound_above (suc n) names zero j e = absurd (omega arith)
bound_above (suc n) names (suc k) j e = bound_above n names k j (omega arith)

first_or : (a : Bool) → (a || false) ≡ true → a ≡ true
first_or true h = refl
first_or false h = h

pub no_name : (names : List Bool) (depth k : ℕ) → get_or (with_bound depth names) k false ≡ false → IsUnreadable names depth (Var k)
no_name names depth k none G same h =
    let name = first_or (is_name (with_names depth G) k) h in
    let is : get_or (indices (with_names depth G)) k false ≡ get_or (with_bound depth names) k false = ap (λ ns. get_or ns k false) (indices-with_names depth G ∙ ap (with_bound depth) same) in
    let wrong : true ≡ false = sym name ∙ is_name-indices (with_names depth G) k ∙ is ∙ none in
    cc

-- operators

pub nullary-of : (o : Op) (c : Nullary) → connective_of o ≡ Some (connective.Nullary c) → o ≡ nullary_op c
nullary-of op.I0 nullary.Zero e = refl
nullary-of op.I1 nullary.One e = refl
nullary-of op.F0 nullary.Bottom e = refl
nullary-of op.F1 nullary.Top e = refl
nullary-of _ _ e = cc

pub unary-of : (o : Op) (c : Unary) → connective_of o ≡ Some (connective.Unary c) → o ≡ unary_op c
unary-of op.Neg unary.Neg e = refl
unary-of op.Eq0 unary.IsZero e = refl
unary-of op.Eq1 unary.IsOne e = refl
unary-of op.All unary.All e = refl
unary-of _ _ e = cc

pub binary-of : (o : Op) (c : Binary) → connective_of o ≡ Some (connective.Binary c) → o ≡ binary_op c
binary-of op.Min binary.Min e = refl
binary-of op.Max binary.Max e = refl
binary-of op.Meet binary.Meet e = refl
binary-of op.Join binary.Join e = refl
binary-of _ _ e = cc

pub kids_of-nullary : (c : Nullary) → kids_of (nullary_op c) ≡ 0
kids_of-nullary nullary.Zero = refl
kids_of-nullary nullary.One = refl
kids_of-nullary nullary.Bottom = refl
kids_of-nullary nullary.Top = refl

pub kids_of-unary : (c : Unary) → kids_of (unary_op c) ≡ 1
kids_of-unary unary.Neg = refl
kids_of-unary unary.IsZero = refl
kids_of-unary unary.IsOne = refl
kids_of-unary unary.All = refl

pub kids_of-binary : (c : Binary) → kids_of (binary_op c) ≡ 2
kids_of-binary binary.Min = refl
kids_of-binary binary.Max = refl
kids_of-binary binary.Meet = refl
kids_of-binary binary.Join = refl

binds_of-unary : (c : Unary) → binds_of (unary_op c) 0 ≡ bound_by c
binds_of-unary unary.Neg = refl
binds_of-unary unary.IsZero = refl
binds_of-unary unary.IsOne = refl
binds_of-unary unary.All = refl

binds_of-left : (c : Binary) → binds_of (binary_op c) 0 ≡ 0
binds_of-left binary.Min = refl
binds_of-left binary.Max = refl
binds_of-left binary.Meet = refl
binds_of-left binary.Join = refl

binds_of-right : (c : Binary) → binds_of (binary_op c) 1 ≡ 0
binds_of-right binary.Min = refl
binds_of-right binary.Max = refl
binds_of-right binary.Meet = refl
binds_of-right binary.Join = refl

pub other_operator : (G : Context) (o : Op) (ts : Trees) → connective_of o ≡ None → IsTrue (is_readable G (Make o ts)) → ⊥
other_operator G op.I0 ts none h = cc
other_operator G op.I1 ts none h = cc
other_operator G op.F0 ts none h = cc
other_operator G op.F1 ts none h = cc
other_operator G op.Neg ts none h = cc
other_operator G op.Eq0 ts none h = cc
other_operator G op.Eq1 ts none h = cc
other_operator G op.All ts none h = cc
other_operator G op.Min ts none h = cc
other_operator G op.Max ts none h = cc
other_operator G op.Meet ts none h = cc
other_operator G op.Join ts none h = cc
other_operator G _ ts none h = cc

-- kids

abbrev pub kid_trees : Meanings → List Waiting → Op → ℕ → List ℕ → List Tree
kid_trees f ws o at [] = []
kid_trees f ws o at (k ∷ ks) = tree_of (under (f k) (delays f (deepened (binds_of o at) ws))) ∷ kid_trees f ws o (suc at) ks

-- an operator over kids that means a tree
pub record MadeOver (f : Meanings) (ws : List Waiting) (o : Op) (ks : List ℕ) (t : Tree) : Type 0 where
  pub count : length ks ≡ kids_of o
  pub whole : t ≡ Make o (trees_of (kid_trees f ws o 0 ks))
  pub rows : All (λ k. IsTree (f k)) ks

record KidsAre (f : Meanings) (ws : List Waiting) (o : Op) (at : ℕ) (ks : List ℕ) (ts : List Tree) : Type 0 where
  pub count : length ks ≡ length ts
  pub trees : ts ≡ kid_trees f ws o at ks
  pub rows : All (λ k. IsTree (f k)) ks

kids_are : (f : Meanings) (ws : List Waiting) (o : Op) (at : ℕ) (ks : List ℕ) (xs : List Thing) (ts : List Tree) → all_there (kid_things f ws o at ks) ≡ Some xs → only_trees xs ≡ Some ts → KidsAre f ws o at ks ts
kids_are f ws o at [] xs ts e all =
    let none : [] ≡ xs = cc in
    let no_trees : [] ≡ ts = cc (ap only_trees none) in
    record { count = ap length no_trees; trees = sym no_trees; rows = All-nil (λ k. IsTree (f k)) }
kids_are f ws o at (k ∷ ks) xs ts e all = from (f k) refl (all_there (kid_things f ws o (suc at) ks)) refl e (λ ys us. kids_are f ws o (suc at) ks ys us)
  where
    step : (u : Tree) (ys : List Thing) → f k ≡ Some (ATree u) → all_there (kid_things f ws o (suc at) ks) ≡ Some ys → (z : Tree) → under (f k) (delays f (deepened (binds_of o at) ws)) ≡ Some (ATree z) → ATree z ∷ ys ≡ xs → (r : Option (List Tree)) → only_trees ys ≡ r → option_and_then (λ us. Some (z ∷ us)) r ≡ Some ts → ((zs : List Thing) (us : List Tree) → all_there (kid_things f ws o (suc at) ks) ≡ Some zs → only_trees zs ≡ Some us → KidsAre f ws o (suc at) ks us) → KidsAre f ws o at (k ∷ ks) ts
    step u ys is rest z head whole None er found later = cc
    step u ys is rest z head whole (Some us) er found later =
        let h = later ys us rest er in
        let same : z ∷ us ≡ ts = cc in
        record {
          count = ap suc h.count ∙ ap length same;
          trees = sym same ∙ ap₂ ◌∷◌ (sym (ap tree_of head)) h.trees;
          rows = All-cons (λ j. IsTree (f j)) k ks (u, is) h.rows;
        }

    from : (x : Option Thing) → f k ≡ x → (r : Option (List Thing)) → all_there (kid_things f ws o (suc at) ks) ≡ r → both consed (under x (delays f (deepened (binds_of o at) ws))) r ≡ Some xs → ((zs : List Thing) (us : List Tree) → all_there (kid_things f ws o (suc at) ks) ≡ Some zs → only_trees zs ≡ Some us → KidsAre f ws o (suc at) ks us) → KidsAre f ws o at (k ∷ ks) ts
    from None is r rest found later = cc
    from (Some (ASubst d)) is r rest found later = cc
    from (Some (AContext G)) is r rest found later = cc
    from (Some (ATree u)) is None rest found later = cc
    from (Some (ATree u)) is (Some ys) rest found later =
        let whole : ATree (closed u (delays f (deepened (binds_of o at) ws))) ∷ ys ≡ xs = cc in
        step u ys is rest (closed u (delays f (deepened (binds_of o at) ws))) (ap (λ y. under y (delays f (deepened (binds_of o at) ws))) is) whole (only_trees ys) refl (ap only_trees whole ∙ all) later

pub made_over : (f : Meanings) (ws : List Waiting) (o : Op) (ks : List ℕ) (t : Tree) → option_and_then (made o) (all_there (kid_things f ws o 0 ks)) ≡ Some (ATree t) → MadeOver f ws o ks t
made_over f ws o ks t e = from (all_there (kid_things f ws o 0 ks)) refl e
  where
    counted : (xs : List Thing) (ts : List Tree) → all_there (kid_things f ws o 0 ks) ≡ Some xs → only_trees xs ≡ Some ts → (b : Bool) → (length ts == kids_of o) ≡ b → cond b (Some (ATree (Make o (trees_of ts)))) None ≡ Some (ATree t) → MadeOver f ws o ks t
    counted xs ts er all false fits whole = cc
    counted xs ts er all true fits whole =
        let h = kids_are f ws o 0 ks xs ts er all in
        let same : Make o (trees_of ts) ≡ t = cc in
        record {
          count = h.count ∙ eqb-true (length ts) (kids_of o) fits;
          whole = sym same ∙ ap (λ us. Make o (trees_of us)) h.trees;
          rows = h.rows;
        }

    trees : (xs : List Thing) → all_there (kid_things f ws o 0 ks) ≡ Some xs → (r : Option (List Tree)) → only_trees xs ≡ r → option_and_then (over_kids o) r ≡ Some (ATree t) → MadeOver f ws o ks t
    trees xs er None all m = cc
    trees xs er (Some ts) all m = counted xs ts er all (length ts == kids_of o) refl m

    from : (r : Option (List Thing)) → all_there (kid_things f ws o 0 ks) ≡ r → option_and_then (made o) r ≡ Some (ATree t) → MadeOver f ws o ks t
    from None er m = cc
    from (Some xs) er m = trees xs er (only_trees xs) refl m

-- a kid of an operator, below the binders of its place
kid_tree : (f : Meanings) (known : List (List Waiting)) (o : Op) (at row : ℕ) (e : Environment) (depth : ℕ) (s : Subtree) → IsKid known o at row e depth s → tree_at f known s ≡ tree_of (under (f row) (delays f (deepened (binds_of o at) (listed known e))))
kid_tree f known o at row e depth s k = ap₂ (λ j ws. tree_of (under (f j) (delays f ws))) k.row_is k.list_is

kid_stands : (f : Meanings) (known : List (List Waiting)) (o : Op) (at row : ℕ) (e : Environment) (depth : ℕ) (s : Subtree) → IsKid known o at row e depth s → IsTree (f row) → (n : ℕ) → Stands f known n e → IsClosure f known (suc n) s.closure
kid_stands f known o at row e depth s k tree n stands =
    closure-deeper f known (n + binds_of o at) (suc n) s.closure (let b = binds_of-most o at in omega arith)
    (kid-stands f known n (binds_of o at) row e s.closure tree stands k.row_is k.list_is k.within)

depth_by : (binds bound depth here : ℕ) → here ≡ depth + binds → binds ≡ bound → here ≡ bound + depth
depth_by binds bound depth here e b = omega arith

pub nullary_over : (f : Meanings) (known : List (List Waiting)) (o : Op) (c : Nullary) (ks : List ℕ) (e : Environment) (depth : ℕ) (t : Tree) → connective_of o ≡ Some (connective.Nullary c) → MadeOver f (listed known e) o ks t → OverKids f known e depth t (shape.Nullary c)
nullary_over f known o c [] e depth t is m =
    record {
      tree_is = λ count. ap (λ x. Make x NoTrees) (sym (nullary-of o c is)) ∙ sym m.whole;
      fits = λ names. tt;
      stands = λ n stands. All-nil (λ (s : Subtree). IsClosure f known (suc n) s.closure);
    }
nullary_over f known o c (k ∷ ks) e depth t is m =
    let count : length (k ∷ ks) ≡ 0 = m.count ∙ ap kids_of (nullary-of o c is) ∙ kids_of-nullary c in
    absurd (omega arith)

pub unary_over : (f : Meanings) (known : List (List Waiting)) (o : Op) (c : Unary) (ks : List ℕ) (e : Environment) (depth : ℕ) (t : Tree) (s : Subtree) → connective_of o ≡ Some (connective.Unary c) → MadeOver f (listed known e) o ks t → IsKid known o 0 (get_or ks 0 0) e depth s → OverKids f known e depth t (shape.Unary c s)
unary_over f known o c [] e depth t s is m k =
    let count : ◌≡◌ {A = ℕ} 0 1 = m.count ∙ ap kids_of (unary-of o c is) ∙ kids_of-unary c in
    absurd (omega arith)
unary_over f known o c (j ∷ []) e depth t s is m k =
    let same = unary-of o c is in
    record {
      tree_is = λ count. ap₂ (λ x u. Make x (More u NoTrees)) (sym same) (kid_tree f known o 0 j e depth s k) ∙ sym m.whole;
      fits = λ names. depth_by (binds_of o 0) (bound_by c) depth s.depth k.depth_is (ap (λ x. binds_of x 0) same ∙ binds_of-unary c);
      stands = λ n stands.
          let tree : IsTree (f j) = All-head (λ i. IsTree (f i)) j [] m.rows in
          All-cons (λ (q : Subtree). IsClosure f known (suc n) q.closure) s [] (kid_stands f known o 0 j e depth s k tree n stands) (All-nil (λ (q : Subtree). IsClosure f known (suc n) q.closure));
    }
unary_over f known o c (i ∷ j ∷ ks) e depth t s is m k =
    let count : length (i ∷ j ∷ ks) ≡ 1 = m.count ∙ ap kids_of (unary-of o c is) ∙ kids_of-unary c in
    absurd (omega arith)

pub binary_over : (f : Meanings) (known : List (List Waiting)) (o : Op) (c : Binary) (ks : List ℕ) (e : Environment) (depth : ℕ) (t : Tree) (r s : Subtree) → connective_of o ≡ Some (connective.Binary c) → MadeOver f (listed known e) o ks t → IsKid known o 0 (get_or ks 0 0) e depth r → IsKid known o 1 (get_or ks 1 0) e depth s → OverKids f known e depth t (shape.Binary c r s)
binary_over f known o c [] e depth t r s is m k l =
    let count : ◌≡◌ {A = ℕ} 0 2 = m.count ∙ ap kids_of (binary-of o c is) ∙ kids_of-binary c in
    absurd (omega arith)
binary_over f known o c (i ∷ []) e depth t r s is m k l =
    let count : length (i ∷ []) ≡ 2 = m.count ∙ ap kids_of (binary-of o c is) ∙ kids_of-binary c in
    absurd (omega arith)
binary_over f known o c (i ∷ j ∷ []) e depth t r s is m k l =
    let same = binary-of o c is in
    let Stands_at : ℕ → Subtree → Type 0 = λ n q. IsClosure f known (suc n) q.closure in
    record {
      tree_is = λ count.
          ap₂ (λ x u. Make x (More u (More (tree_at f known s) NoTrees))) (sym same) (kid_tree f known o 0 i e depth r k)
          ∙ ap (λ u. Make o (More (tree_of (under (f i) (delays f (deepened (binds_of o 0) (listed known e))))) (More u NoTrees))) (kid_tree f known o 1 j e depth s l)
          ∙ sym m.whole;
      fits = λ names. (
        depth_by (binds_of o 0) 0 depth r.depth k.depth_is (ap (λ x. binds_of x 0) same ∙ binds_of-left c) ∙ zero-add depth,
        depth_by (binds_of o 1) 0 depth s.depth l.depth_is (ap (λ x. binds_of x 1) same ∙ binds_of-right c) ∙ zero-add depth,
      );
      stands = λ n stands.
          let first : IsTree (f i) = All-head (λ x. IsTree (f x)) i (j ∷ []) m.rows in
          let second : IsTree (f j) = All-head (λ x. IsTree (f x)) j [] (All-tail (λ x. IsTree (f x)) i (j ∷ []) m.rows) in
          All-cons (Stands_at n) r (s ∷ []) (kid_stands f known o 0 i e depth r k first n stands)
          (All-cons (Stands_at n) s [] (kid_stands f known o 1 j e depth s l second n stands) (All-nil (Stands_at n)));
    }
binary_over f known o c (i ∷ j ∷ x ∷ ks) e depth t r s is m k l =
    let count : length (i ∷ j ∷ x ∷ ks) ≡ 2 = m.count ∙ ap kids_of (binary-of o c is) ∙ kids_of-binary c in
    absurd (omega arith)

-- an operator that is none of formulas and faces
pub other_over : (f : Meanings) (ws : List Waiting) (o : Op) (ks : List ℕ) (depth : ℕ) (t : Tree) → connective_of o ≡ None → MadeOver f ws o ks t → (names : List Bool) → IsUnreadable names depth t
other_over f ws o ks depth t none m names G same h =
    other_operator (with_names depth G) o (trees_of (kid_trees f ws o 0 ks)) none (ap (is_readable (with_names depth G)) (sym m.whole) ∙ h)

pub shape_found : (f : Meanings) (old new : List (List Waiting)) (names : List Bool) (at : Subtree) (e : Environment) (s : Shape) (t : Tree) → tree_at f old at ≡ t → ((n : ℕ) → IsClosure f old n at.closure → Stands f new n e) → OverKids f new e at.depth t s → IsShapeOf f old new names at s
shape_found f old new names at e s t is stands o = record {
  tree_is = o.tree_is (at.depth + length names) ∙ sym is;
  fits = o.fits names;
  stands = λ n c. o.stands n (stands n c);
}

pub name_found : (f : Meanings) (old new : List (List Waiting)) (names : List Bool) (at : Subtree) (k level : ℕ) → Var k ≡ tree_at f old at → at.depth + length names ≡ suc (level + k) → IsTrue (get_or (with_bound at.depth names) k false) → IsShapeOf f old new names at (shape.Name level)
name_found f old new names at k level is count name =
    let place : at.depth + length names - suc level ≡ k = omega arith in
    record {
      tree_is = ap Var place ∙ is;
      fits = (omega arith, ap (λ i. get_or (with_bound at.depth names) i false) place ∙ name);
      stands = λ n c. All-nil (λ (s : Subtree). IsClosure f new (suc n) s.closure);
    }

-- the head of a subtree

pub closure_tree : (f : Meanings) (known : List (List Waiting)) (n : ℕ) (c : Closure) → IsClosure f known n c → closure_meaning f known c ≡ Some (ATree (tree_of (closure_meaning f known c)))
closure_tree f known n c s =
    let is : closure_meaning f known c ≡ Some (ATree (closed s.row.0 (delays f (listed known c.environment)))) = ap (λ o. under o (delays f (listed known c.environment))) s.row.1 in
    is ∙ ap (λ x. Some (ATree (tree_of x))) (sym is)

module _ (f : Meanings) (old new : List (List Waiting)) (at : Subtree) (most : ℕ) (h : Head) (whole : IsClosure f old most at.closure)
    (meaning : head_meaning f new h ≡ closure_meaning f old at.closure) (stands : (n : ℕ) → IsClosure f old n at.closure → HeadStands f new n h) where
  pub head_tree : head_meaning f new h ≡ Some (ATree (tree_at f old at))
  head_tree = meaning ∙ closure_tree f old most at.closure whole

  pub head_var : (k : ℕ) → h ≡ head.Var k → Var k ≡ tree_at f old at
  head_var k is = let e : Some (ATree (Var k)) ≡ Some (ATree (tree_at f old at)) = ap (head_meaning f new) (sym is) ∙ head_tree in cc

  -- what `shape_over` says, said of the subtree
  pub shape_made : (names : List Bool) (o : Op) (ks : List ℕ) (e : Environment) → option_and_then (made o) (all_there (kid_things f (listed new e) o 0 ks)) ≡ head_meaning f new h → ((n : ℕ) → HeadStands f new n h → Stands f new n e) → (found : Option Shape) → IsShapeOver new o ks e at.depth found → MatchOption found (IsUnreadable names at.depth (tree_at f old at)) (IsShapeOf f old new names at)
  shape_made names o ks e is env None over = over f (tree_at f old at) (is ∙ head_tree) names
  shape_made names o ks e is env (Some s) over =
      shape_found f old new names at e s (tree_at f old at) refl (λ n c. env n (stands n c)) (over f (tree_at f old at) (is ∙ head_tree))
