-- Side conditions: formulas and faces over the names of a context, faces that hold, and formulas of
-- one value.
use Rattle.std.specs.Prelude.{◌≡◌, ◌⊎◌, ℕ, zero, suc, ◌∷◌, drop, Bool}
use Rattle.std.specs.Prelude.{true, false, ◌&&◌, ◌||◌, IsTrue}
use Rattle.trees.specs.declared.op.Op.TheVariants as op
use Rattle.trees.specs.Trees.{Tree, Trees, Var, Make, NoTrees, More, Subst}
use Rattle.trees.specs.Language.{IsFormula, IsFace, Holds, Alike}
use Rattle.trees.specs.Judgements.{Context, Nil, WithVar, WithName, WithFace, SideCondition}
use Rattle.points.specs.Values.{Value, zero_value, one_value, free_value, negation}
use Rattle.points.specs.Values.{meet, join, Valuation, value_at}
use Rattle.points.specs.Points.{Point, Free, valuation_of, LiesOver}

-- The index is that of a name. Variables and names take an index, faces none.
abbrev pub is_name : Context → ℕ → Bool
is_name Nil k = false
is_name (WithVar G A) zero = false
is_name (WithVar G A) (suc k) = is_name G k
is_name (WithName G) zero = true
is_name (WithName G) (suc k) = is_name G k
is_name (WithFace G p) k = is_name G k

-- a formula over the names of G
abbrev pub is_formula : Context → Tree → Bool
is_formula G (Var k) = is_name G k
is_formula G (Make op.I0 NoTrees) = true
is_formula G (Make op.I1 NoTrees) = true
is_formula G (Make op.Neg (More r NoTrees)) = is_formula G r
is_formula G (Make op.Min (More r (More s NoTrees))) = is_formula G r && is_formula G s
is_formula G (Make op.Max (More r (More s NoTrees))) = is_formula G r && is_formula G s
is_formula G _ = false

-- a face over the names of G; `all` binds one more name
abbrev pub is_face : Context → Tree → Bool
is_face G (Make op.F0 NoTrees) = true
is_face G (Make op.F1 NoTrees) = true
is_face G (Make op.Eq0 (More r NoTrees)) = is_formula G r
is_face G (Make op.Eq1 (More r NoTrees)) = is_formula G r
is_face G (Make op.Meet (More p (More q NoTrees))) = is_face G p && is_face G q
is_face G (Make op.Join (More p (More q NoTrees))) = is_face G p && is_face G q
is_face G (Make op.All (More p NoTrees)) = is_face (WithName G) p
is_face G _ = false

-- The value of a formula, where indices have these values. Of any other tree none is told.
abbrev pub value : Valuation → Tree → Value
value v (Var k) = value_at v k
value v (Make op.I0 NoTrees) = zero_value
value v (Make op.I1 NoTrees) = one_value
value v (Make op.Neg (More r NoTrees)) = negation (value v r)
value v (Make op.Min (More r (More s NoTrees))) = meet (value v r) (value v s)
value v (Make op.Max (More r (More s NoTrees))) = join (value v r) (value v s)
value v _ = free_value

-- a face is true at a point of its names
abbrev pub is_true : Point → Tree → Bool
is_true x (Make op.F1 NoTrees) = true
is_true x (Make op.Eq0 (More r NoTrees)) = (value (valuation_of x) r).fails
is_true x (Make op.Eq1 (More r NoTrees)) = (value (valuation_of x) r).holds
is_true x (Make op.Meet (More p (More q NoTrees))) = is_true x p && is_true x q
is_true x (Make op.Join (More p (More q NoTrees))) = is_true x p || is_true x q
is_true x (Make op.All (More p NoTrees)) = is_true (Free ∷ x) p
is_true x _ = false

-- the same in G: a tree that is no face over the names of G is true at no point
abbrev pub IsTrueIn : Context → Point → Tree → Type 0
IsTrueIn G x p = IsTrue (is_face G p) × IsTrue (is_true x p)

-- all faces of G are true at the point, which gives each index of G its coordinate, the innermost
-- first
abbrev pub Satisfies : Context → Point → Type 0
Satisfies Nil x = Unit {0}
Satisfies (WithVar G A) x = Satisfies G (drop 1 x)
Satisfies (WithName G) x = Satisfies G (drop 1 x)
Satisfies (WithFace G p) x = Satisfies G x × IsTrueIn G x p

-- p is true at every point at which all faces of G are
abbrev pub HoldsIn : Context → Tree → Type 0
HoldsIn G p = (x : Point) → Satisfies G x → IsTrueIn G x p

-- r and s are formulas that have one value under every valuation over such a point
pub record SameIn (G : Context) (r s : Tree) : Type 0 where
  pub left : IsTrue (is_formula G r)
  pub right : IsTrue (is_formula G s)
  pub agree : (x : Point) → Satisfies G x → (v : Valuation) → LiesOver x v → value v r ≡ value v s

-- at each place the two trees are equal, or formulas of one value in H
abbrev pub AlikeTrees : Context → Trees → Trees → Type 0
AlikeTrees H NoTrees NoTrees = Unit {0}
AlikeTrees H (More a as') (More b bs) = ((a ≡ b) ⊎ SameIn H a b) × AlikeTrees H as' bs
AlikeTrees H _ _ = ⊥

pub record AlikeIn (H : Context) (d e : Subst) : Type 0 where
  pub shift : d.shift ≡ e.shift
  pub pushed : AlikeTrees H d.pushed e.pushed

-- what a side condition says
abbrev pub SideHolds : SideCondition → Type 0
SideHolds (IsFormula G r) = IsTrue (is_formula G r)
SideHolds (IsFace G p) = IsTrue (is_face G p)
SideHolds (Holds G p) = HoldsIn G p
SideHolds (Alike H d e) = AlikeIn H d e
