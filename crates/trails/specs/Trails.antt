-- Trails: steps from two trees of a context to parts of both, each equal to what the step names, up
-- to two that show that they differ if those at the beginning are normal.
use Rattle.std.specs.Prelude.{◌≡◌, ◌⊎◌, ℕ, zero, suc, List, [], ◌∷◌, Option, Some, None, cond}
use Rattle.std.specs.Prelude.{slice_get, IsTrue}
use Rattle.trees.specs.declared.op.Op.{Op}
use Rattle.trees.specs.declared.op.Op.TheVariants as op
use Rattle.trees.specs.Trees.{Tree, NoTrees, More, Var, Make}
use Rattle.trees.specs.Language.{TmEq}
use Rattle.trees.specs.Judgements.{Context, Nil, WithVar, WithName, WithFace, Judgement, trees}
use Rattle.substitution.specs.Forms.{weaken}
use Rattle.conditions.specs.Sides.{is_face, HoldsIn, SameIn}
use Rattle.trails.specs.declared.ends.Form.{Form}
use Rattle.trails.specs.declared.ends.Form.TheVariants as form
use Rattle.trails.specs.declared.part.Part.{Part}
use Rattle.trails.specs.declared.part.Part.TheVariants as part
use Rattle.trails.specs.declared.station.Sort.{Sort}
use Rattle.trails.specs.declared.station.Sort.TheVariants as sort
use Rattle.trails.specs.declared.steps.Step.{Step}
use Rattle.trails.specs.declared.steps.Step.TheVariants as step
use Rattle.trails.specs.declared.steps.Link.{Link}
use Rattle.trails.specs.declared.steps.Link.TheVariants as link
use Rattle.trails.specs.Kids.{HasKid, kid}
use Rattle.trails.specs.Parts.{parts_of, is_made}
use Rattle.trails.specs.Stations.{Station, station}

-- The parts that steps name

-- the kid at a place of a tree of that operator; of any other tree, this one
abbrev pub IsKidOr : Op → ℕ → Tree → Tree → Tree → Type 0
IsKidOr op k t other x = (HasKid op k t × (x ≡ kid k t)) ⊎ ((HasKid op k t → ⊥) × (x ≡ other))

-- one of the two is of that operator
abbrev pub OneIs : Op → Station → Type 0
OneIs op s = HasKid op 0 s.left ⊎ HasKid op 0 s.right

-- the first kid of the left one if it is of that operator, and else of the right one
pub record IsFirst (op : Op) (s : Station) (t : Tree) : Type 0 where
  pub one : OneIs op s
  pub chosen : IsKidOr op 0 s.left (kid 0 s.right) t

-- what a kid is, and the context in which it stands, that of its tree with its own entry
abbrev pub sort_of : Part → Option Sort
sort_of part.Formula = Some sort.Formula
sort_of part.Face = Some sort.Face
sort_of (part.Sides place) = None
sort_of (part.Lines place) = None
sort_of _ = Some sort.Term

abbrev pub within : Part → Context → Tree → Context
within part.Family G t = WithVar G (kid 0 t)
within part.Motive G t = WithVar G (Make op.Nat NoTrees)
within part.Line G t = WithName G
within _ G t = G

-- so many kids at one place deep, each of that operator
abbrev pub behind : ℕ → ℕ → Tree → Tree
behind k zero t = t
behind k (suc n) t = kid k (behind k n t)

abbrev pub HasBehind : Op → ℕ → ℕ → Tree → Type 0
HasBehind op k zero t = Unit {0}
HasBehind op k (suc n) t = HasBehind op k n t × HasKid op k (behind k n t)

-- the conjunctions of a face `p0 or (p1 or ..)`, and the sides of a system, by their numbers
abbrev pub conjunction : ℕ → Tree → Tree
conjunction n p = kid 0 (behind 1 n p)

abbrev pub HasConjunction : ℕ → Tree → Type 0
HasConjunction n p = HasBehind op.Join 1 n p × HasKid op.Join 0 (behind 1 n p)

abbrev pub side : ℕ → Tree → Tree
side n t = kid 2 (behind 3 n t)

abbrev pub HasSide : ℕ → Tree → Type 0
HasSide n t = HasBehind op.Sys 3 n t × HasKid op.Sys 2 (behind 3 n t)

-- the place of the face above a kid
abbrev pub face_at : Part → Option ℕ
face_at (part.Sides place) = Some place
face_at (part.Lines place) = Some place
face_at _ = None

-- the context of a side, where its conjunction is true
abbrev pub where_side : Part → Context → Context
where_side (part.Lines place) G = WithName G
where_side _ G = G

abbrev pub at_variable : Op → Tree → Tree
at_variable by t = Make by (More (weaken trees t) (More (Var 0) NoTrees))

abbrev pub unglue : Tree → Tree → Tree → Tree → Tree
unglue p T w t = Make op.Unglue (More p (More T (More w (More t NoTrees))))

-- Steps

-- to the kids at a place of two trees of one operator, which no eta rule takes apart
pub record IsInto (k : ℕ) (s q : Station) : Type 0 where
  pub op : Op
  pub part : Part
  pub listed : slice_get (parts_of op) k ≡ Some part
  pub is : sort_of part ≡ Some q.sort
  pub left_has : HasKid op k s.left
  pub right_has : HasKid op k s.right
  pub ctx : q.ctx ≡ within part s.ctx s.left
  pub left : q.left ≡ kid k s.left
  pub right : q.right ≡ kid k s.right

-- both trees are of that operator, with one kid at that place
pub record HaveOne (op : Op) (k : ℕ) (s : Station) : Type 0 where
  pub left : HasKid op k s.left
  pub right : HasKid op k s.right
  pub same : kid k s.left ≡ kid k s.right

-- to the sides of one number, where their conjunction is true, of the kids at a place of two trees
-- of one operator and one face
pub record IsSide (k n : ℕ) (s q : Station) : Type 0 where
  pub op : Op
  pub part : Part
  pub place : ℕ
  pub listed : slice_get (parts_of op) k ≡ Some part
  pub faced : face_at part ≡ Some place
  pub face : HaveOne op place s
  pub there : HasConjunction n (kid place s.left)
  pub left_has : HasKid op k s.left × HasSide n (kid k s.left)
  pub right_has : HasKid op k s.right × HasSide n (kid k s.right)
  pub ctx : q.ctx ≡ where_side part (WithFace s.ctx (conjunction n (kid place s.left)))
  pub left : q.left ≡ side n (kid k s.left)
  pub right : q.right ≡ side n (kid k s.right)
  pub is : q.sort ≡ sort.Term

-- to both at a variable of the domain of one that is a `lam`
pub record IsUnderVariable (s q : Station) : Type 0 where
  pub domain : Tree
  pub first : IsFirst op.Lam s domain
  pub ctx : q.ctx ≡ WithVar s.ctx domain
  pub left : IsKidOr op.Lam 1 s.left (at_variable op.App s.left) q.left
  pub right : IsKidOr op.Lam 1 s.right (at_variable op.App s.right) q.right
  pub is : q.sort ≡ sort.Term

-- to both at a name, where one is a `plam`
pub record IsUnderName (s q : Station) : Type 0 where
  pub none : OneIs op.Lam s → ⊥
  pub one : OneIs op.PLam s
  pub ctx : q.ctx ≡ WithName s.ctx
  pub left : IsKidOr op.PLam 0 s.left (at_variable op.PApp s.left) q.left
  pub right : IsKidOr op.PLam 0 s.right (at_variable op.PApp s.right) q.right
  pub is : q.sort ≡ sort.Term

abbrev pub IsUnder : Station → Station → Type 0
IsUnder s q = IsUnderVariable s q ⊎ IsUnderName s q

-- to the halves of both, where one is a `pair`
pub record IsHalf (k : ℕ) (by : Op) (s q : Station) : Type 0 where
  pub one : OneIs op.Pair s
  pub ctx : q.ctx ≡ s.ctx
  pub left : IsKidOr op.Pair k s.left (Make by (More s.left NoTrees)) q.left
  pub right : IsKidOr op.Pair k s.right (Make by (More s.right NoTrees)) q.right
  pub is : q.sort ≡ sort.Term

-- to both as elements of a glued type, where one is a `glue`
pub record IsGlued (s q : Station) : Type 0 where
  pub one : OneIs op.Glue s
  pub goes : q ≡ station s.ctx s.left s.right sort.Glued

-- to both where one conjunction of the face of a `glue` is true
pub record IsOnFace (n : ℕ) (s q : Station) : Type 0 where
  pub face : Tree
  pub first : IsFirst op.Glue s face
  pub there : HasConjunction n face
  pub goes : q ≡ station (WithFace s.ctx (conjunction n face)) s.left s.right sort.Rough

abbrev pub IsStep : Step → Station → Station → Type 0
IsStep (step.Into k) s q = IsInto k s q
IsStep (step.Side k n) s q = IsSide k n s q
IsStep step.Under s q = IsUnder s q
IsStep step.First s q = IsHalf 0 op.Fst s q
IsStep step.Second s q = IsHalf 1 op.Snd s q
IsStep (step.Base n) s q = IsGlued s q
IsStep (step.Face n) s q = IsOnFace n s q

-- Normal forms, of the equations of nodes

-- two faces are true at the same points: each is wherever the other is
abbrev pub Follows : Context → Tree → Tree → Type 0
Follows G p q = IsTrue (is_face (WithFace G p) q) × HoldsIn (WithFace G p) q

abbrev pub SameFaces : Context → Tree → Tree → Type 0
SameFaces G p q = Follows G p q × Follows G q p

-- the contexts have the same entries, but for faces, which are true at the same points
abbrev pub AreAlike : Context → Context → Type 0
AreAlike Nil Nil = Unit {0}
AreAlike (WithVar G A) (WithVar H B) = AreAlike G H × (A ≡ B)
AreAlike (WithName G) (WithName H) = AreAlike G H
AreAlike (WithFace G p) (WithFace H q) = AreAlike G H × SameFaces G p q
AreAlike _ _ = ⊥

-- what nodes conclude
abbrev pub Conclusions : Type 0
Conclusions = ℕ → Option Judgement

-- the node concludes `H >> a = b : A`, where H is like G
pub record Equates (C : Conclusions) (node : ℕ) (G : Context) (a b : Tree) : Type 0 where
  pub ctx : Context
  pub type : Tree
  pub alike : AreAlike ctx G
  pub concluded : C node ≡ Some (TmEq ctx a b type)

-- two nodes equate the trees of a station to those of the next
pub record AreNormal (C : Conclusions) (m n : ℕ) (s q : Station) : Type 0 where
  pub left : Equates C m s.ctx s.left q.left
  pub right : Equates C n s.ctx s.right q.right
  pub ctx : q.ctx ≡ s.ctx
  pub is : q.sort ≡ sort.Term

-- the trees of a station, unglued
abbrev pub unglued : Tree → Tree → Tree → Station → Station
unglued p T w s = station s.ctx (unglue p T w s.left) (unglue p T w s.right) s.sort

pub record AreBases (C : Conclusions) (m n : ℕ) (s q : Station) : Type 0 where
  pub face : Tree
  pub types : Tree
  pub maps : Tree
  pub normal : AreNormal C m n (unglued face types maps s) q

-- Trails

-- a link leads from one station to the next
abbrev pub Leads : Conclusions → Link → Station → Station → Type 0
Leads C (link.Step step) s q = (s.sort ≡ sort.Term) × IsStep step s q
Leads C (link.Normal m n) s q =
    ((s.sort ≡ sort.Glued) × AreBases C m.0 n.0 s q)
    ⊎ ((s.sort ≡ sort.Rough) × AreNormal C m.0 n.0 s q)

-- the outermost form of a tree that no eta rule takes apart
abbrev pub form_of : Tree → Option Form
form_of (Var i) = Some (form.Variable i)
form_of (Make op ts) = cond (is_made op) None (Some (form.Operator op))

-- two different variables, or operators, or one of each
pub record Differ (l r : Tree) : Type 0 where
  pub left : Form
  pub right : Form
  pub left_is : form_of l ≡ Some left
  pub right_is : form_of r ≡ Some right
  pub differ : left ≡ right → ⊥

-- the two trees of a station show that they differ
abbrev pub PartedAs : Sort → Station → Type 0
PartedAs sort.Term s = Differ s.left s.right
PartedAs sort.Formula s = SameIn s.ctx s.left s.right → ⊥
PartedAs sort.Face s = SameFaces s.ctx s.left s.right → ⊥
PartedAs sort.Glued s = ⊥
PartedAs sort.Rough s = ⊥

abbrev pub Parted : Station → Type 0
Parted s = PartedAs s.sort s

abbrev pub IsTrail : Conclusions → List Link → Station → Type 0
IsTrail C [] s = Parted s
IsTrail C (link ∷ links) s = (q : Station) × Leads C link s q × IsTrail C links q
