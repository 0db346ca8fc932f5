-- Where steps lead, as rows.
use Rattle.std.proofs.Common.{◌≡◌, inl, inr, ℕ, Option, Some, None, refl, sym, ◌∙◌}
use Rattle.trees.specs.declared.op.Op.{Op}
use Rattle.trees.specs.declared.op.Op.TheVariants as op
use Rattle.trees.specs.Trees.{Tree, Make, More, NoTrees}
use Rattle.trees.specs.Judgements.{WithVar, WithName, WithFace}
use Rattle.trees.specs.Things.{ATree, AContext, Meanings}
use Rattle.book.specs.declared.kernel.NodeId.{NodeId}
use Rattle.trails.specs.declared.kids.Listed.{Listed}
use Rattle.trails.specs.declared.glued.Equation.{Equation}
use Rattle.trails.specs.declared.station.Sort.TheVariants as sort
use Rattle.trails.specs.declared.station.StationRows.{StationRows}
use Rattle.trails.specs.declared.steps.Step.{Step}
use Rattle.trails.specs.declared.steps.Link.TheVariants as link
use Rattle.trails.specs.Kids.{HasKid, kid}
use Rattle.trails.specs.Stations.{Station, station}
use Rattle.trails.specs.Trails.{IsKidOr, OneIs, IsFirst, sort_of, face_at, within, where_side, conjunction, side, HasConjunction, HasSide, at_variable, HaveOne, unglued}
use Rattle.trails.specs.Trails.{IsInto, IsSide, IsUnderVariable, IsUnderName, IsHalf, IsGlued, IsOnFace, IsStep, Conclusions, AreAlike, AreNormal, AreBases, Leads}
use Rattle.trails.specs.Rows.{Stands, Goes, GoesOr, RowOf, IsListed, IsEquation, IsUngluedAs}
use Rattle.trails.proofs.EquationLaws.{equates}

pub goes_or-as : (f : Meanings) (o : Option StationRows) (V W : Station → Type 0) → ((q : Station) → V q → W q) → ((q : Station) → W q → V q) → GoesOr f o V → GoesOr f o W
goes_or-as f None V W to from none = λ q w. none q (from q w)
goes_or-as f (Some rows) V W to from goes = record { next = goes.next; way = to goes.next goes.way; stands = goes.stands }

pub into-goes : (f : Meanings) (k : ℕ) (s : Station) (found : Listed) (rows : StationRows) → IsListed k s.left found → sort_of found.part ≡ Some rows.sort → HasKid found.op k s.left → HasKid found.op k s.right → f rows.ctx ≡ Some (AContext (within found.part s.ctx s.left)) → f rows.left ≡ Some (ATree (kid k s.left)) → f rows.right ≡ Some (ATree (kid k s.right)) → Goes f rows (IsInto k s)
into-goes f k s found rows is sorted has also ctx left right = record {
  next = station (within found.part s.ctx s.left) (kid k s.left) (kid k s.right) rows.sort;
  way = record { op = found.op; part = found.part; listed = is.listed; is = sorted; left_has = has; right_has = also; ctx = refl; left = refl; right = refl };
  stands = record { ctx = ctx; left = left; right = right; is = refl };
}

pub side-goes : (f : Meanings) (k n place : ℕ) (s : Station) (found : Listed) (rows : StationRows) → IsListed k s.left found → face_at found.part ≡ Some place → HaveOne found.op place s → HasConjunction n (kid place s.left) → HasKid found.op k s.left × HasSide n (kid k s.left) → HasKid found.op k s.right × HasSide n (kid k s.right) → f rows.ctx ≡ Some (AContext (where_side found.part (WithFace s.ctx (conjunction n (kid place s.left))))) → f rows.left ≡ Some (ATree (side n (kid k s.left))) → f rows.right ≡ Some (ATree (side n (kid k s.right))) → rows.sort ≡ sort.Term → Goes f rows (IsSide k n s)
side-goes f k n place s found rows is faced one there has also ctx left right term = record {
  next = station (where_side found.part (WithFace s.ctx (conjunction n (kid place s.left)))) (side n (kid k s.left)) (side n (kid k s.right)) sort.Term;
  way = record { op = found.op; part = found.part; place = place; listed = is.listed; faced = faced; face = one; there = there; left_has = has; right_has = also; ctx = refl; left = refl; right = refl; is = refl };
  stands = record { ctx = ctx; left = left; right = right; is = term };
}

pub variable-goes : (f : Meanings) (s : Station) (A : Tree) (rows : StationRows) → IsFirst op.Lam s A → f rows.ctx ≡ Some (AContext (WithVar s.ctx A)) → RowOf f rows.left (IsKidOr op.Lam 1 s.left (at_variable op.App s.left)) → RowOf f rows.right (IsKidOr op.Lam 1 s.right (at_variable op.App s.right)) → rows.sort ≡ sort.Term → Goes f rows (IsUnderVariable s)
variable-goes f s A rows first ctx l r term = record {
  next = station (WithVar s.ctx A) l.tree r.tree sort.Term;
  way = record { domain = A; first = first; ctx = refl; left = l.holds; right = r.holds; is = refl };
  stands = record { ctx = ctx; left = l.is; right = r.is; is = term };
}

pub name-goes : (f : Meanings) (s : Station) (rows : StationRows) → (OneIs op.Lam s → ⊥) → OneIs op.PLam s → f rows.ctx ≡ Some (AContext (WithName s.ctx)) → RowOf f rows.left (IsKidOr op.PLam 0 s.left (at_variable op.PApp s.left)) → RowOf f rows.right (IsKidOr op.PLam 0 s.right (at_variable op.PApp s.right)) → rows.sort ≡ sort.Term → Goes f rows (IsUnderName s)
name-goes f s rows none one ctx l r term = record {
  next = station (WithName s.ctx) l.tree r.tree sort.Term;
  way = record { none = none; one = one; ctx = refl; left = l.holds; right = r.holds; is = refl };
  stands = record { ctx = ctx; left = l.is; right = r.is; is = term };
}

pub half-goes : (f : Meanings) (k : ℕ) (by : Op) (s : Station) (rows : StationRows) → OneIs op.Pair s → f rows.ctx ≡ Some (AContext s.ctx) → RowOf f rows.left (IsKidOr op.Pair k s.left (Make by (More s.left NoTrees))) → RowOf f rows.right (IsKidOr op.Pair k s.right (Make by (More s.right NoTrees))) → rows.sort ≡ sort.Term → Goes f rows (IsHalf k by s)
half-goes f k by s rows one ctx l r term = record {
  next = station s.ctx l.tree r.tree sort.Term;
  way = record { one = one; ctx = refl; left = l.holds; right = r.holds; is = refl };
  stands = record { ctx = ctx; left = l.is; right = r.is; is = term };
}

pub glued-goes : (f : Meanings) (s : Station) (rows : StationRows) → OneIs op.Glue s → f rows.ctx ≡ Some (AContext s.ctx) → f rows.left ≡ Some (ATree s.left) → f rows.right ≡ Some (ATree s.right) → rows.sort ≡ sort.Glued → Goes f rows (IsGlued s)
glued-goes f s rows one ctx left right glued = record {
  next = station s.ctx s.left s.right sort.Glued;
  way = record { one = one; goes = refl };
  stands = record { ctx = ctx; left = left; right = right; is = glued };
}

pub face-goes : (f : Meanings) (n : ℕ) (s : Station) (p : Tree) (rows : StationRows) → IsFirst op.Glue s p → HasConjunction n p → f rows.ctx ≡ Some (AContext (WithFace s.ctx (conjunction n p))) → f rows.left ≡ Some (ATree s.left) → f rows.right ≡ Some (ATree s.right) → rows.sort ≡ sort.Rough → Goes f rows (IsOnFace n s)
face-goes f n s p rows first there ctx left right rough = record {
  next = station (WithFace s.ctx (conjunction n p)) s.left s.right sort.Rough;
  way = record { face = p; first = first; there = there; goes = refl };
  stands = record { ctx = ctx; left = left; right = right; is = rough };
}

pub normal-goes : (f g : Meanings) (C : Conclusions) (m n : ℕ) (l r : Equation) (i : IsEquation f (C m) l) (j : IsEquation f (C n) r) (s : Station) (rows : StationRows) → AreAlike i.ctx s.ctx × (i.left ≡ s.left) → AreAlike j.ctx s.ctx × (j.left ≡ s.right) → g rows.ctx ≡ Some (AContext s.ctx) → g rows.left ≡ Some (ATree i.right) → g rows.right ≡ Some (ATree j.right) → rows.sort ≡ sort.Term → Goes g rows (AreNormal C m n s)
normal-goes f g C m n l r i j s rows is also ctx left right term = record {
  next = station s.ctx i.right j.right sort.Term;
  way = record { left = equates f C m l i s.ctx s.left is.0 is.1; right = equates f C n r j s.ctx s.right also.0 also.1; ctx = refl; is = refl };
  stands = record { ctx = ctx; left = left; right = right; is = term };
}

pub unglued-goes : (f : Meanings) (a : Tree) (s : Station) (rows : StationRows) → HasKid op.Unglue 0 a → HasKid op.Unglue 1 a → HasKid op.Unglue 2 a → Stands f rows (unglued (kid 0 a) (kid 1 a) (kid 2 a) s) → Goes f rows (IsUngluedAs a s)
unglued-goes f a s rows face types maps stands = record {
  next = unglued (kid 0 a) (kid 1 a) (kid 2 a) s;
  way = record { face = face; types = types; maps = maps; goes = refl };
  stands = stands;
}

-- where links lead

pub step-leads : (f : Meanings) (o : Option StationRows) (C : Conclusions) (st : Step) (s : Station) → s.sort ≡ sort.Term → GoesOr f o (IsStep st s) → GoesOr f o (Leads C (link.Step st) s)
step-leads f o C st s is = goes_or-as f o (IsStep st s) (Leads C (link.Step st) s) (λ q way. (is, way)) (λ q leads. leads.1)

pub bases-lead : (f : Meanings) (o : Option StationRows) (C : Conclusions) (m n : NodeId) (s : Station) → s.sort ≡ sort.Glued → GoesOr f o (AreBases C m.0 n.0 s) → GoesOr f o (Leads C (link.Normal m n) s)
bases-lead f o C m n s is = goes_or-as f o (AreBases C m.0 n.0 s) (Leads C (link.Normal m n) s) (λ q bases. inl (is, bases)) from
  where
    from : (q : Station) → Leads C (link.Normal m n) s q → AreBases C m.0 n.0 s q
    from q (inl leads) = leads.1
    from q (inr leads) = let no : sort.Glued ≡ sort.Rough = sym is ∙ leads.0 in cc

pub normal-leads : (f : Meanings) (o : Option StationRows) (C : Conclusions) (m n : NodeId) (s : Station) → s.sort ≡ sort.Rough → GoesOr f o (AreNormal C m.0 n.0 s) → GoesOr f o (Leads C (link.Normal m n) s)
normal-leads f o C m n s is = goes_or-as f o (AreNormal C m.0 n.0 s) (Leads C (link.Normal m n) s) (λ q normal. inr (is, normal)) from
  where
    from : (q : Station) → Leads C (link.Normal m n) s q → AreNormal C m.0 n.0 s q
    from q (inl leads) = let no : sort.Glued ≡ sort.Rough = sym leads.0 ∙ is in cc
    from q (inr leads) = leads.1
