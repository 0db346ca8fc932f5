-- Where a link leads there is one next station, so trails are followed one link at a time.
use Rattle.std.proofs.Common.{◌≡◌, inl, inr, ◌↔◌, ℕ, List, ◌∷◌, Some, refl, sym, ◌∙◌, ap, ap₂, subst}
use Rattle.std.specs.Prelude.{slice_get}
use Rattle.trees.specs.declared.op.Op.{Op}
use Rattle.trees.specs.declared.op.Op.TheVariants as op
use Rattle.trees.specs.Trees.{Tree}
use Rattle.trees.specs.Language.{TmEq}
use Rattle.trees.specs.Judgements.{Context, WithVar, WithFace}
use Rattle.trees.specs.Things.{Meanings}
use Rattle.trails.specs.declared.part.Part.{Part}
use Rattle.trails.specs.declared.station.Sort.TheVariants as sort
use Rattle.trails.specs.declared.station.StationRows.{StationRows}
use Rattle.trails.specs.declared.steps.Step.{Step}
use Rattle.trails.specs.declared.steps.Step.TheVariants as step
use Rattle.trails.specs.declared.steps.Link.{Link}
use Rattle.trails.specs.declared.steps.Link.TheVariants as link
use Rattle.trails.specs.Kids.{HasKid, kid}
use Rattle.trails.specs.Parts.{parts_of}
use Rattle.trails.specs.Stations.{Station, station}
use Rattle.trails.specs.Trails.{IsKidOr, IsFirst, sort_of, within, conjunction, face_at, where_side}
use Rattle.trails.specs.Trails.{IsInto, IsSide, IsUnder, IsHalf, IsOnFace, IsStep}
use Rattle.trails.specs.Trails.{Conclusions, Equates, AreNormal, Leads, IsTrail}
use Rattle.trails.specs.Rows.{Stands, operator_of, Widens}

pub same-some : {A : Type 0} (a b : A) → Some a ≡ Some b → a ≡ b
same-some a b e = cc

same-station : (q p : Station) → q.ctx ≡ p.ctx → q.left ≡ p.left → q.right ≡ p.right → q.sort ≡ p.sort → q ≡ p
same-station q p c l r s =
    ap (λ x. station x q.left q.right q.sort) c
    ∙ ap (λ x. station p.ctx x q.right q.sort) l
    ∙ ap₂ (station p.ctx p.left) r s

kid_or-only : (op : Op) (k : ℕ) (t other x y : Tree) → IsKidOr op k t other x → IsKidOr op k t other y → x ≡ y
kid_or-only op k t other x y (inl a) (inl b) = a.1 ∙ sym b.1
kid_or-only op k t other x y (inr a) (inr b) = a.1 ∙ sym b.1
kid_or-only op k t other x y (inl a) (inr b) = absurd (b.0 a.0)
kid_or-only op k t other x y (inr a) (inl b) = absurd (a.0 b.0)

pub first-only : (op : Op) (s : Station) (x y : Tree) → IsFirst op s x → IsFirst op s y → x ≡ y
first-only op s x y a b = kid_or-only op 0 s.left (kid 0 s.right) x y a.chosen b.chosen

pub operator-is : (op : Op) (k : ℕ) (t : Tree) → HasKid op k t → operator_of t ≡ Some op
operator-is op k t has = ap operator_of has.made

pub one-operator : (op other : Op) (k : ℕ) (t : Tree) → HasKid op k t → operator_of t ≡ Some other → op ≡ other
one-operator op other k t has is = same-some op other (sym (operator-is op k t has) ∙ is)

pub one-part : (op other : Op) (part with : Part) (k : ℕ) → op ≡ other → slice_get (parts_of op) k ≡ Some part → slice_get (parts_of other) k ≡ Some with → part ≡ with
one-part op other part with k same a b = same-some part with (sym a ∙ ap (λ o. slice_get (parts_of o) k) same ∙ b)

into-only : (k : ℕ) (s q p : Station) → IsInto k s q → IsInto k s p → q ≡ p
into-only k s q p a b =
    let ops = one-operator a.op b.op k s.left a.left_has (operator-is b.op k s.left b.left_has) in
    let parts = one-part a.op b.op a.part b.part k ops a.listed b.listed in
    same-station q p
    (a.ctx ∙ ap (λ x. within x s.ctx s.left) parts ∙ sym b.ctx) (a.left ∙ sym b.left) (a.right ∙ sym b.right)
    (same-some q.sort p.sort (sym a.is ∙ ap sort_of parts ∙ b.is))

side-only : (k n : ℕ) (s q p : Station) → IsSide k n s q → IsSide k n s p → q ≡ p
side-only k n s q p a b =
    let ops = one-operator a.op b.op k s.left a.left_has.0 (operator-is b.op k s.left b.left_has.0) in
    let parts = one-part a.op b.op a.part b.part k ops a.listed b.listed in
    let places = same-some a.place b.place (sym a.faced ∙ ap face_at parts ∙ b.faced) in
    same-station q p
    (a.ctx ∙ ap₂ (λ x j. where_side x (WithFace s.ctx (conjunction n (kid j s.left)))) parts places ∙ sym b.ctx)
    (a.left ∙ sym b.left) (a.right ∙ sym b.right) (a.is ∙ sym b.is)

under-only : (s q p : Station) → IsUnder s q → IsUnder s p → q ≡ p
under-only s q p (inl a) (inl b) =
    same-station q p
    (a.ctx ∙ ap (WithVar s.ctx) (first-only op.Lam s a.domain b.domain a.first b.first) ∙ sym b.ctx)
    (kid_or-only _ _ _ _ q.left p.left a.left b.left) (kid_or-only _ _ _ _ q.right p.right a.right b.right) (a.is ∙ sym b.is)
under-only s q p (inr a) (inr b) =
    same-station q p (a.ctx ∙ sym b.ctx)
    (kid_or-only _ _ _ _ q.left p.left a.left b.left) (kid_or-only _ _ _ _ q.right p.right a.right b.right) (a.is ∙ sym b.is)
under-only s q p (inl a) (inr b) = absurd (b.none a.first.one)
under-only s q p (inr a) (inl b) = absurd (a.none b.first.one)

half-only : (k : ℕ) (by : Op) (s q p : Station) → IsHalf k by s q → IsHalf k by s p → q ≡ p
half-only k by s q p a b =
    same-station q p (a.ctx ∙ sym b.ctx)
    (kid_or-only _ _ _ _ q.left p.left a.left b.left) (kid_or-only _ _ _ _ q.right p.right a.right b.right) (a.is ∙ sym b.is)

face-only : (n : ℕ) (s q p : Station) → IsOnFace n s q → IsOnFace n s p → q ≡ p
face-only n s q p a b =
    a.goes
    ∙ ap (λ t. station (WithFace s.ctx (conjunction n t)) s.left s.right sort.Rough) (first-only op.Glue s a.face b.face a.first b.first)
    ∙ sym b.goes

step-only : (st : Step) (s q p : Station) → IsStep st s q → IsStep st s p → q ≡ p
step-only (step.Into k) s q p a b = into-only k s q p a b
step-only (step.Side k n) s q p a b = side-only k n s q p a b
step-only step.Under s q p a b = under-only s q p a b
step-only step.First s q p a b = half-only 0 op.Fst s q p a b
step-only step.Second s q p a b = half-only 1 op.Snd s q p a b
step-only (step.Base n) s q p a b = a.goes ∙ sym b.goes
step-only (step.Face n) s q p a b = face-only n s q p a b

equates-only : (C : Conclusions) (node : ℕ) (G H : Context) (a b x y : Tree) → Equates C node G a x → Equates C node H b y → x ≡ y
equates-only C node G H a b x y e f =
    let both : Some (TmEq e.ctx a x e.type) ≡ Some (TmEq f.ctx b y f.type) = sym e.concluded ∙ f.concluded in
    cc

normal-only : (C : Conclusions) (m n : ℕ) (s t q p : Station) → s.ctx ≡ t.ctx → AreNormal C m n s q → AreNormal C m n t p → q ≡ p
normal-only C m n s t q p same a b =
    same-station q p (a.ctx ∙ same ∙ sym b.ctx)
    (equates-only C m s.ctx t.ctx s.left t.left q.left p.left a.left b.left)
    (equates-only C n s.ctx t.ctx s.right t.right q.right p.right a.right b.right)
    (a.is ∙ sym b.is)

pub leads-only : (C : Conclusions) (l : Link) (s q p : Station) → Leads C l s q → Leads C l s p → q ≡ p
leads-only C (link.Step st) s q p a b = step-only st s q p a.1 b.1
leads-only C (link.Normal m n) s q p (inl a) (inl b) = normal-only C m.0 n.0 _ _ q p refl a.1.normal b.1.normal
leads-only C (link.Normal m n) s q p (inr a) (inr b) = normal-only C m.0 n.0 s s q p refl a.1 b.1
leads-only C (link.Normal m n) s q p (inl a) (inr b) = let no : sort.Glued ≡ sort.Rough = sym a.0 ∙ b.0 in cc
leads-only C (link.Normal m n) s q p (inr a) (inl b) = let no : sort.Glued ≡ sort.Rough = sym b.0 ∙ a.0 in cc

-- so far a trail is followed, to this station

pub record FollowedTo (f : Meanings) (C : Conclusions) (links rest : List Link) (rows : StationRows) (s : Station) : Type 0 where
  pub next : Station
  pub stands : Stands f rows next
  pub same : IsTrail C links s ↔ IsTrail C rest next

pub followed-none : (f : Meanings) (C : Conclusions) (links : List Link) (rows : StationRows) (s : Station) → Stands f rows s → FollowedTo f C links links rows s
followed-none f C links rows s stands = record { next = s; stands = stands; same = (λ t. t, λ t. t) }

pub followed-more : (f g : Meanings) (C : Conclusions) (links rest : List Link) (l : Link) (old new : StationRows) (s q : Station) (t : FollowedTo f C links (l ∷ rest) old s) → Leads C l t.next q → Stands g new q → FollowedTo g C links rest new s
followed-more f g C links rest l old new s q t leads stands = record {
  next = q;
  stands = stands;
  same = (
    λ trail.
        let first = t.same.0 trail in
        subst (IsTrail C rest) (leads-only C l t.next first.0 q first.1 leads) first.2,
    λ trail. t.same.1 (q, leads, trail),
  );
}

pub not-followed : (f : Meanings) (C : Conclusions) (links rest : List Link) (l : Link) (rows : StationRows) (s : Station) (t : FollowedTo f C links (l ∷ rest) rows s) → ((q : Station) → Leads C l t.next q → ⊥) → IsTrail C links s → ⊥
not-followed f C links rest l rows s t none trail = let first = t.same.0 trail in none first.0 first.1

pub widens-before : (old new C : Conclusions) → Widens old new → Widens new C → Widens old C
widens-before old new C a b = record { keeps = λ k J is. b.keeps k J (a.keeps k J is) }
