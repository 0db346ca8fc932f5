-- Where no step leads, and what the kids of two trees of one operator are.
use Rattle.std.proofs.Common.{◌≡◌, ℕ, Some, None, sym, ◌∙◌, ap, subst}
use Rattle.std.specs.Prelude.{slice_get}
use Rattle.trees.specs.declared.op.Op.{Op}
use Rattle.trees.specs.Trees.{Tree, Trees, Var, Make}
use Rattle.trails.specs.declared.kids.Listed.{Listed}
use Rattle.trails.specs.Kids.{HasKid, kid}
use Rattle.trails.specs.Parts.{parts_of}
use Rattle.trails.specs.Stations.{Station}
use Rattle.trails.specs.Trails.{sort_of, face_at, HasConjunction, HasSide, HaveOne, IsInto, IsSide}
use Rattle.trails.specs.Rows.{operator_of, IsListed, IsListedOr}
use Rattle.trails.proofs.TrailLaws.{same-some, operator-is, one-operator, one-part}

pub not-listed : (o : Op) (k : ℕ) (t : Tree) (ts : Trees) → t ≡ Make o ts → slice_get (parts_of o) k ≡ None → IsListedOr k t None
not-listed o k t ts made none = λ with part is listed.
    let same : o ≡ with = same-some o with (sym (ap operator_of made) ∙ is) in
    let wrong : None ≡ Some part = sym none ∙ ap (λ x. slice_get (parts_of x) k) same ∙ listed in
    cc

pub variable-listed : (k i : ℕ) (t : Tree) → t ≡ Var i → IsListedOr k t None
variable-listed k i t is = λ with part operator listed.
    let wrong : None ≡ Some with = sym (ap operator_of is) ∙ operator in
    cc

-- both are listed as one
found-op : (k : ℕ) (s : Station) (found : Listed) (o : Op) → IsListed k s.left found → HasKid o k s.left → o ≡ found.op
found-op k s found o is has = one-operator o found.op k s.left has is.operator

pub into-unlisted : (k : ℕ) (s : Station) → IsListedOr k s.left None → (q : Station) → IsInto k s q → ⊥
into-unlisted k s none q a = none a.op a.part (operator-is a.op k s.left a.left_has) a.listed

pub into-faced : (k : ℕ) (s : Station) (found : Listed) → IsListed k s.left found → sort_of found.part ≡ None → (q : Station) → IsInto k s q → ⊥
into-faced k s found is none q a =
    let same = one-part a.op found.op a.part found.part k (found-op k s found a.op is a.left_has) a.listed is.listed in
    let wrong : Some q.sort ≡ None = sym a.is ∙ ap sort_of same ∙ none in
    cc

pub into-no_left : (k : ℕ) (s : Station) (found : Listed) → IsListed k s.left found → (HasKid found.op k s.left → ⊥) → (q : Station) → IsInto k s q → ⊥
into-no_left k s found is never q a = never (subst (λ o. HasKid o k s.left) (found-op k s found a.op is a.left_has) a.left_has)

pub into-no_right : (k : ℕ) (s : Station) (found : Listed) → IsListed k s.left found → (HasKid found.op k s.right → ⊥) → (q : Station) → IsInto k s q → ⊥
into-no_right k s found is never q a = never (subst (λ o. HasKid o k s.right) (found-op k s found a.op is a.left_has) a.right_has)

pub side-unlisted : (k n : ℕ) (s : Station) → IsListedOr k s.left None → (q : Station) → IsSide k n s q → ⊥
side-unlisted k n s none q a = none a.op a.part (operator-is a.op k s.left a.left_has.0) a.listed

-- the face of a side that is listed
pub record SameSide (k n : ℕ) (s q : Station) (found : Listed) (a : IsSide k n s q) : Type 0 where
  pub op : a.op ≡ found.op
  pub part : a.part ≡ found.part

pub same-side : (k n : ℕ) (s q : Station) (found : Listed) (is : IsListed k s.left found) (a : IsSide k n s q) → SameSide k n s q found a
same-side k n s q found is a =
    let o = found-op k s found a.op is a.left_has.0 in
    record { op = o; part = one-part a.op found.op a.part found.part k o a.listed is.listed }

pub side-plain : (k n : ℕ) (s : Station) (found : Listed) → IsListed k s.left found → face_at found.part ≡ None → (q : Station) → IsSide k n s q → ⊥
side-plain k n s found is none q a =
    let wrong : Some a.place ≡ None = sym a.faced ∙ ap face_at (same-side k n s q found is a).part ∙ none in
    cc

pub side-place : (k n place : ℕ) (s q : Station) (found : Listed) → IsListed k s.left found → face_at found.part ≡ Some place → (a : IsSide k n s q) → a.place ≡ place
side-place k n place s q found is faced a = same-some a.place place (sym a.faced ∙ ap face_at (same-side k n s q found is a).part ∙ faced)

pub side-faces : (k n place : ℕ) (s : Station) (found : Listed) → IsListed k s.left found → face_at found.part ≡ Some place → (HaveOne found.op place s → ⊥) → (q : Station) → IsSide k n s q → ⊥
side-faces k n place s found is faced never q a =
    never (subst (λ j. HaveOne found.op j s) (side-place k n place s q found is faced a) (subst (λ o. HaveOne o a.place s) (same-side k n s q found is a).op a.face))

pub side-no_conjunction : (k n place : ℕ) (s : Station) (found : Listed) → IsListed k s.left found → face_at found.part ≡ Some place → (HasConjunction n (kid place s.left) → ⊥) → (q : Station) → IsSide k n s q → ⊥
side-no_conjunction k n place s found is faced never q a =
    never (subst (λ j. HasConjunction n (kid j s.left)) (side-place k n place s q found is faced a) a.there)

pub side-no_left : (k n : ℕ) (s : Station) (found : Listed) → IsListed k s.left found → (HasKid found.op k s.left × HasSide n (kid k s.left) → ⊥) → (q : Station) → IsSide k n s q → ⊥
side-no_left k n s found is never q a = never (subst (λ o. HasKid o k s.left × HasSide n (kid k s.left)) (same-side k n s q found is a).op a.left_has)

pub side-no_right : (k n : ℕ) (s : Station) (found : Listed) → IsListed k s.left found → (HasKid found.op k s.right × HasSide n (kid k s.right) → ⊥) → (q : Station) → IsSide k n s q → ⊥
side-no_right k n s found is never q a = never (subst (λ o. HasKid o k s.right × HasSide n (kid k s.right)) (same-side k n s q found is a).op a.right_has)
