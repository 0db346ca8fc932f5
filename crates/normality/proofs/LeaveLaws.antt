-- What is left to test of an operator.
use Rattle.std.proofs.Common.{◌≡◌, ℕ, zero, suc, ◌+◌, ◌-◌, ◌*◌, ◌<◌, ◌≤◌, Bool, true, false, List, [], ◌∷◌, ◌++◌, length, drop, take, reverse, refl, sym, ◌∙◌, ap, ap₂, subst, arith}
use Rattle.std.proofs.lemmas.List.{reverse-append}
use Rattle.trees.specs.declared.op.Op.{Op}
use Rattle.trees.specs.declared.op.Op.TheVariants as op
use Rattle.trees.specs.Operators.{kids_of, binds_of}
use Rattle.trees.specs.Trees.{Tree, Var, Make, NoTrees, More, trees_of}
use Rattle.trees.specs.Things.{Meanings}
use Rattle.trees.proofs.OperatorLaws.{binds_of-most}
use Rattle.rows.specs.Tables.{Grows}
use Rattle.rows.proofs.TableLaws.{grows-same}
use Rattle.closures.specs.declared.closure.Closure.{Closure}
use Rattle.closures.specs.Environments.{Waiting, listed}
use Rattle.closures.specs.Closures.{IsClosure, Stands}
use Rattle.closures.proofs.HeadLaws.{closure-deeper, closure-grows, stands-deeper}
use Rattle.tree_frames.specs.declared.frames.Frame.{Frame}
use Rattle.tree_frames.specs.Frames.{tree_in, frame_trees, weight, all_weights, FrameStands, IsFrame, IsKidAt, OpensFrame}
use Rattle.tree_frames.proofs.FrameLaws.{drop-past, frame-deeper, frame-weight, weight-some, tree-grows}
use Rattle.fixed_names.specs.declared.scopes.Scope.{Scope}
use Rattle.fixed_names.specs.Fixed.{Fixed, IsFree, bind, bound}
use Rattle.fixed_names.specs.Scopes.{fixed_in, depth_of, IsWithin}
use Rattle.fixed_names.proofs.ScopeLaws.{fixed-grows, within-grows}
use Rattle.normal_parts.proofs.KidLaws.{count-of, two-kids, three-kids, four-kids}
use Rattle.normality.specs.declared.places.Place.{Place}
use Rattle.normality.specs.declared.places.Place.TheVariants as place
use Rattle.normality.specs.declared.places.Kind.TheVariants as kind
use Rattle.normality.specs.declared.tests.Part.{Part}
use Rattle.normality.specs.declared.tests.Sides.{Sides}
use Rattle.normality.specs.declared.tests.Test.{Test}
use Rattle.normality.specs.declared.tests.Test.TheVariants as test
use Rattle.normal_parts.specs.Normal.{Normal, Computes, AreSides, fix_all}
use Rattle.normal_parts.specs.Parts.{HasNormalFace, MayApply, all_written, IsConjunctionOf, IsCoverOf}
use Rattle.normality.specs.Places.{MayStand, place_of, kind_of}
use Rattle.normality.specs.Worlds.{World, at}
use Rattle.normality.specs.Tests.{part_at, sides_over, PassesAt, KidsPass, SidesPass, Passes, AllPass, IsGood, steps_of, all_steps, PartIs, ScopeFits, TestStands, TestsStand, Leaves, TellsTest, TellsFrame, OverOne, FrameFits, SidePasses, SideStands}
use Rattle.normality.proofs.NormalLaws.{Same, Both, Each, by-path, no-path, by-comp, by-glue-type, by-glue, by-unglue, no-comp-face, no-comp, no-glue-type, no-glue, no-unglue}

-- one kid

record Cut (n : ℕ) (ts : List Tree) : Type 0 where
  pub t : Tree
  pub long : length (take n ts) ≡ n
  pub whole : ts ≡ take n ts ++ t ∷ drop (suc n) ts
  pub tail : drop n ts ≡ t ∷ drop (suc n) ts

cut : (n : ℕ) (ts : List Tree) → n < length ts → Cut n ts
cut n [] lt = absurd (omega arith)
cut zero (t ∷ ts) lt = record { t = t; long = refl; whole = refl; tail = refl }
cut (suc n) (t ∷ ts) lt =
    let h = cut n ts (omega arith) in
    record { t = h.t; long = ap suc h.long; whole = ap (λ us. t ∷ us) h.whole; tail = h.tail }

pub leaves-kid : (f : Meanings) (k : List (List Waiting)) (z : List Fixed) (m : ℕ) (s below : Scope) (r : Frame) (c : Closure) (p : Place) (at' : ℕ) (old new : List Test)
    → FrameStands f k m r → r.at < kids_of r.op → IsKidAt f k r r.at c → p ≡ place_of r.op r.at
    → fixed_in z below ≡ bound (binds_of r.op r.at) (fixed_in z s) → (IsWithin z s → IsWithin z below) → depth_of below ≤ depth_of s + binds_of r.op r.at → at' ≡ r.at + 1
    → new ≡ old ++ (test.Kids s (record { op = r.op; at = at'; kids = r.kids; environment = r.environment; level = r.level }) ∷ test.Tree (part_at p below c) ∷ [])
    → TellsTest (at f k z) (at f k z) (test.Kids s r) old new true
leaves-kid f k z m s below r c p at' old new stands lt kid is_place fixes within depth is_at made =
    let ts = frame_trees f k r in
    let h = cut r.at ts (let e = count-of f k m r stands in omega arith) in
    let tree : tree_in f k c ≡ h.t = kid.tree (take r.at ts) (drop (suc r.at) ts) h.t h.long h.whole in
    let next : at' ≡ suc r.at = omega arith in
    let split : drop r.at ts ≡ tree_in f k c ∷ drop at' ts = h.tail ∙ ap₂ (λ t n. t ∷ drop n ts) (sym tree) (sym next) in
    let r' : Frame = record { op = r.op; at = at'; kids = r.kids; environment = r.environment; level = r.level } in
    let b = binds_of-most r.op r.at in
    let back : PassesAt (fixed_in z below) p (tree_in f k c) × KidsPass (fixed_in z s) r.op at' (drop at' ts) → KidsPass (fixed_in z s) r.op r.at (drop r.at ts) = λ q.
    subst (KidsPass (fixed_in z s) r.op r.at) (sym split) (
      subst (λ y. PassesAt y (place_of r.op r.at) (tree_in f k c)) fixes (subst (λ x. PassesAt (fixed_in z below) x (tree_in f k c)) is_place q.0),
      subst (λ n. KidsPass (fixed_in z s) r.op n (drop at' ts)) next q.1,
    ) in
    record {
      more = test.Tree (part_at p below c) ∷ test.Kids s r' ∷ [];
      tests = ap reverse made ∙ reverse-append old _;
      forth = λ pass.
          let q = subst (KidsPass (fixed_in z s) r.op r.at) split pass in (
            subst (λ x. PassesAt (fixed_in z below) x (tree_in f k c)) (sym is_place) (subst (λ y. PassesAt y (place_of r.op r.at) (tree_in f k c)) (sym fixes) q.0),
            (subst (λ n. KidsPass (fixed_in z s) r.op n (drop at' ts)) (sym next) q.1, tt),
          );
      back = λ pass. back (pass.0, pass.1.0);
      good = λ us h a b. h (back (a, b));
      stand = λ n fits. (
        ((omega (arith, fits.0.0, depth, b), within fits.0.1), closure-deeper f k (suc n) (n + 1) c (omega arith) (kid.stands n fits.1.environment_stands)),
        (((omega (arith, fits.0.0), fits.0.1), frame-deeper f k n (n + 0) r' (omega arith) (record { count = fits.1.count; rows = fits.1.rows; environment_stands = fits.1.environment_stands }), omega arith), tt),
      );
      fewer = rw split (omega arith);
    }

pub leaves-end : (f : Meanings) (k : List (List Waiting)) (z : List Fixed) (m : ℕ) (s : Scope) (r : Frame) (old : List Test) → FrameStands f k m r → kids_of r.op ≤ r.at → TellsTest (at f k z) (at f k z) (test.Kids s r) old old true
leaves-end f k z m s r old stands past =
    let ts = frame_trees f k r in
    let none : drop r.at ts ≡ [] = drop-past r.at ts (let e = count-of f k m r stands in omega arith) in
    let pass : KidsPass (fixed_in z s) r.op r.at (drop r.at ts) = subst (KidsPass (fixed_in z s) r.op r.at) (sym none) tt in
    record {
      more = [];
      tests = refl;
      forth = λ h. tt;
      back = λ h. pass;
      good = λ us h. h pass;
      stand = λ n fits. tt;
      fewer = omega arith;
    }

-- operators over faces, below environments that were added

module _ (f : Meanings) (k k' : List (List Waiting)) (z : List Fixed) (s : Scope) (r : Frame) (old new : List Test) (g : Grows k k') where
  abbrev IsFrameNormal : Op → List Tree → Type 0
  IsFrameNormal o ts = Normal (fixed_in z s) (Make o (trees_of ts))

  goes : (o : Op) (ts : List Tree) → r.op ≡ o → frame_trees f k r ≡ ts → IsFrameNormal r.op (frame_trees f k r) → IsFrameNormal o ts
  goes o ts e same h = subst (λ p. IsFrameNormal p ts) e (subst (IsFrameNormal r.op) same h)

  comes : (o : Op) (ts : List Tree) → r.op ≡ o → frame_trees f k r ≡ ts → IsFrameNormal o ts → IsFrameNormal r.op (frame_trees f k r)
  comes o ts e same h = subst (IsFrameNormal r.op) (sym same) (subst (λ p. IsFrameNormal p ts) (sym e) h)

  kid-later : (j m : ℕ) (c : Closure) → Stands f k m r.environment → IsKidAt f k r j c → tree_in f k c ≡ tree_in f k' c
  kid-later j m c env kid = sym (tree-grows f k k' (suc m) c g (kid.stands m env))

  kid-at : (j m n : ℕ) (c : Closure) → Stands f k m r.environment → IsKidAt f k r j c → suc m ≤ n → IsClosure f k' n c
  kid-at j m n c env kid le = closure-deeper f k' (suc m) n c le (closure-grows f k k' (suc m) c g (kid.stands m env))

  pub leaves-path : (m : ℕ) (path formula : Closure) → FrameStands f k m r → r.op ≡ op.PApp → IsKidAt f k r 0 path → IsKidAt f k r 1 formula
      → MayApply (fixed_in z s) (tree_in f k formula)
      → new ≡ old ++ test.Tree (part_at place.Path s path) ∷ [] → TellsFrame (at f k z) (at f k' z) s r old new true
  leaves-path m path formula stands e k0 k1 may made =
      let env = stands.environment_stands in
      let e0 = kid-later 0 m path env k0 in
      let e1 = kid-later 1 m formula env k1 in
      let same : frame_trees f k r ≡ tree_in f k' path ∷ tree_in f k' formula ∷ [] = cc (two-kids f k r path formula (count-of f k m r stands ∙ ap kids_of e) k0 k1, e0, e1) in
      let by = by-path (fixed_in z s) (tree_in f k' path) (tree_in f k' formula) (subst (MayApply (fixed_in z s)) e1 may) in
      let w = ap all_weights same in
      let back : AllPass (at f k' z) (test.Tree (part_at place.Path s path) ∷ []) → IsFrameNormal r.op (frame_trees f k r) = λ h. comes op.PApp _ e same (by.from h.0) in
      record {
        more = test.Tree (part_at place.Path s path) ∷ [];
        tests = ap reverse made ∙ reverse-append old _;
        forth = λ h. (by.to (goes op.PApp _ e same h), tt);
        back = back;
        good = λ us h a. h (back (a, tt));
        stand = stand;
        fewer = omega (arith, w);
      }
    where
      stand : (n : ℕ) → OverOne (FrameFits (at f k z) s r) n → TestsStand (at f k' z) n (test.Tree (part_at place.Path s path) ∷ [])
      stand zero fits = absurd fits
      stand (suc n) fits = (((omega (arith, fits.0.0), fits.0.1), kid-at 0 n (suc n + 0) path fits.1 k0 (omega arith)), tt)

  pub no-frame-path : (m : ℕ) (path formula : Closure) → FrameStands f k m r → r.op ≡ op.PApp → IsKidAt f k r 0 path → IsKidAt f k r 1 formula
      → (MayApply (fixed_in z s) (tree_in f k formula) → ⊥) → TellsFrame (at f k z) (at f k' z) s r old new false
  no-frame-path m path formula stands e k0 k1 never = λ h.
      no-path (fixed_in z s) _ _ never (goes op.PApp _ e (two-kids f k r path formula (count-of f k m r stands ∙ ap kids_of e) k0 k1) h)

  pub leaves-comp : (m : ℕ) (below : Scope) (line face body base : Closure) → FrameStands f k m r → r.op ≡ op.Comp → IsKidAt f k r 0 line → IsKidAt f k r 1 face → IsKidAt f k r 2 body → IsKidAt f k r 3 base
      → fixed_in z below ≡ bind (fixed_in z s) → (IsWithin z s → IsWithin z below) → depth_of below ≤ depth_of s + 1
      → HasNormalFace (fixed_in z s) (tree_in f k face) → (Computes (tree_in f k line) (tree_in f k body) (tree_in f k base) → ⊥)
      → new ≡ old ++ (test.Tree (part_at place.Anywhere s base) ∷ test.Sides (record { raised = true; scope = below; face = face; body = body }) ∷ test.Tree (part_at place.Line below line) ∷ [])
      → TellsFrame (at f k z) (at f k' z) s r old new true
  leaves-comp m below line face body base stands e k0 k1 k2 k3 fixes within depth normal never made =
      let env = stands.environment_stands in
      let e0 = kid-later 0 m line env k0 in
      let e1 = kid-later 1 m face env k1 in
      let e2 = kid-later 2 m body env k2 in
      let e3 = kid-later 3 m base env k3 in
      let same : frame_trees f k r ≡ tree_in f k' line ∷ tree_in f k' face ∷ tree_in f k' body ∷ tree_in f k' base ∷ [] = cc (four-kids f k r line face body base (count-of f k m r stands ∙ ap kids_of e) k0 k1 k2 k3, e0, e1, e2, e3) in
      let still : Computes (tree_in f k' line) (tree_in f k' body) (tree_in f k' base) → ⊥ = subst (λ t. Computes (tree_in f k' line) (tree_in f k' body) t → ⊥) e3 (subst (λ t. Computes (tree_in f k' line) t (tree_in f k base) → ⊥) e2 (subst (λ t. Computes t (tree_in f k body) (tree_in f k base) → ⊥) e0 never)) in
      let by = by-comp (fixed_in z s) (fixed_in z below) (tree_in f k' line) (tree_in f k' face) (tree_in f k' body) (tree_in f k' base) fixes (subst (HasNormalFace (fixed_in z s)) e1 normal) still in
      let w = ap all_weights same in
      let back : AllPass (at f k' z) (test.Tree (part_at place.Line below line) ∷ test.Sides (record { raised = true; scope = below; face = face; body = body }) ∷ test.Tree (part_at place.Anywhere s base) ∷ []) → IsFrameNormal r.op (frame_trees f k r) = λ h. comes op.Comp _ e same (by.from (record { first = h.0; second = h.1.0; third = h.1.1.0 })) in
      record {
        more = (test.Tree (part_at place.Line below line) ∷ test.Sides (record { raised = true; scope = below; face = face; body = body }) ∷ test.Tree (part_at place.Anywhere s base) ∷ []);
        tests = ap reverse made ∙ reverse-append old _;
        forth = λ h. let q = by.to (goes op.Comp _ e same h) in (q.first, (q.second, (q.third, tt)));
        back = back;
        good = λ us h a b c. h (back (a, (b, (c, tt))));
        stand = stand;
        fewer = omega (arith, w);
      }
    where
      stand : (n : ℕ) → OverOne (FrameFits (at f k z) s r) n → TestsStand (at f k' z) n (test.Tree (part_at place.Line below line) ∷ test.Sides (record { raised = true; scope = below; face = face; body = body }) ∷ test.Tree (part_at place.Anywhere s base) ∷ [])
      stand zero fits = absurd fits
      stand (suc n) fits = (
        ((omega (arith, fits.0.0, depth), within fits.0.1), kid-at 0 n (suc n + 2) line fits.1 k0 (omega arith)),
        (
          ((omega (arith, fits.0.0, depth), within fits.0.1), kid-at 1 n (suc n + 1) face fits.1 k1 (omega arith), kid-at 2 n (suc n + 1) body fits.1 k2 (omega arith)),
          (((omega (arith, fits.0.0), fits.0.1), kid-at 3 n (suc n + 0) base fits.1 k3 (omega arith)), tt),
        ),
      )

  pub no-frame-comp-face : (m : ℕ) (line face body base : Closure) → FrameStands f k m r → r.op ≡ op.Comp → IsKidAt f k r 0 line → IsKidAt f k r 1 face → IsKidAt f k r 2 body → IsKidAt f k r 3 base
      → (HasNormalFace (fixed_in z s) (tree_in f k face) → ⊥) → TellsFrame (at f k z) (at f k' z) s r old new false
  no-frame-comp-face m line face body base stands e k0 k1 k2 k3 never = λ h.
      no-comp-face (fixed_in z s) _ _ _ _ never (goes op.Comp _ e (four-kids f k r line face body base (count-of f k m r stands ∙ ap kids_of e) k0 k1 k2 k3) h)

  pub no-frame-comp : (m : ℕ) (line face body base : Closure) → FrameStands f k m r → r.op ≡ op.Comp → IsKidAt f k r 0 line → IsKidAt f k r 1 face → IsKidAt f k r 2 body → IsKidAt f k r 3 base
      → Computes (tree_in f k line) (tree_in f k body) (tree_in f k base) → TellsFrame (at f k z) (at f k' z) s r old new false
  no-frame-comp m line face body base stands e k0 k1 k2 k3 told = λ h.
      no-comp (fixed_in z s) _ (tree_in f k face) _ _ told (goes op.Comp _ e (four-kids f k r line face body base (count-of f k m r stands ∙ ap kids_of e) k0 k1 k2 k3) h)

  pub leaves-glue-type : (m : ℕ) (base face first second : Closure) → FrameStands f k m r → r.op ≡ op.GlueType → IsKidAt f k r 0 base → IsKidAt f k r 1 face → IsKidAt f k r 2 first → IsKidAt f k r 3 second
      → HasNormalFace (fixed_in z s) (tree_in f k face)
      → new ≡ old ++ (test.Sides (sides_over s face second) ∷ test.Sides (sides_over s face first) ∷ test.Tree (part_at place.Anywhere s base) ∷ [])
      → TellsFrame (at f k z) (at f k' z) s r old new true
  leaves-glue-type m base face first second stands e k0 k1 k2 k3 normal made =
      let env = stands.environment_stands in
      let e0 = kid-later 0 m base env k0 in
      let e1 = kid-later 1 m face env k1 in
      let e2 = kid-later 2 m first env k2 in
      let e3 = kid-later 3 m second env k3 in
      let same : frame_trees f k r ≡ tree_in f k' base ∷ tree_in f k' face ∷ tree_in f k' first ∷ tree_in f k' second ∷ [] = cc (four-kids f k r base face first second (count-of f k m r stands ∙ ap kids_of e) k0 k1 k2 k3, e0, e1, e2, e3) in
      let by = by-glue-type (fixed_in z s) (tree_in f k' base) (tree_in f k' face) (tree_in f k' first) (tree_in f k' second) (subst (HasNormalFace (fixed_in z s)) e1 normal) in
      let w = ap all_weights same in
      let back : AllPass (at f k' z) (test.Tree (part_at place.Anywhere s base) ∷ test.Sides (sides_over s face first) ∷ test.Sides (sides_over s face second) ∷ []) → IsFrameNormal r.op (frame_trees f k r) = λ h. comes op.GlueType _ e same (by.from (record { first = h.0; second = h.1.0; third = h.1.1.0 })) in
      record {
        more = (test.Tree (part_at place.Anywhere s base) ∷ test.Sides (sides_over s face first) ∷ test.Sides (sides_over s face second) ∷ []);
        tests = ap reverse made ∙ reverse-append old _;
        forth = λ h. let q = by.to (goes op.GlueType _ e same h) in (q.first, (q.second, (q.third, tt)));
        back = back;
        good = λ us h a b c. h (back (a, (b, (c, tt))));
        stand = stand;
        fewer = omega (arith, w);
      }
    where
      stand : (n : ℕ) → OverOne (FrameFits (at f k z) s r) n → TestsStand (at f k' z) n (test.Tree (part_at place.Anywhere s base) ∷ test.Sides (sides_over s face first) ∷ test.Sides (sides_over s face second) ∷ [])
      stand zero fits = absurd fits
      stand (suc n) fits = (
        ((omega (arith, fits.0.0), fits.0.1), kid-at 0 n (suc n + 2) base fits.1 k0 (omega arith)),
        (
          ((omega (arith, fits.0.0), fits.0.1), kid-at 1 n (suc n + 1) face fits.1 k1 (omega arith), kid-at 2 n (suc n + 1) first fits.1 k2 (omega arith)),
          (((omega (arith, fits.0.0), fits.0.1), kid-at 1 n (suc n + 0) face fits.1 k1 (omega arith), kid-at 3 n (suc n + 0) second fits.1 k3 (omega arith)), tt),
        ),
      )

  pub no-frame-glue-type : (m : ℕ) (base face first second : Closure) → FrameStands f k m r → r.op ≡ op.GlueType → IsKidAt f k r 0 base → IsKidAt f k r 1 face → IsKidAt f k r 2 first → IsKidAt f k r 3 second
      → (HasNormalFace (fixed_in z s) (tree_in f k face) → ⊥) → TellsFrame (at f k z) (at f k' z) s r old new false
  no-frame-glue-type m base face first second stands e k0 k1 k2 k3 never = λ h.
      no-glue-type (fixed_in z s) (tree_in f k base) (tree_in f k face) (tree_in f k first) (tree_in f k second) never (goes op.GlueType _ e (four-kids f k r base face first second (count-of f k m r stands ∙ ap kids_of e) k0 k1 k2 k3) h)

  pub leaves-glue : (m : ℕ) (face body base : Closure) → FrameStands f k m r → r.op ≡ op.Glue → IsKidAt f k r 0 face → IsKidAt f k r 1 body → IsKidAt f k r 2 base
      → HasNormalFace (fixed_in z s) (tree_in f k face)
      → new ≡ old ++ (test.Sides (sides_over s face body) ∷ test.Tree (part_at place.Anywhere s base) ∷ [])
      → TellsFrame (at f k z) (at f k' z) s r old new true
  leaves-glue m face body base stands e k0 k1 k2 normal made =
      let env = stands.environment_stands in
      let e0 = kid-later 0 m face env k0 in
      let e1 = kid-later 1 m body env k1 in
      let e2 = kid-later 2 m base env k2 in
      let same : frame_trees f k r ≡ tree_in f k' face ∷ tree_in f k' body ∷ tree_in f k' base ∷ [] = cc (three-kids f k r face body base (count-of f k m r stands ∙ ap kids_of e) k0 k1 k2, e0, e1, e2) in
      let by = by-glue (fixed_in z s) (tree_in f k' face) (tree_in f k' body) (tree_in f k' base) (subst (HasNormalFace (fixed_in z s)) e0 normal) in
      let w = ap all_weights same in
      let back : AllPass (at f k' z) (test.Tree (part_at place.Anywhere s base) ∷ test.Sides (sides_over s face body) ∷ []) → IsFrameNormal r.op (frame_trees f k r) = λ h. comes op.Glue _ e same (by.from (record { first = h.0; second = h.1.0 })) in
      record {
        more = (test.Tree (part_at place.Anywhere s base) ∷ test.Sides (sides_over s face body) ∷ []);
        tests = ap reverse made ∙ reverse-append old _;
        forth = λ h. let q = by.to (goes op.Glue _ e same h) in (q.first, (q.second, tt));
        back = back;
        good = λ us h a b. h (back (a, (b, tt)));
        stand = stand;
        fewer = omega (arith, w);
      }
    where
      stand : (n : ℕ) → OverOne (FrameFits (at f k z) s r) n → TestsStand (at f k' z) n (test.Tree (part_at place.Anywhere s base) ∷ test.Sides (sides_over s face body) ∷ [])
      stand zero fits = absurd fits
      stand (suc n) fits = (
        ((omega (arith, fits.0.0), fits.0.1), kid-at 2 n (suc n + 1) base fits.1 k2 (omega arith)),
        (((omega (arith, fits.0.0), fits.0.1), kid-at 0 n (suc n + 0) face fits.1 k0 (omega arith), kid-at 1 n (suc n + 0) body fits.1 k1 (omega arith)), tt),
      )

  pub no-frame-glue : (m : ℕ) (face body base : Closure) → FrameStands f k m r → r.op ≡ op.Glue → IsKidAt f k r 0 face → IsKidAt f k r 1 body → IsKidAt f k r 2 base
      → (HasNormalFace (fixed_in z s) (tree_in f k face) → ⊥) → TellsFrame (at f k z) (at f k' z) s r old new false
  no-frame-glue m face body base stands e k0 k1 k2 never = λ h.
      no-glue (fixed_in z s) (tree_in f k face) (tree_in f k body) (tree_in f k base) never (goes op.Glue _ e (three-kids f k r face body base (count-of f k m r stands ∙ ap kids_of e) k0 k1 k2) h)

  pub leaves-unglue : (m : ℕ) (face first second glued : Closure) → FrameStands f k m r → r.op ≡ op.Unglue → IsKidAt f k r 0 face → IsKidAt f k r 1 first → IsKidAt f k r 2 second → IsKidAt f k r 3 glued
      → HasNormalFace (fixed_in z s) (tree_in f k face)
      → new ≡ old ++ (test.Sides (sides_over s face second) ∷ test.Sides (sides_over s face first) ∷ test.Tree (part_at place.Glued s glued) ∷ [])
      → TellsFrame (at f k z) (at f k' z) s r old new true
  leaves-unglue m face first second glued stands e k0 k1 k2 k3 normal made =
      let env = stands.environment_stands in
      let e0 = kid-later 0 m face env k0 in
      let e1 = kid-later 1 m first env k1 in
      let e2 = kid-later 2 m second env k2 in
      let e3 = kid-later 3 m glued env k3 in
      let same : frame_trees f k r ≡ tree_in f k' face ∷ tree_in f k' first ∷ tree_in f k' second ∷ tree_in f k' glued ∷ [] = cc (four-kids f k r face first second glued (count-of f k m r stands ∙ ap kids_of e) k0 k1 k2 k3, e0, e1, e2, e3) in
      let by = by-unglue (fixed_in z s) (tree_in f k' face) (tree_in f k' first) (tree_in f k' second) (tree_in f k' glued) (subst (HasNormalFace (fixed_in z s)) e0 normal) in
      let w = ap all_weights same in
      let back : AllPass (at f k' z) (test.Tree (part_at place.Glued s glued) ∷ test.Sides (sides_over s face first) ∷ test.Sides (sides_over s face second) ∷ []) → IsFrameNormal r.op (frame_trees f k r) = λ h. comes op.Unglue _ e same (by.from (record { first = h.0; second = h.1.0; third = h.1.1.0 })) in
      record {
        more = (test.Tree (part_at place.Glued s glued) ∷ test.Sides (sides_over s face first) ∷ test.Sides (sides_over s face second) ∷ []);
        tests = ap reverse made ∙ reverse-append old _;
        forth = λ h. let q = by.to (goes op.Unglue _ e same h) in (q.first, (q.second, (q.third, tt)));
        back = back;
        good = λ us h a b c. h (back (a, (b, (c, tt))));
        stand = stand;
        fewer = omega (arith, w);
      }
    where
      stand : (n : ℕ) → OverOne (FrameFits (at f k z) s r) n → TestsStand (at f k' z) n (test.Tree (part_at place.Glued s glued) ∷ test.Sides (sides_over s face first) ∷ test.Sides (sides_over s face second) ∷ [])
      stand zero fits = absurd fits
      stand (suc n) fits = (
        ((omega (arith, fits.0.0), fits.0.1), kid-at 3 n (suc n + 2) glued fits.1 k3 (omega arith)),
        (
          ((omega (arith, fits.0.0), fits.0.1), kid-at 0 n (suc n + 1) face fits.1 k0 (omega arith), kid-at 1 n (suc n + 1) first fits.1 k1 (omega arith)),
          (((omega (arith, fits.0.0), fits.0.1), kid-at 0 n (suc n + 0) face fits.1 k0 (omega arith), kid-at 2 n (suc n + 0) second fits.1 k2 (omega arith)), tt),
        ),
      )

  pub no-frame-unglue : (m : ℕ) (face first second glued : Closure) → FrameStands f k m r → r.op ≡ op.Unglue → IsKidAt f k r 0 face → IsKidAt f k r 1 first → IsKidAt f k r 2 second → IsKidAt f k r 3 glued
      → (HasNormalFace (fixed_in z s) (tree_in f k face) → ⊥) → TellsFrame (at f k z) (at f k' z) s r old new false
  no-frame-unglue m face first second glued stands e k0 k1 k2 k3 never = λ h.
      no-unglue (fixed_in z s) (tree_in f k face) (tree_in f k first) (tree_in f k second) (tree_in f k glued) never (goes op.Unglue _ e (four-kids f k r face first second glued (count-of f k m r stands ∙ ap kids_of e) k0 k1 k2 k3) h)
