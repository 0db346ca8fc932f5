-- Parts, by the operator that they begin with.
use Rattle.std.proofs.Common.{◌≡◌, ℕ, zero, suc, ◌+◌, ◌-◌, ◌*◌, ◌<◌, ◌≤◌, Bool, true, false, List, [], ◌∷◌, ◌++◌, length, drop, reverse, refl, sym, ◌∙◌, ap, ap₂, subst, arith, append_assoc}
use Rattle.std.proofs.lemmas.List.{reverse-append, length-append}
use Rattle.trees.specs.declared.op.Op.{Op}
use Rattle.trees.specs.Operators.{kids_of, binds_of}
use Rattle.trees.specs.Trees.{Tree, Var, Make, trees_of}
use Rattle.trees.specs.Things.{Meanings}
use Rattle.rows.specs.Tables.{Grows}
use Rattle.rows.proofs.TableLaws.{grows-grows, grows-same}
use Rattle.closures.specs.declared.closure.Closure.{Closure}
use Rattle.closures.specs.Environments.{Waiting}
use Rattle.closures.specs.Closures.{IsClosure, Stands}
use Rattle.closures.proofs.HeadLaws.{closure-deeper, closure-grows, stands-deeper, stands-grows}
use Rattle.tree_frames.specs.declared.frames.Frame.{Frame}
use Rattle.tree_frames.specs.Frames.{tree_in, frame_trees, weight, all_weights, FrameStands, OpensFrame}
use Rattle.tree_frames.proofs.FrameLaws.{frame-deeper, frame-weight, weight-some, tree-grows, trees-grow}
use Rattle.fixed_names.specs.declared.scopes.Scope.{Scope}
use Rattle.fixed_names.specs.Fixed.{Fixed, IsFree}
use Rattle.fixed_names.specs.Scopes.{fixed_in, depth_of, IsWithin}
use Rattle.normality.specs.declared.places.Place.{Place}
use Rattle.normality.specs.declared.places.Place.TheVariants as place
use Rattle.normality.specs.declared.places.Kind.TheVariants as kind
use Rattle.normality.specs.declared.tests.Part.{Part}
use Rattle.normality.specs.declared.tests.Test.{Test}
use Rattle.normality.specs.declared.tests.Test.TheVariants as test
use Rattle.normal_parts.specs.Normal.{Normal}
use Rattle.normality.specs.Places.{MayStand, kind_of}
use Rattle.normality.specs.Worlds.{World, at}
use Rattle.normality.specs.Tests.{PassesAt, KidsPass, PartPasses, Passes, AllPass, IsGood, all_steps, PartIs, ScopeFits, TestStands, TestsStand, Leaves, Tells, TellsTest, TellsFrame, OverOne, FrameFits}
use Rattle.normality.proofs.NormalLaws.{by-kids, never-normal}
use Rattle.normality.proofs.WorldLaws.{part-same, part-is}
use Rattle.normality.proofs.WalkLaws.{pass-append, pass-first, steps-append, stand-append}
use Rattle.normal_parts.proofs.KidLaws.{count-of}
use Rattle.normality.proofs.SideLaws.{leaves-nothing}

-- operators that are tested by their kids, and those that are in no normal tree

pub leaves-kids : (f : Meanings) (k : List (List Waiting)) (z : List Fixed) (m : ℕ) (s : Scope) (r : Frame) (old new : List Test) → FrameStands f k m r → r.at ≡ 0 → kind_of r.op ≡ kind.ByKids
    → new ≡ old ++ test.Kids s r ∷ [] → TellsFrame (at f k z) (at f k z) s r old new true
leaves-kids f k z m s r old new stands start by made =
    let ts = frame_trees f k r in
    let all = by-kids (fixed_in z s) r.op ts by (count-of f k m r stands) in
    let few : all_weights (drop r.at ts) ≡ all_weights ts = ap (λ n. all_weights (drop n ts)) start in
    let back : KidsPass (fixed_in z s) r.op r.at (drop r.at ts) → Normal (fixed_in z s) (Make r.op (trees_of ts)) = λ h. all.from (subst (λ n. KidsPass (fixed_in z s) r.op n (drop n ts)) start h) in
    record {
      more = test.Kids s r ∷ [];
      tests = ap reverse made ∙ reverse-append old _;
      forth = λ h. (subst (λ n. KidsPass (fixed_in z s) r.op n (drop n ts)) (sym start) (all.to h), tt);
      back = λ h. back h.0;
      good = λ us h a. h (back a);
      stand = stand;
      fewer = omega (arith, few);
    }
  where
    stand : (n : ℕ) → OverOne (FrameFits (at f k z) s r) n → TestsStand (at f k z) n (test.Kids s r ∷ [])
    stand zero fits = absurd fits
    stand (suc n) fits = (
      (
        (omega (arith, fits.0.0), fits.0.1),
        record { count = stands.count; rows = stands.rows; environment_stands = stands-deeper f k n (suc n + 0) r.environment (omega arith) fits.1 },
        omega (arith, start),
      ),
      tt,
    )

pub no-frame : (f : Meanings) (k k' : List (List Waiting)) (z : List Fixed) (s : Scope) (r : Frame) (old new : List Test) → kind_of r.op ≡ kind.Never → TellsFrame (at f k z) (at f k' z) s r old new false
no-frame f k k' z s r old new never = λ h. never-normal (fixed_in z s) r.op (trees_of (frame_trees f k r)) never h

-- variables

may-stand-variable : (p : Place) (j : ℕ) → MayStand p (Var j)
may-stand-variable place.Anywhere j = tt
may-stand-variable place.Function j = tt
may-stand-variable place.Pair j = tt
may-stand-variable place.Path j = tt
may-stand-variable place.Number j = (tt, tt)
may-stand-variable place.Line j = (tt, tt, tt, tt, tt)
may-stand-variable place.Glued j = tt

pub part-variable : (f : Meanings) (k k' : List (List Waiting)) (z : List Fixed) (p : Part) (j : ℕ) (old : List Test) (told : Bool) → Var j ≡ tree_in f k p.closure → (told ≡ true → IsFree (fixed_in z p.scope) j) → (IsFree (fixed_in z p.scope) j → told ≡ true)
    → TellsTest (at f k z) (at f k' z) (test.Tree p) old old told
part-variable f k k' z p j old answer is free back =
    let some = weight-some (tree_in f k p.closure) in
    leaves-nothing (at f k' z) (Passes (at f k z) (test.Tree p)) (λ n. TestStands (at f k z) n (test.Tree p)) (3 * weight (tree_in f k p.closure)) old answer
    (λ e. subst (PassesAt (fixed_in z p.scope) p.place) is (may-stand-variable p.place j, free e))
    (λ e pass. let q = subst (PassesAt (fixed_in z p.scope) p.place) (sym is) pass in never answer e (back q.1))
    (omega (arith, some))
  where
    never : (b : Bool) → b ≡ false → b ≡ true → ⊥
    never true e h = cc
    never false e h = cc

-- operators

pub part-no-place : (f : Meanings) (k k' : List (List Waiting)) (z : List Fixed) (p : Part) (r : Frame) (old new : List Test) → OpensFrame f k k' p.closure 0 r → (MayStand p.place (Make r.op (trees_of (frame_trees f k' r))) → ⊥) → TellsTest (at f k z) (at f k' z) (test.Tree p) old new false
part-no-place f k k' z p r old new o never = λ pass. never (subst (MayStand p.place) o.frame.whole pass.0)

pub part-opened : (f : Meanings) (k k1 k2 : List (List Waiting)) (z : List Fixed) (p : Part) (r : Frame) (old mid new : List Test) (told : Bool) → Grows k k1 → Grows k1 k2 → (m : ℕ) → IsClosure f k m p.closure → IsWithin z p.scope → Grows z z
    → OpensFrame f k k1 p.closure 0 r → MayStand p.place (Make r.op (trees_of (frame_trees f k1 r))) → mid ≡ old ++ test.Keep p ∷ []
    → TellsFrame (at f k1 z) (at f k2 z) p.scope r mid new told → TellsTest (at f k z) (at f k2 z) (test.Tree p) old new told
part-opened f k k1 k2 z p r old mid new false g1 g2 m stands within gz o may kept never = λ pass. never (subst (Normal (fixed_in z p.scope)) o.frame.whole pass.1)
part-opened f k k1 k2 z p r old mid new true g1 g2 m stands within gz o may kept l =
    let N = Normal (fixed_in z p.scope) (Make r.op (trees_of (frame_trees f k1 r))) in
    let now = at f k2 z in
    let whole = o.frame.whole in
    let w = frame-weight f k1 (tree_in f k p.closure) r o.frame in
    let g : Grows k k2 = grows-grows k k1 k2 g1 g2 in
    let is : PartIs (at f k z) p = (stands.environment.within, within) in
    let from : N → PartPasses (at f k z) p = λ h. (subst (MayStand p.place) (sym whole) may, subst (Normal (fixed_in z p.scope)) (sym whole) h) in
    let to : PartPasses (at f k z) p → N = λ pass. subst (Normal (fixed_in z p.scope)) whole pass.1 in
    let less = l.fewer in
    let count = steps-append now l.more (test.Keep p ∷ []) in
    let order : reverse mid ≡ test.Keep p ∷ reverse old = ap reverse kept ∙ reverse-append old _ in
    record {
      more = l.more ++ test.Keep p ∷ [];
      tests = l.tests ∙ ap (λ ts. l.more ++ ts) order ∙ sym (append_assoc l.more (test.Keep p ∷ []) (reverse old));
      forth = λ pass. pass-append now l.more (test.Keep p ∷ []) (l.forth (to pass)) (tt, tt);
      back = λ pass. from (l.back (pass-first now l.more (test.Keep p ∷ []) pass));
      good = λ us h. subst (IsGood now) (sym (append_assoc l.more (test.Keep p ∷ []) us)) (l.good (test.Keep p ∷ us) (λ n. (subst (λ X. X) (part-same f k k2 z z g gz p is) (from n), h (from n))));
      stand = λ n fits. stand-append now n l.more (test.Keep p ∷ [])
          (subst (λ i. TestsStand now i l.more) (omega arith) (l.stand (suc n) (fits.0, o.stands n fits.1)))
          (part-is f k k2 z z g gz p is, tt);
      fewer = omega (arith, w, less, count);
    }
