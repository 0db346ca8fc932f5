-- Systems, frames by their kind, and whole parts.
use Rattle.std.proofs.Common.{◌≡◌, ℕ, zero, suc, ◌+◌, ◌-◌, ◌*◌, ◌<◌, ◌≤◌, Bool, true, false, List, [], ◌∷◌, ◌++◌, length, drop, reverse, map, refl, sym, ◌∙◌, ap, ap₂, subst, arith, Option, Some, None}
use Rattle.std.proofs.lemmas.List.{reverse-append}
use Rattle.trees.specs.declared.op.Op.{Op}
use Rattle.trees.specs.declared.op.Op.TheVariants as op
use Rattle.trees.specs.Operators.{kids_of, binds_of}
use Rattle.trees.specs.Trees.{Tree, Trees, Var, Make, NoTrees, More, trees_of}
use Rattle.trees.specs.Things.{Meanings}
use Rattle.rows.specs.Tables.{Grows}
use Rattle.rows.proofs.TableLaws.{grows-same}
use Rattle.closures.specs.declared.closure.Closure.{Closure}
use Rattle.closures.specs.Environments.{Waiting}
use Rattle.closures.specs.Closures.{IsClosure, Stands}
use Rattle.closures.proofs.HeadLaws.{closure-deeper, closure-grows, stands-deeper, stands-grows}
use Rattle.tree_frames.specs.declared.frames.Frame.{Frame}
use Rattle.tree_frames.specs.Frames.{tree_in, frame_trees, weight, all_weights, FrameStands, IsFrame, IsKidAt, OpensFrame}
use Rattle.tree_frames.proofs.FrameLaws.{frame-deeper, frame-weight, weight-some, tree-grows, trees-grow}
use Rattle.normal_formulas.specs.declared.atoms.Atom.{Atom}
use Rattle.normal_formulas.specs.Atoms.{conjunction, cover}
use Rattle.normal_formulas.proofs.ReadLaws.{same-conjunctions, same-covers, op-same}
use Rattle.fixed_names.specs.declared.scopes.Scope.{Scope}
use Rattle.fixed_names.specs.Fixed.{Fixed, IsFree}
use Rattle.fixed_names.specs.Scopes.{fixed_in, depth_of, IsWithin}
use Rattle.fixed_names.proofs.ScopeLaws.{fixed-grows, within-grows}
use Rattle.normality.specs.declared.places.Place.{Place}
use Rattle.normality.specs.declared.places.Place.TheVariants as place
use Rattle.normality.specs.declared.places.Kind.TheVariants as kind
use Rattle.normality.specs.declared.tests.Part.{Part}
use Rattle.normality.specs.declared.tests.Sides.{Sides}
use Rattle.normality.specs.declared.tests.Test.{Test}
use Rattle.normality.specs.declared.tests.Test.TheVariants as test
use Rattle.normal_parts.specs.Normal.{Normal, AreSides, fix_all}
use Rattle.normal_parts.specs.Parts.{all_written, IsConjunctionOf, IsCoverOf}
use Rattle.normality.specs.Places.{MayStand, kind_of}
use Rattle.normality.specs.Worlds.{World, at}
use Rattle.normality.specs.Tests.{part_at, PassesAt, SidesPass, Passes, AllPass, IsGood, steps_of, all_steps, ScopeFits, TestStands, TestsStand, Leaves, Tells, TellsTest, TellsFrame, OverOne, FrameFits, SidePasses, SideStands}
use Rattle.normality.proofs.NormalLaws.{by-kids, never-normal}
use Rattle.normal_parts.proofs.KidLaws.{count-of, two-kids, four-kids}

-- one side, as trees

-- what the first side of a system is, by the face that it has
pub record FirstSide (y : Fixed) (raised : Bool) (p q b c t rest : Tree) (atoms : List Atom) : Type 0 where
  pub to : SidesPass y raised (Make op.Join (More p (More q NoTrees))) (Make op.Sys (More b (More c (More t (More rest NoTrees))))) → Normal (fix_all atoms y) t × SidesPass y raised q rest
  pub from : Normal (fix_all atoms y) t → SidesPass y raised q rest → SidesPass y raised (Make op.Join (More p (More q NoTrees))) (Make op.Sys (More b (More c (More t (More rest NoTrees)))))

join-parts : (p q x u : Tree) → Make op.Join (More p (More q NoTrees)) ≡ Make op.Join (More x (More u NoTrees)) → (p ≡ x) × (q ≡ u)
join-parts p q x u e = (cc, cc)

-- a face that is a Cover has a first conjunction where it is a join
record Covers (p q : Tree) (cs : List (List Atom)) : Type 0 where
  pub first : List Atom
  pub others : List (List Atom)
  pub whole : cs ≡ first ∷ others
  pub is_first : p ≡ conjunction first
  pub is_rest : q ≡ cover others

covers : (p q : Tree) (cs : List (List Atom)) → Make op.Join (More p (More q NoTrees)) ≡ cover cs → Covers p q cs
covers p q [] e = cc
covers p q (c ∷ cs) e = let h = join-parts p q _ _ e in record { first = c; others = cs; whole = refl; is_first = h.0; is_rest = h.1 }

pub first-side : (y : Fixed) (raised : Bool) (p q b c t rest : Tree) (atoms : List Atom) → IsConjunctionOf raised p b (Some atoms) → IsCoverOf raised q c → FirstSide y raised p q b c t rest atoms
first-side y raised p q b c t rest atoms conj rests = record {
  to = λ h.
      let v = covers p q h.0 h.1 in
      let same : v.first ≡ conj.0 = same-conjunctions v.first conj.0 (sym v.is_first ∙ conj.1) in
      let sides : AreSides y (map (all_written raised) (v.first ∷ v.others)) (Make op.Sys (More b (More c (More t (More rest NoTrees))))) = subst (λ ds. AreSides y (map (all_written raised) ds) (Make op.Sys (More b (More c (More t (More rest NoTrees)))))) v.whole h.2 in
      let is : all_written raised v.first ≡ atoms = ap (all_written raised) same ∙ sym conj.3 in (
        subst (λ es. Normal (fix_all es y) t) is sides.2,
        (v.others, v.is_rest, sides.3),
      );
  from = λ normal others.
      let same : others.0 ≡ rests.0 = same-covers others.0 rests.0 (sym others.1 ∙ rests.1) in (
        conj.0 ∷ others.0,
        ap₂ (λ u v. Make op.Join (More u (More v NoTrees))) conj.1 others.1,
        (
          conj.2,
          rests.2 ∙ ap (λ ds. cover (map (all_written raised) ds)) (sym same),
          subst (λ es. Normal (fix_all es y) t) conj.3 normal,
          others.2,
        ),
      );
}

pub no-conjunction : (y : Fixed) (raised : Bool) (p q b c t rest : Tree) → IsConjunctionOf raised p b None → SidesPass y raised (Make op.Join (More p (More q NoTrees))) (Make op.Sys (More b (More c (More t (More rest NoTrees))))) → ⊥
no-conjunction y raised p q b c t rest never h =
    let v = covers p q h.0 h.1 in
    let sides : AreSides y (map (all_written raised) (v.first ∷ v.others)) (Make op.Sys (More b (More c (More t (More rest NoTrees))))) = subst (λ ds. AreSides y (map (all_written raised) ds) (Make op.Sys (More b (More c (More t (More rest NoTrees)))))) v.whole h.2 in
    never v.first v.is_first sides.0

pub no-cover : (y : Fixed) (raised : Bool) (p q b c t rest : Tree) → (IsCoverOf raised q c → ⊥) → SidesPass y raised (Make op.Join (More p (More q NoTrees))) (Make op.Sys (More b (More c (More t (More rest NoTrees))))) → ⊥
no-cover y raised p q b c t rest never h =
    let v = covers p q h.0 h.1 in
    let sides : AreSides y (map (all_written raised) (v.first ∷ v.others)) (Make op.Sys (More b (More c (More t (More rest NoTrees))))) = subst (λ ds. AreSides y (map (all_written raised) ds) (Make op.Sys (More b (More c (More t (More rest NoTrees)))))) v.whole h.2 in
    never (v.others, v.is_rest, sides.1)

-- systems whose face or body is of no such form

pub face-variable : (y : Fixed) (raised : Bool) (j : ℕ) (p b : Tree) → Var j ≡ p → SidesPass y raised p b → ⊥
face-variable y raised j p b is h = none h.0 (is ∙ h.1)
  where
    none : (cs : List (List Atom)) → Var j ≡ cover cs → ⊥
    none [] e = cc
    none (c ∷ cs) e = cc

pub body-variable : (y : Fixed) (raised : Bool) (j : ℕ) (p b : Tree) → Var j ≡ b → SidesPass y raised p b → ⊥
body-variable y raised j p b is h = none h.0 (subst (AreSides y (map (all_written raised) h.0)) (sym is) h.2)
  where
    none : (cs : List (List Atom)) → AreSides y (map (all_written raised) cs) (Var j) → ⊥
    none [] s = s
    none (c ∷ cs) s = s

pub face-other : (y : Fixed) (raised : Bool) (o : Op) (ps : Trees) (b : Tree) → (o ≡ op.F0 → ⊥) → (o ≡ op.Join → ⊥) → SidesPass y raised (Make o ps) b → ⊥
face-other y raised o ps b no0 no1 h = none h.0 h.1
  where
    none : (cs : List (List Atom)) → Make o ps ≡ cover cs → ⊥
    none [] e = no0 (op-same o op.F0 ps _ e)
    none (c ∷ cs) e = no1 (op-same o op.Join ps _ e)

pub body-other : (y : Fixed) (raised : Bool) (ps : Trees) (o : Op) (bs : Trees) → (o ≡ op.Sys → ⊥) → SidesPass y raised (Make op.Join ps) (Make o bs) → ⊥
body-other y raised ps o bs never h = none h.0 h.1 h.2
  where
    not-sys : (cs : List (List Atom)) (c : List Atom) (q : Op) (us : Trees) → (q ≡ op.Sys → ⊥) → AreSides y (c ∷ cs) (Make q us) → ⊥
    not-sys cs c op.Sys us n s = n refl
    not-sys cs c _ us n s = s

    none : (cs : List (List Atom)) → Make op.Join ps ≡ cover cs → AreSides y (map (all_written raised) cs) (Make o bs) → ⊥
    none [] e s = cc
    none (c ∷ cs) e s = not-sys (map (all_written raised) cs) (all_written raised c) o bs never s

pub body-end : (y : Fixed) (raised : Bool) (p : Tree) → p ≡ Make op.F0 NoTrees → SidesPass y raised p (Make op.Empty NoTrees)
body-end y raised p is = ([], is, tt)

pub body-no-end : (y : Fixed) (raised : Bool) (ps : Trees) (o : Op) (bs : Trees) → (o ≡ op.Empty → ⊥) → SidesPass y raised (Make op.F0 ps) (Make o bs) → ⊥
body-no-end y raised ps o bs never h = none h.0 h.1 h.2
  where
    not-empty : (q : Op) (us : Trees) → (q ≡ op.Empty → ⊥) → AreSides y [] (Make q us) → ⊥
    not-empty op.Empty us n s = n refl
    not-empty _ us n s = s

    none : (cs : List (List Atom)) → Make op.F0 ps ≡ cover cs → AreSides y (map (all_written raised) cs) (Make o bs) → ⊥
    none [] e s = not-empty o bs never s
    none (c ∷ cs) e s = cc

-- the same of trees below environments that were added
pub conjunction-earlier : (f : Meanings) (k k' : List (List Waiting)) (m : ℕ) (raised : Bool) (face body : Frame) (first written : Closure) (found : Option (List Atom)) → Grows k k' → FrameStands f k m face → FrameStands f k m body → IsKidAt f k face 0 first → IsKidAt f k body 0 written
    → IsConjunctionOf raised (tree_in f k' first) (tree_in f k' written) found → IsConjunctionOf raised (tree_in f k first) (tree_in f k written) found
conjunction-earlier f k k' m raised face body first written found g face_stands body_stands k0 b0 h =
    let e = tree-grows f k k' (suc m) first g (k0.stands m face_stands.environment_stands) in
    let d = tree-grows f k k' (suc m) written g (b0.stands m body_stands.environment_stands) in
    subst (λ t. IsConjunctionOf raised t (tree_in f k written) found) e (subst (λ t. IsConjunctionOf raised (tree_in f k' first) t found) d h)

-- what is told of one thing is told of another

pub recast : (w : World) (P P' : Type 0) (Fits Fits' : ℕ → Type 0) (steps steps' : ℕ) (old new : List Test) (told : Bool) → (P → P') → (P' → P) → ((n : ℕ) → Fits n → Fits' n) → steps' ≤ steps
    → Tells w P' Fits' steps' old new told → Tells w P Fits steps old new told
recast w P P' Fits Fits' steps steps' old new false to from fits le never = λ p. never (to p)
recast w P P' Fits Fits' steps steps' old new true to from fits le l = record {
  more = l.more;
  tests = l.tests;
  forth = λ p. l.forth (to p);
  back = λ pass. from (l.back pass);
  good = λ us h. l.good us (λ q. h (from q));
  stand = λ n s. l.stand n (fits n s);
  fewer = let less = l.fewer in omega (arith, le, less);
}

-- nothing is left
pub leaves-nothing : (w : World) (P : Type 0) (Fits : ℕ → Type 0) (steps : ℕ) (old : List Test) (told : Bool) → (told ≡ true → P) → (told ≡ false → P → ⊥) → 0 < steps → Tells w P Fits steps old old told
leaves-nothing w P Fits steps old false is never some = never refl
leaves-nothing w P Fits steps old true is never some = record {
  more = [];
  tests = refl;
  forth = λ p. tt;
  back = λ pass. is refl;
  good = λ us h. h (is refl);
  stand = λ n s. tt;
  fewer = some;
}

-- the first side of a system, below environments and scopes that were added

module _ (f : Meanings) (k k' : List (List Waiting)) (z z' : List Fixed) (s : Sides) (face body : Frame) (old new : List Test) (g : Grows k k') (h : Grows z z')
    (m : ℕ) (first others written covering term rest : Closure) (face_stands : FrameStands f k m face) (body_stands : FrameStands f k m body) (joins : face.op ≡ op.Join) (systems : body.op ≡ op.Sys)
    (k0 : IsKidAt f k face 0 first) (k1 : IsKidAt f k face 1 others) (b0 : IsKidAt f k body 0 written) (b1 : IsKidAt f k body 1 covering) (b2 : IsKidAt f k body 2 term) (b3 : IsKidAt f k body 3 rest) where
  face_trees : frame_trees f k face ≡ tree_in f k first ∷ tree_in f k others ∷ []
  face_trees = two-kids f k face first others (count-of f k m face face_stands ∙ ap kids_of joins) k0 k1

  body_trees : frame_trees f k body ≡ tree_in f k written ∷ tree_in f k covering ∷ tree_in f k term ∷ tree_in f k rest ∷ []
  body_trees = four-kids f k body written covering term rest (count-of f k m body body_stands ∙ ap kids_of systems) b0 b1 b2 b3

  abbrev Opened : Type 0
  Opened = SidesPass (fixed_in z s.scope) s.raised (Make op.Join (More (tree_in f k first) (More (tree_in f k others) NoTrees))) (Make op.Sys (More (tree_in f k written) (More (tree_in f k covering) (More (tree_in f k term) (More (tree_in f k rest) NoTrees)))))

  same : SidePasses (at f k z) s face body ≡ Opened
  same = ap₂ (SidesPass (fixed_in z s.scope) s.raised) (ap₂ (λ o ts. Make o (trees_of ts)) joins face_trees) (ap₂ (λ o ts. Make o (trees_of ts)) systems body_trees)

  pub side-no-cover : (IsCoverOf s.raised (tree_in f k others) (tree_in f k covering) → ⊥) → Tells (at f k' z') (SidePasses (at f k z) s face body) (SideStands (at f k z) s face body) (3 * all_weights (frame_trees f k body)) old new false
  side-no-cover never = λ p. no-cover (fixed_in z s.scope) s.raised (tree_in f k first) (tree_in f k others) (tree_in f k written) (tree_in f k covering) (tree_in f k term) (tree_in f k rest) never (subst (λ X. X) same p)

  pub side-no-conjunction : IsConjunctionOf s.raised (tree_in f k first) (tree_in f k written) None → Tells (at f k' z') (SidePasses (at f k z) s face body) (SideStands (at f k z) s face body) (3 * all_weights (frame_trees f k body)) old new false
  side-no-conjunction never = λ p. no-conjunction (fixed_in z s.scope) s.raised (tree_in f k first) (tree_in f k others) (tree_in f k written) (tree_in f k covering) (tree_in f k term) (tree_in f k rest) never (subst (λ X. X) same p)

  later-term : tree_in f k term ≡ tree_in f k' term
  later-term = sym (tree-grows f k k' (suc m) term g (b2.stands m body_stands.environment_stands))

  later-rest : tree_in f k rest ≡ tree_in f k' rest
  later-rest = sym (tree-grows f k k' (suc m) rest g (b3.stands m body_stands.environment_stands))

  later-others : tree_in f k others ≡ tree_in f k' others
  later-others = sym (tree-grows f k k' (suc m) others g (k1.stands m face_stands.environment_stands))

  pub leaves-side : (atoms : List Atom) (scope : Scope) → IsConjunctionOf s.raised (tree_in f k first) (tree_in f k written) (Some atoms) → IsCoverOf s.raised (tree_in f k others) (tree_in f k covering)
      → IsWithin z s.scope → fixed_in z' scope ≡ fix_all atoms (fixed_in z s.scope) → IsWithin z' scope → depth_of scope ≤ depth_of s.scope
      → new ≡ old ++ (test.Sides (record { raised = s.raised; scope = s.scope; face = others; body = rest }) ∷ test.Tree (part_at place.Anywhere scope term) ∷ [])
      → Tells (at f k' z') (SidePasses (at f k z) s face body) (SideStands (at f k z) s face body) (3 * all_weights (frame_trees f k body)) old new true
  leaves-side atoms scope conj cov there fixes within depth made =
      let v = first-side (fixed_in z s.scope) s.raised (tree_in f k first) (tree_in f k others) (tree_in f k written) (tree_in f k covering) (tree_in f k term) (tree_in f k rest) atoms conj cov in
      let w = ap all_weights body_trees in
      let wt = ap weight later-term in
      let wr = ap weight later-rest in
      let kept : fixed_in z' s.scope ≡ fixed_in z s.scope = fixed-grows z z' s.scope h there in
      let term_same : Normal (fix_all atoms (fixed_in z s.scope)) (tree_in f k term) ≡ Normal (fixed_in z' scope) (tree_in f k' term) = ap₂ Normal (sym fixes) later-term in
      let rest_same : SidesPass (fixed_in z s.scope) s.raised (tree_in f k others) (tree_in f k rest) ≡ SidesPass (fixed_in z' s.scope) s.raised (tree_in f k' others) (tree_in f k' rest) =
      ap (λ y. SidesPass y s.raised (tree_in f k others) (tree_in f k rest)) (sym kept) ∙ ap₂ (SidesPass (fixed_in z' s.scope) s.raised) later-others later-rest in
      let back : AllPass (at f k' z') (test.Tree (part_at place.Anywhere scope term) ∷ test.Sides (record { raised = s.raised; scope = s.scope; face = others; body = rest }) ∷ []) → SidePasses (at f k z) s face body = λ pass.
      subst (λ X. X) (sym same) (v.from (subst (λ X. X) (sym term_same) pass.0.1) (subst (λ X. X) (sym rest_same) pass.1.0)) in
      record {
        more = (test.Tree (part_at place.Anywhere scope term) ∷ test.Sides (record { raised = s.raised; scope = s.scope; face = others; body = rest }) ∷ []);
        tests = ap reverse made ∙ reverse-append old _;
        forth = λ p. let q = v.to (subst (λ X. X) same p) in ((tt, subst (λ X. X) term_same q.0), (subst (λ X. X) rest_same q.1, tt));
        back = back;
        good = λ us h a b. h (back (a, (b, tt)));
        stand = λ n fits. (
          (
            (omega (arith, fits.0.0, depth), within),
            closure-deeper f k' n (n + 1) term (omega arith) (closure-grows f k k' n term g (b2.same n fits.2 (ap (λ o. binds_of o 2) systems))),
          ),
          (
            (
              (omega (arith, fits.0.0), within-grows z z' s.scope h there),
              closure-deeper f k' n (n + 0) others (omega arith) (closure-grows f k k' n others g (k1.same n fits.1 (ap (λ o. binds_of o 1) joins))),
              closure-deeper f k' n (n + 0) rest (omega arith) (closure-grows f k k' n rest g (b3.same n fits.2 (ap (λ o. binds_of o 3) systems))),
            ),
            tt,
          ),
        );
        fewer = omega (arith, w, wt, wr);
      }

no-trees : (ts : List Tree) → length ts ≡ 0 → ts ≡ []
no-trees [] e = refl
no-trees (t ∷ ts) e = absurd (omega arith)

-- a system that was opened

module _ (f : Meanings) (k k1 k2 : List (List Waiting)) (z : List Fixed) (m : ℕ) (s : Sides) (g1 : Grows k k1) (g2 : Grows k1 k2) (face_stands : IsClosure f k m s.face) (body_stands : IsClosure f k m s.body) where
  pub body-then : IsClosure f k1 m s.body
  body-then = closure-grows f k k1 m s.body g1 body_stands

  pub body-same : tree_in f k1 s.body ≡ tree_in f k s.body
  body-same = tree-grows f k k1 m s.body g1 body_stands

  pub face-frame : (face : Frame) → OpensFrame f k k1 s.face 0 face → FrameStands f k2 m face
  face-frame face o = record { count = o.frame.count; rows = o.frame.rows; environment_stands = stands-grows f k1 k2 m face.environment g2 (o.stands m face_stands) }

  pub body-frame : (body : Frame) → OpensFrame f k1 k2 s.body 0 body → FrameStands f k2 m body
  body-frame body o = record { count = o.frame.count; rows = o.frame.rows; environment_stands = o.stands m body-then }

  face-now : (face : Frame) → OpensFrame f k k1 s.face 0 face → tree_in f k s.face ≡ Make face.op (trees_of (frame_trees f k2 face))
  face-now face o =
      let stands : FrameStands f k1 m face = record { count = o.frame.count; rows = o.frame.rows; environment_stands = o.stands m face_stands } in
      o.frame.whole ∙ ap (λ ts. Make face.op (trees_of ts)) (sym (trees-grow f k1 k2 m face g2 stands))

  body-now : (body : Frame) → OpensFrame f k1 k2 s.body 0 body → tree_in f k s.body ≡ Make body.op (trees_of (frame_trees f k2 body))
  body-now body o = sym body-same ∙ o.frame.whole

  opened-same : (face body : Frame) → OpensFrame f k k1 s.face 0 face → OpensFrame f k1 k2 s.body 0 body → Passes (at f k z) (test.Sides s) ≡ SidePasses (at f k2 z) s face body
  opened-same face body o p = ap₂ (SidesPass (fixed_in z s.scope) s.raised) (face-now face o) (body-now body p)

  pub sides-tell : (k3 : List (List Waiting)) (z3 : List Fixed) (face body : Frame) (old new : List Test) (told : Bool) → OpensFrame f k k1 s.face 0 face → OpensFrame f k1 k2 s.body 0 body
      → Tells (at f k3 z3) (SidePasses (at f k2 z) s face body) (SideStands (at f k2 z) s face body) (3 * all_weights (frame_trees f k2 body)) old new told
      → TellsTest (at f k z) (at f k3 z3) (test.Sides s) old new told
  sides-tell k3 z3 face body old new told o p tells =
      let e = opened-same face body o p in
      let w = ap weight body-same in
      let v = frame-weight f k2 (tree_in f k1 s.body) body p.frame in
      recast (at f k3 z3) (Passes (at f k z) (test.Sides s)) (SidePasses (at f k2 z) s face body) (λ n. TestStands (at f k z) n (test.Sides s)) (SideStands (at f k2 z) s face body) (3 * weight (tree_in f k s.body)) (3 * all_weights (frame_trees f k2 body)) old new told
      (subst (λ X. X) e) (subst (λ X. X) (sym e))
      (λ n fits. (fits.0, stands-grows f k1 k2 n face.environment g2 (o.stands n fits.1), p.stands n (closure-grows f k k1 n s.body g1 fits.2)))
      (omega (arith, w, v)) tells

  pub sides-no-body : (k3 : List (List Waiting)) (z3 : List Fixed) (j : ℕ) (old new : List Test) → Var j ≡ tree_in f k1 s.body → TellsTest (at f k z) (at f k3 z3) (test.Sides s) old new false
  sides-no-body k3 z3 j old new is = λ p. body-variable (fixed_in z s.scope) s.raised j (tree_in f k s.face) (tree_in f k s.body) (is ∙ body-same) p

  pub sides-end : (k3 : List (List Waiting)) (z3 : List Fixed) (face body : Frame) (old : List Test) (told : Bool) → OpensFrame f k k1 s.face 0 face → OpensFrame f k1 k2 s.body 0 body → face.op ≡ op.F0
      → (told ≡ true → body.op ≡ op.Empty) → (told ≡ false → body.op ≡ op.Empty → ⊥) → TellsTest (at f k z) (at f k3 z3) (test.Sides s) old old told
  sides-end k3 z3 face body old told o p ends is never =
      let y = fixed_in z s.scope in
      let some = weight-some (tree_in f k s.body) in
      let F : tree_in f k s.face ≡ Make op.F0 (trees_of (frame_trees f k2 face)) = face-now face o ∙ ap (λ x. Make x (trees_of (frame_trees f k2 face))) ends in
      let none : frame_trees f k2 face ≡ [] = no-trees (frame_trees f k2 face) (count-of f k2 m face (face-frame face o) ∙ ap kids_of ends) in
      let B = body-now body p in
      leaves-nothing (at f k3 z3) (Passes (at f k z) (test.Sides s)) (λ n. TestStands (at f k z) n (test.Sides s)) (3 * weight (tree_in f k s.body)) old told
      (λ e.
      let blank : frame_trees f k2 body ≡ [] = no-trees (frame_trees f k2 body) (count-of f k2 m body (body-frame body p) ∙ ap kids_of (is e)) in
      let whole : tree_in f k s.body ≡ Make op.Empty NoTrees = B ∙ ap₂ (λ x ts. Make x (trees_of ts)) (is e) blank in
      subst (SidesPass y s.raised (tree_in f k s.face)) (sym whole) (body-end y s.raised (tree_in f k s.face) (F ∙ ap (λ ts. Make op.F0 (trees_of ts)) none)))
      (λ e pass. body-no-end y s.raised _ body.op _ (never e) (subst (SidesPass y s.raised (Make op.F0 (trees_of (frame_trees f k2 face)))) B (subst (λ t. SidesPass y s.raised t (tree_in f k s.body)) F pass)))
      (omega (arith, some))

  no-other : (face body : Frame) → OpensFrame f k k1 s.face 0 face → OpensFrame f k1 k2 s.body 0 body → (face.op ≡ op.F0 → ⊥) → (face.op ≡ op.Join → body.op ≡ op.Sys → ⊥) → SidesPass (fixed_in z s.scope) s.raised (tree_in f k s.face) (tree_in f k s.body) → ⊥
  no-other face body o p no0 no1 pass = by face.op (frame_trees f k2 face) body.op (frame_trees f k2 body) (face-now face o) (body-now body p) no0 no1
    where
      by-join : (ts : List Tree) (b : Op) (us : List Tree) → tree_in f k s.face ≡ Make op.Join (trees_of ts) → tree_in f k s.body ≡ Make b (trees_of us) → (b ≡ op.Sys → ⊥) → ⊥
      by-join ts b us F B never = body-other (fixed_in z s.scope) s.raised (trees_of ts) b (trees_of us) never (subst (SidesPass (fixed_in z s.scope) s.raised (Make op.Join (trees_of ts))) B (subst (λ t. SidesPass (fixed_in z s.scope) s.raised t (tree_in f k s.body)) F pass))

      by : (a : Op) (ts : List Tree) (b : Op) (us : List Tree) → tree_in f k s.face ≡ Make a (trees_of ts) → tree_in f k s.body ≡ Make b (trees_of us) → (a ≡ op.F0 → ⊥) → (a ≡ op.Join → b ≡ op.Sys → ⊥) → ⊥
      by a ts b us F B n0 n1 = face-other (fixed_in z s.scope) s.raised a (trees_of ts) (tree_in f k s.body) n0 (λ e. by-join ts b us (F ∙ ap (λ x. Make x (trees_of ts)) e) B (n1 e)) (subst (λ t. SidesPass (fixed_in z s.scope) s.raised t (tree_in f k s.body)) F pass)

  pub sides-other : (k3 : List (List Waiting)) (z3 : List Fixed) (face body : Frame) (old new : List Test) → OpensFrame f k k1 s.face 0 face → OpensFrame f k1 k2 s.body 0 body
      → (face.op ≡ op.F0 → ⊥) → (face.op ≡ op.Join → body.op ≡ op.Sys → ⊥) → TellsTest (at f k z) (at f k3 z3) (test.Sides s) old new false
  sides-other k3 z3 face body old new o p no0 no1 = λ pass. no-other face body o p no0 no1 pass
