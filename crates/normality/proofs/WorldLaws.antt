-- Tests stay what they are where environments and scopes are added.
use Rattle.std.proofs.Common.{◌≡◌, ℕ, zero, suc, ◌+◌, ◌*◌, ◌<◌, ◌≤◌, List, [], ◌∷◌, ◌++◌, length, length-append, drop, refl, sym, ◌∙◌, ap, ap₂, subst, arith}
use Rattle.trees.specs.Trees.{Tree}
use Rattle.trees.specs.Things.{Meanings}
use Rattle.rows.specs.Tables.{Grows}
use Rattle.closures.specs.declared.closure.Closure.{Closure}
use Rattle.closures.specs.Environments.{Waiting, IsWithin as IsEnvironment}
use Rattle.closures.specs.Closures.{IsClosure, Stands}
use Rattle.closures.proofs.EnvironmentLaws.{is_before-more}
use Rattle.closures.proofs.HeadLaws.{closure-grows, stands-grows, closure_meaning-grows}
use Rattle.side_conditions.specs.Shapes.{tree_of}
use Rattle.tree_frames.specs.declared.frames.Frame.{Frame}
use Rattle.tree_frames.specs.Frames.{tree_in, frame_trees, weight, all_weights, FrameStands}
use Rattle.tree_frames.proofs.FrameLaws.{trees-grow, tree-grows}
use Rattle.fixed_names.specs.declared.scopes.Scope.{Scope}
use Rattle.fixed_names.specs.Fixed.{Fixed}
use Rattle.fixed_names.specs.Scopes.{fixed_in, depth_of, IsWithin}
use Rattle.fixed_names.proofs.ScopeLaws.{fixed-grows, within-grows}
use Rattle.normality.specs.declared.tests.Part.{Part}
use Rattle.normality.specs.declared.tests.Test.{Test}
use Rattle.normality.specs.declared.tests.Test.TheVariants as test
use Rattle.normality.specs.Worlds.{World, at}
use Rattle.normality.specs.Tests.{PassesAt, KidsPass, SidesPass, PartPasses, Passes, AllPass, IsGood, steps_of, all_steps, PartIs, ScopeFits, TestStands, TestsStand}

module _ (f : Meanings) (k k' : List (List Waiting)) (z z' : List Fixed) (g : Grows k k') (h : Grows z z') where
  closure-tree : (c : Closure) → IsEnvironment k c.environment → tree_in f k' c ≡ tree_in f k c
  closure-tree c within = ap tree_of (closure_meaning-grows f k k' c g within)

  pub part-same : (p : Part) → PartIs (at f k z) p → PartPasses (at f k z) p ≡ PartPasses (at f k' z') p
  part-same p is = ap₂ (λ y t. PassesAt y p.place t) (sym (fixed-grows z z' p.scope h is.1)) (sym (closure-tree p.closure is.0))

  pub part-is : (p : Part) → PartIs (at f k z) p → PartIs (at f k' z') p
  part-is p is = (environment-grows p.closure is.0, within-grows z z' p.scope h is.1)
    where
      environment-grows : (c : Closure) → IsEnvironment k c.environment → IsEnvironment k' c.environment
      environment-grows c within =
          let more : length k ≤ length k' = let size : length k' ≡ length k + length g.0 = ap length g.1 ∙ length-append k g.0 in omega arith in
          is_before-more (length k) (length k') c.environment more within

  pub scope-fits : (n : ℕ) (s : Scope) → ScopeFits (at f k z) n s → ScopeFits (at f k' z') n s
  scope-fits n s fits = (fits.0, within-grows z z' s h fits.1)

  pub pass-same : (n : ℕ) (t : Test) → TestStands (at f k z) n t → Passes (at f k z) t ≡ Passes (at f k' z') t
  pass-same n (test.Tree p) s = part-same p (s.1.environment.within, s.0.1)
  pass-same n (test.Kids c r) s = ap₂ (λ y ts. KidsPass y r.op r.at (drop r.at ts)) (sym (fixed-grows z z' c h s.0.1)) (sym (trees-grow f k k' n r g s.1))
  pass-same n (test.Sides s') s =
      ap (λ y. SidesPass y s'.raised (tree_in f k s'.face) (tree_in f k s'.body)) (sym (fixed-grows z z' s'.scope h s.0.1))
      ∙ ap₂ (λ p b. SidesPass (fixed_in z' s'.scope) s'.raised p b) (sym (tree-grows f k k' n s'.face g s.1)) (sym (tree-grows f k k' n s'.body g s.2))
  pass-same n (test.Keep p) s = refl

  pub test-stands : (n : ℕ) (t : Test) → TestStands (at f k z) n t → TestStands (at f k' z') n t
  test-stands n (test.Tree p) s = (scope-fits n p.scope s.0, closure-grows f k k' n p.closure g s.1)
  test-stands n (test.Kids c r) s = (
    scope-fits n c s.0,
    record { count = s.1.count; rows = s.1.rows; environment_stands = stands-grows f k k' n r.environment g s.1.environment_stands },
    s.2,
  )
  test-stands n (test.Sides s') s = (scope-fits n s'.scope s.0, closure-grows f k k' n s'.face g s.1, closure-grows f k k' n s'.body g s.2)
  test-stands n (test.Keep p) s = part-is p s

  pub same-steps : (n : ℕ) (t : Test) → TestStands (at f k z) n t → steps_of (at f k' z') t ≡ steps_of (at f k z) t
  same-steps n (test.Tree p) s = ap (λ t. 3 * weight t) (tree-grows f k k' n p.closure g s.1)
  same-steps n (test.Kids c r) s = ap (λ ts. suc (3 * all_weights (drop r.at ts))) (trees-grow f k k' n r g s.1)
  same-steps n (test.Sides s') s = ap (λ t. 3 * weight t) (tree-grows f k k' n s'.body g s.2)
  same-steps n (test.Keep p) s = refl

  good-same : (n : ℕ) (t : Test) (ts : List Test) → TestStands (at f k z) n t → IsGood (at f k z) ts ≡ IsGood (at f k' z') ts → IsGood (at f k z) (t ∷ ts) ≡ IsGood (at f k' z') (t ∷ ts)
  good-same n (test.Tree p) ts s e = ap₂ (λ X Y. X → Y) (pass-same n (test.Tree p) s) e
  good-same n (test.Kids c r) ts s e = ap₂ (λ X Y. X → Y) (pass-same n (test.Kids c r) s) e
  good-same n (test.Sides s') ts s e = ap₂ (λ X Y. X → Y) (pass-same n (test.Sides s') s) e
  good-same n (test.Keep p) ts s e = ap₂ (λ X Y. X × Y) (part-same p s) e

  pub record Later (n : ℕ) (ts : List Test) : Type 1 where
    pub stand : TestsStand (at f k' z') n ts
    pub pass : AllPass (at f k z) ts ≡ AllPass (at f k' z') ts
    pub good : IsGood (at f k z) ts ≡ IsGood (at f k' z') ts
    pub steps : all_steps (at f k' z') ts ≡ all_steps (at f k z) ts

  pub later : (n : ℕ) (ts : List Test) → TestsStand (at f k z) n ts → Later n ts
  later n [] s = record { stand = tt; pass = refl; good = refl; steps = refl }
  later n (t ∷ ts) s =
      let r = later n ts s.1 in
      record {
        stand = (test-stands (n + length ts) t s.0, r.stand);
        pass = ap₂ (λ X Y. X × Y) (pass-same (n + length ts) t s.0) r.pass;
        good = good-same (n + length ts) t ts s.0 r.good;
        steps = ap₂ ◌+◌ (same-steps (n + length ts) t s.0) r.steps;
      }
