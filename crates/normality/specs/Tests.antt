-- What is left to test of a tree, the next first.
use Rattle.std.specs.Prelude.{◌≡◌, ℕ, zero, suc, ◌+◌, ◌*◌, ◌<◌, ◌≤◌, Bool, true, false, List, []}
use Rattle.std.specs.Prelude.{◌∷◌, ◌++◌, length, drop, map, reverse}
use Rattle.std.specs.List.{All}
use Rattle.trees.specs.declared.op.Op.{Op}
use Rattle.trees.specs.declared.op.Op.TheVariants as op
use Rattle.trees.specs.Operators.{kids_of, binds_of}
use Rattle.trees.specs.Trees.{Tree, Make, trees_of}
use Rattle.closures.specs.declared.closure.Closure.{Closure}
use Rattle.closures.specs.Environments.{IsWithin as IsEnvironment}
use Rattle.closures.specs.Closures.{IsClosure, Stands}
use Rattle.tree_frames.specs.declared.frames.Frame.{Frame}
use Rattle.tree_frames.specs.Frames.{weight, all_weights, FrameStands}
use Rattle.normal_formulas.specs.declared.atoms.Atom.{Atom}
use Rattle.normal_formulas.specs.Atoms.{cover}
use Rattle.fixed_names.specs.declared.scopes.Scope.{Scope}
use Rattle.fixed_names.specs.Fixed.{Fixed, bound}
use Rattle.fixed_names.specs.Scopes.{IsWithin, depth_of}
use Rattle.normality.specs.declared.places.Place.{Place}
use Rattle.normality.specs.declared.tests.Part.{Part}
use Rattle.normality.specs.declared.tests.Sides.{Sides}
use Rattle.normality.specs.declared.tests.Test.{Test}
use Rattle.normality.specs.declared.tests.Test.TheVariants as test
use Rattle.normal_parts.specs.Normal.{Normal, AreSides}
use Rattle.normal_parts.specs.Parts.{all_written}
use Rattle.normality.specs.Places.{MayStand, place_of}
use Rattle.normality.specs.Worlds.{World, tree_at, trees_at, fixed_at}

abbrev pub part_at : Place → Scope → Closure → Part
part_at place scope c = record { place = place; scope = scope; closure = c }

abbrev pub sides_over : Scope → Closure → Closure → Sides
sides_over scope face body =
    record { raised = false; scope = scope; face = face; body = body }

-- a tree at a place
abbrev pub PassesAt : Fixed → Place → Tree → Type 0
PassesAt z p t = MayStand p t × Normal z t

-- the kids of an operator from a place on
abbrev pub KidsPass : Fixed → Op → ℕ → List Tree → Type 0
KidsPass z o at [] = Unit {0}
KidsPass z o at (t ∷ ts) =
    PassesAt (bound (binds_of o at) z) (place_of o at) t × KidsPass z o (suc at) ts

-- the sides of a system, one for each conjunction of a face
abbrev pub SidesPass : Fixed → Bool → Tree → Tree → Type 0
SidesPass z raised p b =
    (cs : List (List Atom)) × (p ≡ cover cs) × AreSides z (map (all_written raised) cs) b

abbrev pub PartPasses : World → Part → Type 0
PartPasses w p = PassesAt (fixed_at w p.scope) p.place (tree_at w p.closure)

abbrev pub Passes : World → Test → Type 0
Passes w (test.Tree p) = PartPasses w p
Passes w (test.Kids s r) = KidsPass (fixed_at w s) r.op r.at (drop r.at (trees_at w r))
Passes w (test.Sides s) =
    SidesPass (fixed_at w s.scope) s.raised (tree_at w s.face) (tree_at w s.body)
Passes w (test.Keep p) = Unit {0}

abbrev pub AllPass : World → List Test → Type 0
AllPass w [] = Unit {0}
AllPass w (t ∷ ts) = Passes w t × AllPass w ts

-- where the tests before a part to keep pass, this does
abbrev pub IsGood : World → List Test → Type 0
IsGood w [] = Unit {0}
IsGood w (test.Keep p ∷ ts) = PartPasses w p × IsGood w ts
IsGood w (t ∷ ts) = Passes w t → IsGood w ts

-- how many steps a test takes at most
abbrev pub steps_of : World → Test → ℕ
steps_of w (test.Tree p) = 3 * weight (tree_at w p.closure)
steps_of w (test.Kids s r) = suc (3 * all_weights (drop r.at (trees_at w r)))
steps_of w (test.Sides s) = 3 * weight (tree_at w s.body)
steps_of w (test.Keep p) = 1

abbrev pub all_steps : World → List Test → ℕ
all_steps w [] = 0
all_steps w (t ∷ ts) = steps_of w t + all_steps w ts

-- the part names an environment and a scope that there are
abbrev pub PartIs : World → Part → Type 0
PartIs w p = IsEnvironment w.known p.closure.environment × IsWithin w.fixed p.scope

-- the scope is one, below so many binders at most
abbrev pub ScopeFits : World → ℕ → Scope → Type 0
ScopeFits w n s = (depth_of s ≤ n) × IsWithin w.fixed s

-- a test stands, with n below it
abbrev pub TestStands : World → ℕ → Test → Type 0
TestStands w n (test.Tree p) = ScopeFits w n p.scope × IsClosure w.f w.known n p.closure
TestStands w n (test.Kids s r) =
    ScopeFits w n s × FrameStands w.f w.known n r × (r.at ≤ kids_of r.op)
TestStands w n (test.Sides s) = ScopeFits w n s.scope
    × IsClosure w.f w.known n s.face × IsClosure w.f w.known n s.body
TestStands w n (test.Keep p) = PartIs w p

-- each of the tests stands, over so many others
abbrev pub TestsStand : World → ℕ → List Test → Type 0
TestsStand w n [] = Unit {0}
TestsStand w n (t ∷ ts) = TestStands w (n + length ts) t × TestsStand w n ts

-- Further tests were left: what is to hold does so exactly where they pass. They stand over so many
-- others as `Fits` says, and take fewer steps than these.
pub record Leaves (w : World) (P : Type 0) (Fits : ℕ → Type 0) (steps : ℕ) (old new : List Test)
    : Type 0 where
  pub more : List Test
  pub tests : reverse new ≡ more ++ reverse old
  pub forth : P → AllPass w more
  pub back : AllPass w more → P
  pub good : (ts : List Test) → (P → IsGood w ts) → IsGood w (more ++ ts)
  pub stand : (n : ℕ) → Fits n → TestsStand w n more
  pub fewer : all_steps w more < steps

-- such tests were left, or it does not hold
abbrev pub Tells : World → Type 0 → (ℕ → Type 0) → ℕ → List Test → List Test → Bool → Type 0
Tells w P Fits steps old new true = Leaves w P Fits steps old new
Tells w P Fits steps old new false = P → ⊥

-- what is to hold is that a test passes
abbrev pub TellsTest : World → World → Test → List Test → List Test → Bool → Type 0
TellsTest w now t old new told =
    Tells now (Passes w t) (λ n. TestStands w n t) (steps_of w t) old new told

-- the same over one test more
abbrev pub OverOne : (ℕ → Type 0) → ℕ → Type 0
OverOne Fits zero = ⊥
OverOne Fits (suc n) = Fits n

abbrev pub FrameFits : World → Scope → Frame → ℕ → Type 0
FrameFits w s r n = ScopeFits w n s × Stands w.f w.known n r.environment

-- what is to hold is that the tree of an operator over its kids is normal
abbrev pub TellsFrame : World → World → Scope → Frame → List Test → List Test → Bool → Type 0
TellsFrame w now s r old new told =
    let ts = trees_at w r in
    Tells now (Normal (fixed_at w s) (Make r.op (trees_of ts))) (OverOne (FrameFits w s r))
    (3 * all_weights ts + 2) old new told

-- a system and a face, opened
abbrev pub SidePasses : World → Sides → Frame → Frame → Type 0
SidePasses w s face body = SidesPass (fixed_at w s.scope) s.raised
    (Make face.op (trees_of (trees_at w face))) (Make body.op (trees_of (trees_at w body)))

abbrev pub SideStands : World → Sides → Frame → Frame → ℕ → Type 0
SideStands w s face body n = ScopeFits w n s.scope
    × Stands w.f w.known n face.environment × Stands w.f w.known n body.environment
