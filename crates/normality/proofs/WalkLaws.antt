-- The walk over a tree: it is normal exactly where the tests that are left pass.
use Rattle.std.proofs.Common.{◌≡◌, ℕ, zero, suc, ◌+◌, ◌<◌, ◌≤◌, Bool, true, false, ◌⊎◌, inl, inr, List, [], ◌∷◌, ◌++◌, length, reverse, Contains, refl, sym, ◌∙◌, ap, ap₂, subst, arith}
use Rattle.std.specs.List.{All}
use Rattle.std.proofs.lemmas.List.{reverse-append, length-append}
use Rattle.std.proofs.lemmas.List.Elements.{All-nil, All-weaker, All-push, All-contains}
use Rattle.trees.specs.Things.{Meanings}
use Rattle.rows.specs.Tables.{Grows}
use Rattle.rows.specs.Views.{IsTree}
use Rattle.rows.specs.declared.views.TermId.{TermId}
use Rattle.closures.specs.declared.closure.Closure.{Closure}
use Rattle.closures.specs.declared.environments.Environment.TheVariants as env
use Rattle.closures.specs.Environments.{Waiting}
use Rattle.closures.proofs.HeadLaws.{row-stands}
use Rattle.side_conditions.specs.Shapes.{tree_of}
use Rattle.side_conditions.proofs.WalkLaws.{row_tree}
use Rattle.tree_frames.specs.Frames.{tree_in}
use Rattle.fixed_names.specs.declared.scopes.Scope.{Scope}
use Rattle.fixed_names.specs.Scopes.{fixed_in, depth_of, IsWithin}
use Rattle.normality.specs.declared.places.Place.TheVariants as place
use Rattle.normal_parts.specs.Normal.{Normal}
use Rattle.fixed_names.specs.Fixed.{Fixed}
use Rattle.normality.specs.declared.tests.Part.{Part}
use Rattle.normality.specs.declared.tests.Test.{Test}
use Rattle.normality.specs.declared.tests.Test.TheVariants as test
use Rattle.tree_frames.proofs.FrameLaws.{weight-some}
use Rattle.normality.specs.Worlds.{World, at, tree_at}
use Rattle.normality.specs.Tests.{part_at, PartPasses, Passes, AllPass, IsGood, steps_of, all_steps, PartIs, TestStands, TestsStand, Leaves, TellsTest}
use Rattle.normality.proofs.WorldLaws.{part-same, part-is, later, Later}

pub record IsKept (w : World) (p : Part) : Type 0 where
  pub is : PartIs w p
  pub passes : PartPasses w p

-- the parts that are kept pass
abbrev pub AreKept : World → List Part → Type 0
AreKept w passed = All (IsKept w) passed

-- what is to hold does so exactly where all tests that are left pass, and each of them stands
pub record Walks (w : World) (goal : Type 0) (passed : List Part) (tests : List Test) : Type 0 where
  pub stand : TestsStand w 0 tests
  pub forth : goal → AllPass w tests
  pub back : AllPass w tests → goal
  pub good : IsGood w tests
  pub kept : AreKept w passed

-- the first test, and those after it
pub record Next (w : World) (goal : Type 0) (passed : List Part) (items rest : List Test) (t : Test) : Type 0 where
  pub order : reverse items ≡ t ∷ reverse rest
  pub walks : Walks w goal passed (t ∷ reverse rest)

pub next-test : {w : World} {goal : Type 0} {passed : List Part} {items rest : List Test} {last t : Test} → items ≡ rest ++ last ∷ [] → last ≡ t → Walks w goal passed (reverse items) → Next w goal passed items rest t
next-test {w = w} {goal = goal} {passed = passed} {items = items} {rest = rest} {last = last} {t = t} popped is walks =
    let order : reverse items ≡ t ∷ reverse rest = ap reverse popped ∙ reverse-append rest (last ∷ []) ∙ ap (λ x. x ∷ reverse rest) is in
    record { order = order; walks = subst (Walks w goal passed) order walks }

kept-later : (f : Meanings) (k k' : List (List Waiting)) (z z' : List Fixed) → Grows k k' → Grows z z' → (passed : List Part) → AreKept (at f k z) passed → AreKept (at f k' z') passed
kept-later f k k' z z' g h passed kept =
    All-weaker (IsKept (at f k z)) (IsKept (at f k' z'))
    (λ p one. record { is = part-is f k k' z z' g h p one.is; passes = subst (λ X. X) (part-same f k k' z z' g h p one.is) one.passes }) passed kept

pub pass-append : (w : World) (ts us : List Test) → AllPass w ts → AllPass w us → AllPass w (ts ++ us)
pass-append w [] us p q = q
pass-append w (t ∷ ts) us p q = (p.0, pass-append w ts us p.1 q)

pub pass-first : (w : World) (ts us : List Test) → AllPass w (ts ++ us) → AllPass w ts
pass-first w [] us p = tt
pass-first w (t ∷ ts) us p = (p.0, pass-first w ts us p.1)

pub pass-second : (w : World) (ts us : List Test) → AllPass w (ts ++ us) → AllPass w us
pass-second w [] us p = p
pass-second w (t ∷ ts) us p = pass-second w ts us p.1

pub steps-append : (w : World) (ts us : List Test) → all_steps w (ts ++ us) ≡ all_steps w ts + all_steps w us
steps-append w [] us = omega arith
steps-append w (t ∷ ts) us = let h = steps-append w ts us in omega arith

pub stand-append : (w : World) (n : ℕ) (ts us : List Test) → TestsStand w (n + length us) ts → TestsStand w n us → TestsStand w n (ts ++ us)
stand-append w n [] us over stand = stand
stand-append w n (t ∷ ts) us over stand =
    let place : (n + length us) + length ts ≡ n + length (ts ++ us) = let l = length-append ts us in omega arith in
    (subst (λ m. TestStands w m t) place over.0, stand-append w n ts us over.1 stand)

-- what is told of a test where it may pass, and where it fails

pub leaves-where : (w now : World) (t : Test) (old new : List Test) (told : Bool) → TellsTest w now t old new told → told ≡ true → Leaves now (Passes w t) (λ n. TestStands w n t) (steps_of w t) old new
leaves-where w now t old new told tells e = subst (TellsTest w now t old new) e tells

pub fails-where : (w now : World) (t : Test) (old new : List Test) (told : Bool) → TellsTest w now t old new told → told ≡ false → Passes w t → ⊥
fails-where w now t old new told tells e = subst (TellsTest w now t old new) e tells

-- further tests were left of the first
pub next-left : {f : Meanings} {k : List (List Waiting)} {z : List Fixed} {goal : Type 0} {passed : List Part} {items rest : List Test} {t : Test} → Next (at f k z) goal passed items rest t
    → (IsGood (at f k z) (t ∷ reverse rest) → Passes (at f k z) t → IsGood (at f k z) (reverse rest))
    → (k' : List (List Waiting)) (z' : List Fixed) (new : List Test) → Grows k k' → Grows z z' → Leaves (at f k' z') (Passes (at f k z) t) (λ n. TestStands (at f k z) n t) (steps_of (at f k z) t) rest new
    → Walks (at f k' z') goal passed (reverse new) × (suc (all_steps (at f k' z') (reverse new)) ≤ all_steps (at f k z) (reverse items))
next-left {f = f} {k = k} {z = z} {goal = goal} {passed = passed} {items = items} {rest = rest} {t = t} next plain k' z' new g h l =
    let w = at f k z in
    let now = at f k' z' in
    let us = reverse rest in
    let old = next.walks in
    let r = later f k k' z z' g h 0 us old.stand.1 in
    let old_stands : TestStands w (0 + length us) t = old.stand.0 in
    let count : all_steps now (reverse new) ≡ all_steps now l.more + all_steps now us = ap (all_steps now) l.tests ∙ steps-append now l.more us in
    let same : all_steps now us ≡ all_steps w us = r.steps in
    let before : all_steps w (reverse items) ≡ steps_of w t + all_steps w us = ap (all_steps w) next.order in
    let less = l.fewer in (
      record {
        stand = subst (TestsStand now 0) (sym l.tests) (stand-append now 0 l.more us (l.stand (0 + length us) old_stands) r.stand);
        forth = λ goal.
            let p = old.forth goal in
            subst (AllPass now) (sym l.tests) (pass-append now l.more us (l.forth p.0) (subst (λ X. X) r.pass p.1));
        back = λ pass.
            let p = subst (AllPass now) l.tests pass in
            old.back (l.back (pass-first now l.more us p), subst (λ X. X) (sym r.pass) (pass-second now l.more us p));
        good = subst (IsGood now) (sym l.tests) (l.good us (λ p. subst (λ X. X) r.good (plain old.good p)));
        kept = kept-later f k k' z z' g h passed old.kept;
      },
      omega (arith, count, same, before, less),
    )

-- the first test has passed before
pub next-passed : {w : World} {goal : Type 0} {passed : List Part} {items rest : List Test} {p : Part} → Next w goal passed items rest (test.Tree p) → Contains passed p
    → Walks w goal passed (reverse rest) × (suc (all_steps w (reverse rest)) ≤ all_steps w (reverse items))
next-passed {w = w} {goal = goal} {passed = passed} {items = items} {rest = rest} {p = p} next there =
    let old = next.walks in
    let told = kept-one w passed p old.kept there in
    let before : all_steps w (reverse items) ≡ steps_of w (test.Tree p) + all_steps w (reverse rest) = ap (all_steps w) next.order in
    let some = tree-steps w p in (
      record { stand = old.stand.1; forth = λ goal. (old.forth goal).1; back = λ pass. old.back (told, pass); good = old.good told; kept = old.kept },
      omega (arith, before, some),
    )
  where
    kept-one : (w : World) (passed : List Part) (p : Part) → AreKept w passed → Contains passed p → PartPasses w p
    kept-one w passed p kept there = (All-contains (IsKept w) passed p kept there).passes

    tree-steps : (w : World) (p : Part) → 0 < steps_of w (test.Tree p)
    tree-steps w p = let some = weight-some (tree_at w p.closure) in omega (arith, some)

-- a part is kept
pub next-kept : {w : World} {goal : Type 0} {passed : List Part} {items rest : List Test} {p : Part} → Next w goal passed items rest (test.Keep p) → (new : List Part) → (new ≡ passed) ⊎ (new ≡ passed ++ p ∷ [])
    → Walks w goal new (reverse rest) × (suc (all_steps w (reverse rest)) ≤ all_steps w (reverse items))
next-kept {w = w} {goal = goal} {passed = passed} {items = items} {rest = rest} {p = p} next new is =
    let old = next.walks in
    let before : all_steps w (reverse items) ≡ 1 + all_steps w (reverse rest) = ap (all_steps w) next.order in (
      record { stand = old.stand.1; forth = λ goal. (old.forth goal).1; back = λ pass. old.back (tt, pass); good = old.good.1; kept = by is },
      omega (arith, before),
    )
  where
    by : (new ≡ passed) ⊎ (new ≡ passed ++ p ∷ []) → AreKept w new
    by (inl same) = subst (AreKept w) (sym same) next.walks.kept
    by (inr more) = subst (AreKept w) (sym more) (All-push (IsKept w) passed p next.walks.kept (record { is = next.walks.stand.0; passes = next.walks.good.0 }))

-- the first test fails
pub next-fails : {w : World} {goal : Type 0} {passed : List Part} {items rest : List Test} {t : Test} → Next w goal passed items rest t → (Passes w t → ⊥) → goal → ⊥
next-fails next never h = never (next.walks.forth h).0

-- no test is left
pub walks-end : {w : World} {goal : Type 0} {passed : List Part} {tests : List Test} → tests ≡ [] → Walks w goal passed (reverse tests) → goal
walks-end {w = w} {goal = goal} {passed = passed} none walks =
    let e = subst (λ ts. Walks w goal passed (reverse ts)) none walks in
    e.back tt

-- the beginning
pub walks-begin : (f : Meanings) (k : List (List Waiting)) (z : List Fixed) (fixed : Fixed) (term : TermId) (scope : Scope) (c : Closure) (passed : List Part) (items : List Test) → IsTree (f term.0) → c.row ≡ term → c.environment ≡ env.Empty
    → fixed_in z scope ≡ fixed → IsWithin z scope → depth_of scope ≡ 0 → passed ≡ [] → items ≡ test.Tree (part_at place.Anywhere scope c) ∷ []
    → Walks (at f k z) (Normal fixed (tree_of (f term.0))) passed (reverse items)
walks-begin f k z fixed term scope c passed items tree row none fixes within depth empty one =
    let w = at f k z in
    let here : c.row.0 ≡ term.0 = ap (λ (r : TermId). r.0) row in
    let whole : tree_in f k c ≡ tree_of (f term.0) = row_tree f k term.0 (record { closure = c; depth = 0 }) tree here none in
    let same : Normal (fixed_in z scope) (tree_in f k c) ≡ Normal fixed (tree_of (f term.0)) = ap₂ Normal fixes whole in
    subst (λ ts. Walks w (Normal fixed (tree_of (f term.0))) passed (reverse ts)) (sym one) record {
      stand = (((omega (arith, depth), within), row-stands f k 0 term.0 c tree here none), tt);
      forth = λ h. ((tt, subst (λ X. X) (sym same) h), tt);
      back = λ h. subst (λ X. X) same h.0.1;
      good = λ h. tt;
      kept = subst (AreKept w) (sym empty) (All-nil (IsKept w));
    }
