-- The test at two judgements of a thousand operators each.
use Rattle.std.proofs.Common.{◌≡◌, ℕ, zero, suc, ◌+◌, true, [], ◌∷◌, refl}
use Rattle.trees.specs.declared.op.Op.TheVariants as O
use Rattle.trees.specs.Language.{Tm}
use Rattle.substitution.specs.Forms.{at, lift}
use Rattle.patterns.specs.Patterns.{Pattern, Part, Index, Build, Under, SubstPart, Pushed, Then, ContextPart, patterns, patterns_of}
use Rattle.patterns.specs.Tests.{same_judgement}

-- 2 ^ n - 1 functions, n deep, over 2 ^ n applications, each to an index of its own
abbrev bush : ℕ → ℕ → Pattern
bush zero k = Build O.App (patterns_of (Part 0 ∷ Index k ∷ []))
bush (suc n) k = Build O.Lam (patterns_of (bush n (k + k) ∷ bush n (k + k + 1) ∷ []))

-- 1,023 operators
abbrev large : ℕ → Pattern
large k = bush 9 k

-- one substitution after another, at once
pub large-twice : same_judgement (Tm (ContextPart 1) (Under (Under (large 0) (Pushed (SubstPart 2) (Part 3))) (SubstPart 4)) (Index 0)) (Tm (ContextPart 1) (Under (large 0) (Then (Pushed (SubstPart 2) (Part 3)) (SubstPart 4))) (Index 0)) ≡ true
large-twice = refl

-- a tree for the innermost index, under a substitution
pub large-at : same_judgement (Tm (ContextPart 1) (Under (at patterns (large 0) (Part 3)) (SubstPart 4)) (Index 0)) (Tm (ContextPart 1) (at patterns (Under (large 0) (lift patterns (SubstPart 4))) (Under (Part 3) (SubstPart 4))) (Index 0)) ≡ true
large-at = refl
