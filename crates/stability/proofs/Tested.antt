-- A rule is stable where the test of patterns says so.
use Rattle.std.proofs.Common.{◌≡◌, ℕ, suc, Bool, true, false, List, [], ◌∷◌}
use Rattle.trees.specs.declared.kind.PartKind.{PartKind}
use Rattle.trees.specs.declared.kind.PartKind.TheVariants as part
use Rattle.theory.specs.declared.rule.RuleName.{RuleName}
use Rattle.theory.specs.RuleNames.{kinds_of}
use Rattle.patterns.specs.Patterns.{Part, Under, patterns}
use Rattle.patterns.specs.Tests.{same_rule}
use Rattle.patterns.proofs.Soundness.{same_rule-sound}
use Rattle.rules.specs.Table.{Over, rule}
use Rattle.stability.specs.Moved.{G, H, lifted, moved}
use Rattle.stability.specs.Stable.{MovesTrees, Moves, IsStable}

abbrev moves_trees : (kinds : List PartKind) → ℕ → List ℕ → Over patterns kinds → Over patterns kinds → Bool
moves_trees [] k [] r s = same_rule (moved r) s
moves_trees (part.Term ∷ kinds) k (n ∷ depths) r s =
    moves_trees kinds (suc k) depths (r (Part k)) (s (Under (Part k) (lifted n)))
moves_trees _ k depths r s = false

abbrev moves : (kinds : List PartKind) → List ℕ → Over patterns kinds → Bool
moves (part.Context ∷ kinds) depths r = moves_trees kinds 3 depths (r G) (r H)
moves _ depths r = false

abbrev pub is_stable : RuleName → List ℕ → Bool
is_stable name depths = moves (kinds_of name) depths (rule patterns name)

trees-move : (kinds : List PartKind) (k : ℕ) (depths : List ℕ) (r s : Over patterns kinds) → moves_trees kinds k depths r s ≡ true → MovesTrees kinds k depths r s
trees-move [] k [] r s h = λ v. same_rule-sound v (moved r) s h
trees-move (part.Term ∷ kinds) k (n ∷ depths) r s h =
    trees-move kinds (suc k) depths (r (Part k)) (s (Under (Part k) (lifted n))) h
trees-move _ k depths r s h = absurd (cc h)

it-moves : (kinds : List PartKind) (depths : List ℕ) (r : Over patterns kinds) → moves kinds depths r ≡ true → Moves kinds depths r
it-moves (part.Context ∷ kinds) depths r h = trees-move kinds 3 depths (r G) (r H) h
it-moves _ depths r h = absurd (cc h)

pub stable : (name : RuleName) (depths : List ℕ) → is_stable name depths ≡ true → IsStable name depths
stable name depths h = it-moves (kinds_of name) depths (rule patterns name) h
