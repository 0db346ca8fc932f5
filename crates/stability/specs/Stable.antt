-- Rules over a context and trees that are stable under substitution.
use Rattle.std.specs.Prelude.{◌≡◌, ℕ, suc, List, [], ◌∷◌}
use Rattle.trees.specs.declared.kind.PartKind.{PartKind}
use Rattle.trees.specs.declared.kind.PartKind.TheVariants as part
use Rattle.trees.specs.Judgements.{trees}
use Rattle.theory.specs.declared.rule.RuleName.{RuleName}
use Rattle.theory.specs.RuleNames.{kinds_of}
use Rattle.patterns.specs.Patterns.{Part, Under, patterns}
use Rattle.patterns.specs.Values.{Parts, rule_of}
use Rattle.rules.specs.Table.{Over, rule}
use Rattle.stability.specs.Moved.{G, H, lifted, moved}

-- Trees at the parts from k on stand under so many entries: at all of them d takes the rule r at
-- these trees to s at the trees that it takes them to.
abbrev pub MovesTrees : (kinds : List PartKind) → ℕ → List ℕ →
    Over patterns kinds → Over patterns kinds → Type 0
MovesTrees [] k [] r s = (parts : Parts trees) → rule_of parts (moved r) ≡ rule_of parts s
MovesTrees (part.Term ∷ kinds) k (n ∷ depths) r s =
    MovesTrees kinds (suc k) depths (r (Part k)) (s (Under (Part k) (lifted n)))
MovesTrees _ k depths r s = ⊥

-- d : H to G takes the rule at G to the rule at H
abbrev pub Moves : (kinds : List PartKind) → List ℕ → Over patterns kinds → Type 0
Moves (part.Context ∷ kinds) depths r = MovesTrees kinds 3 depths (r G) (r H)
Moves _ depths r = ⊥

-- Whatever substitution d : H to G there is, it takes the premises, side conditions and conclusion
-- of the rule at parts over G to those of the rule at the parts that it takes these to.
abbrev pub IsStable : RuleName → List ℕ → Type 0
IsStable name depths = Moves (kinds_of name) depths (rule patterns name)
