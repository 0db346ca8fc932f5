-- What recipes and rules state of parts that are not known.
use Rattle.std.specs.Prelude.{ℕ, suc, List, [], ◌∷◌}
use Rattle.trees.specs.declared.kind.PartKind.{PartKind}
use Rattle.trees.specs.declared.kind.PartKind.TheVariants as part
use Rattle.trees.specs.Language.{Language, JudgementOf, Tested}
use Rattle.theory.specs.declared.rule.RuleName.{RuleName}
use Rattle.theory.specs.RuleNames.{kinds_of}
use Rattle.patterns.specs.Patterns.{patterns, Part, SubstPart, ContextPart, JudgementPattern}
use Rattle.patterns.specs.Patterns.{ConditionPattern, RulePattern}
use Rattle.rules.specs.Table.{Over, rule}

module _ (L : Language) where
  -- what is wanted of premises and of side conditions, and what follows of them
  pub record Claimed : Type 0 where
    pub wants : List (JudgementOf L)
    pub sides : List (Tested L.context L.tree L.subst)
    pub gives : List (JudgementOf L)

  -- the same over parts of these kinds
  abbrev pub Stated : List PartKind → Type 0
  Stated [] = Claimed
  Stated (part.Context ∷ kinds) = L.context → Stated kinds
  Stated (part.Subst ∷ kinds) = L.subst → Stated kinds
  Stated (part.Term ∷ kinds) = L.tree → Stated kinds

-- a statement over parts of these kinds, numbered from 0
pub record Statement : Type 0 where
  pub kinds : List PartKind
  pub wants : List JudgementPattern
  pub sides : List ConditionPattern
  pub gives : List JudgementPattern

-- what is stated, at the parts from k on
abbrev pub claimed_from : ℕ → (kinds : List PartKind) → Stated patterns kinds → Claimed patterns
claimed_from k [] s = s
claimed_from k (part.Context ∷ kinds) s = claimed_from (suc k) kinds (s (ContextPart k))
claimed_from k (part.Subst ∷ kinds) s = claimed_from (suc k) kinds (s (SubstPart k))
claimed_from k (part.Term ∷ kinds) s = claimed_from (suc k) kinds (s (Part k))

abbrev pub over_parts : List PartKind → Claimed patterns → Statement
over_parts kinds c =
    record { kinds = kinds; wants = c.wants; sides = c.sides; gives = c.gives }

-- what is stated in every language, as a statement
abbrev pub stated : (kinds : List PartKind) → Stated patterns kinds → Statement
stated kinds s = over_parts kinds (claimed_from 0 kinds s)

-- a rule at the parts from k on
abbrev pub rule_from : ℕ → (kinds : List PartKind) → Over patterns kinds → RulePattern
rule_from k [] r = r
rule_from k (part.Context ∷ kinds) r = rule_from (suc k) kinds (r (ContextPart k))
rule_from k (part.Subst ∷ kinds) r = rule_from (suc k) kinds (r (SubstPart k))
rule_from k (part.Term ∷ kinds) r = rule_from (suc k) kinds (r (Part k))

-- a rule of the table over parts that are numbered
abbrev pub pattern_of : RuleName → RulePattern
pattern_of name = rule_from 0 (kinds_of name) (rule patterns name)

-- the statement that a rule is
abbrev pub rule_statement : RuleName → Statement
rule_statement name =
    let r = pattern_of name in
    record { kinds = kinds_of name; wants = r.wants; sides = r.sides; gives = r.gives ∷ [] }
