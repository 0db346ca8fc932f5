-- Trees, substitutions, contexts and judgements with numbered parts that are not known.
use Rattle.std.specs.Prelude.{ℕ, List, [], ◌∷◌}
use Rattle.trees.specs.declared.op.Op.{Op}
use Rattle.trees.specs.Language.{Language, Judged, Tested, RuleOf}

mutual
  pub data Pattern : Type 0 where
    -- the tree that is part k
    Part : ℕ → Pattern
    Index : ℕ → Pattern
    Build : Op → Patterns → Pattern
    Under : Pattern → SubstPattern → Pattern

  pub data Patterns : Type 0 where
    NoPatterns : Patterns
    MorePatterns : Pattern → Patterns → Patterns

  pub data SubstPattern : Type 0 where
    -- the substitution that is part k
    SubstPart : ℕ → SubstPattern
    ShiftBy : ℕ → SubstPattern
    Pushed : SubstPattern → Pattern → SubstPattern
    Then : SubstPattern → SubstPattern → SubstPattern

-- contexts over a part, with entries in T
pub data ContextOver (T : Type 0) : Type 0 where
  -- the context that is part k
  ContextPart : ℕ → ContextOver T
  Empty : ContextOver T
  AddVar : ContextOver T → T → ContextOver T
  AddName : ContextOver T → ContextOver T
  AddFace : ContextOver T → T → ContextOver T

abbrev pub ContextPattern : Type 0
ContextPattern = ContextOver Pattern

abbrev pub JudgementPattern : Type 0
JudgementPattern = Judged ContextPattern Pattern SubstPattern

abbrev pub ConditionPattern : Type 0
ConditionPattern = Tested ContextPattern Pattern SubstPattern

abbrev pub RulePattern : Type 0
RulePattern = RuleOf ContextPattern Pattern SubstPattern

abbrev pub patterns_of : List Pattern → Patterns
patterns_of [] = NoPatterns
patterns_of (p ∷ ps) = MorePatterns p (patterns_of ps)

abbrev pub patterns : Language
patterns = record {
  tree = Pattern;
  subst = SubstPattern;
  context = ContextPattern;
  var = Index;
  make = λ op ps. Build op (patterns_of ps);
  apply = Under;
  shift_by = ShiftBy;
  push = Pushed;
  then = Then;
  nil = Empty;
  with_var = AddVar;
  with_name = AddName;
  with_face = AddFace;
}
