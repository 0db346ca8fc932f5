-- What a table of rules speaks: trees, substitutions and contexts, how they are made, and the
-- judgements over them. Trees themselves are one such language; patterns over unknown parts are
-- another.
use Rattle.std.specs.Prelude.{ℕ, List}
use Rattle.trees.specs.declared.op.Op.{Op}

pub record Language : Type 1 where
  pub tree : Type 0
  pub subst : Type 0
  pub context : Type 0
  pub var : ℕ → tree
  pub make : Op → List tree → tree
  pub apply : tree → subst → tree
  pub shift_by : ℕ → subst
  pub push : subst → tree → subst
  pub then : subst → subst → subst
  pub nil : context
  pub with_var : context → tree → context
  pub with_name : context → context
  pub with_face : context → tree → context

-- judgements over contexts C, trees T and substitutions S
pub data Judged (C T S : Type 0) : Type 0 where
  -- `ctx G`
  Ctx : C → Judged C T S
  -- `G >> A`
  Ty : C → T → Judged C T S
  -- `G >> A = B`
  TyEq : C → T → T → Judged C T S
  -- `G >> a : A`
  Tm : C → T → T → Judged C T S
  -- `G >> a = b : A`
  TmEq : C → T → T → T → Judged C T S
  -- `d : H to G`
  Sb : C → S → C → Judged C T S

-- side conditions over them
pub data Tested (C T S : Type 0) : Type 0 where
  -- r is a formula over the names of G
  IsFormula : C → T → Tested C T S
  -- p is a face over the names of G
  IsFace : C → T → Tested C T S
  -- p is true at every point at which the faces of G are
  Holds : C → T → Tested C T S
  -- d and e have one shift, and at each place trees that are equal, or formulas of one value under
  -- the faces of H
  Alike : C → S → S → Tested C T S

-- what a rule wants of its premises, its side conditions, and what it gives
pub record RuleOf (C T S : Type 0) : Type 0 where
  pub wants : List (Judged C T S)
  pub sides : List (Tested C T S)
  pub gives : Judged C T S

abbrev pub JudgementOf : Language → Type 0
JudgementOf L = Judged L.context L.tree L.subst

abbrev pub Rule : Language → Type 0
Rule L = RuleOf L.context L.tree L.subst
