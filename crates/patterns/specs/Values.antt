-- What a pattern means at given parts, in any language.
use Rattle.std.specs.Prelude.{ℕ, zero, suc, List, [], ◌∷◌, map}
use Rattle.trees.specs.Language.{Language, Tested, Ctx, Ty, TyEq, Tm, TmEq, Sb, IsFormula}
use Rattle.trees.specs.Language.{IsFace, Holds, Alike, JudgementOf}
use Rattle.trees.specs.Trees.{Tree, Subst, Var, id}
use Rattle.trees.specs.Judgements.{Context, Nil, trees, Judgement, SideCondition}
use Rattle.trees.specs.Judgements.{TreeRule}
use Rattle.trees.specs.Things.{Thing, ATree, ASubst, AContext}
use Rattle.patterns.specs.Patterns.{Pattern, Part, Index, Build, Under, Patterns, NoPatterns}
use Rattle.patterns.specs.Patterns.{MorePatterns, SubstPattern, SubstPart, ShiftBy, Pushed, Then}
use Rattle.patterns.specs.Patterns.{ContextPattern, ContextPart, Empty, AddVar, AddName, AddFace}
use Rattle.patterns.specs.Patterns.{JudgementPattern, ConditionPattern, RulePattern}

module _ (L : Language) where
  -- what stands for each number: a tree, a substitution and a context
  pub record Parts : Type 0 where
    pub tree : ℕ → L.tree
    pub subst : ℕ → L.subst
    pub context : ℕ → L.context

  abbrev mutual
    pub tree_of : Parts → Pattern → L.tree
    tree_of v (Part k) = v.tree k
    tree_of v (Index k) = L.var k
    tree_of v (Build op ps) = L.make op (kid_trees_of v ps)
    tree_of v (Under p d) = L.apply (tree_of v p) (subst_of v d)

    pub kid_trees_of : Parts → Patterns → List L.tree
    kid_trees_of v NoPatterns = []
    kid_trees_of v (MorePatterns p ps) = tree_of v p ∷ kid_trees_of v ps

    pub subst_of : Parts → SubstPattern → L.subst
    subst_of v (SubstPart k) = v.subst k
    subst_of v (ShiftBy n) = L.shift_by n
    subst_of v (Pushed d p) = L.push (subst_of v d) (tree_of v p)
    subst_of v (Then d e) = L.then (subst_of v d) (subst_of v e)

  abbrev pub context_of : Parts → ContextPattern → L.context
  context_of v (ContextPart k) = v.context k
  context_of v Empty = L.nil
  context_of v (AddVar G A) = L.with_var (context_of v G) (tree_of v A)
  context_of v (AddName G) = L.with_name (context_of v G)
  context_of v (AddFace G p) = L.with_face (context_of v G) (tree_of v p)

  abbrev pub judged_of : Parts → JudgementPattern → JudgementOf L
  judged_of v (Ctx G) = Ctx (context_of v G)
  judged_of v (Ty G A) = Ty (context_of v G) (tree_of v A)
  judged_of v (TyEq G A B) = TyEq (context_of v G) (tree_of v A) (tree_of v B)
  judged_of v (Tm G a A) = Tm (context_of v G) (tree_of v a) (tree_of v A)
  judged_of v (TmEq G a b A) = TmEq (context_of v G) (tree_of v a) (tree_of v b) (tree_of v A)
  judged_of v (Sb H d G) = Sb (context_of v H) (subst_of v d) (context_of v G)

  abbrev pub tested_of : Parts → ConditionPattern → Tested L.context L.tree L.subst
  tested_of v (IsFormula G r) = IsFormula (context_of v G) (tree_of v r)
  tested_of v (IsFace G p) = IsFace (context_of v G) (tree_of v p)
  tested_of v (Holds G p) = Holds (context_of v G) (tree_of v p)
  tested_of v (Alike H d e) = Alike (context_of v H) (subst_of v d) (subst_of v e)

-- these things as parts, by their places

abbrev pub tree_at : List Thing → ℕ → Tree
tree_at (ATree t ∷ xs) zero = t
tree_at (x ∷ xs) (suc k) = tree_at xs k
tree_at _ _ = Var 0

abbrev pub subst_at : List Thing → ℕ → Subst
subst_at (ASubst d ∷ xs) zero = d
subst_at (x ∷ xs) (suc k) = subst_at xs k
subst_at _ _ = id

abbrev pub context_at : List Thing → ℕ → Context
context_at (AContext G ∷ xs) zero = G
context_at (x ∷ xs) (suc k) = context_at xs k
context_at _ _ = Nil

abbrev pub parts_of : List Thing → Parts trees
parts_of xs = record { tree = tree_at xs; subst = subst_at xs; context = context_at xs }

abbrev pub judgement_of : Parts trees → JudgementPattern → Judgement
judgement_of v j = judged_of trees v j

abbrev pub condition_of : Parts trees → ConditionPattern → SideCondition
condition_of v c = tested_of trees v c

abbrev pub rule_of : Parts trees → RulePattern → TreeRule
rule_of v r = record {
  wants = map (judgement_of v) r.wants;
  sides = map (condition_of v) r.sides;
  gives = judgement_of v r.gives;
}
