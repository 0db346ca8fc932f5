-- Patterns whose normal forms are equal mean the same at all parts.
use Rattle.std.proofs.Common.{◌≡◌, true, List, [], ◌∷◌, map, refl, sym, ◌∙◌, ap, ap₂}
use Rattle.trees.specs.Language.{Ctx, Ty, TyEq, Tm, TmEq, Sb, IsFormula, IsFace, Holds, Alike}
use Rattle.trees.specs.Trees.{Make, More, trees_of, apply, push, then, id}
use Rattle.trees.specs.Judgements.{WithVar, WithName, WithFace, trees}
use Rattle.substitution.proofs.ThenLaws.{apply-id, then-id, id-then}
use Rattle.patterns.specs.Patterns.{Pattern, Part, Index, Build, Under, Patterns, NoPatterns, MorePatterns, SubstPattern, SubstPart, ShiftBy, Pushed, Then, ContextPattern, ContextPart, Empty, AddVar, AddName, AddFace, JudgementPattern, ConditionPattern, RulePattern}
use Rattle.patterns.specs.Values.{Parts, tree_of, kid_trees_of, subst_of, context_of, judged_of, judgement_of, tested_of, condition_of, rule_of}
use Rattle.patterns.specs.Normals.{normals, normals_of, unknown}
use Rattle.patterns.specs.Fillings.{Fits, filled, filled_kids, filled_subst, filled_context, filled_judgement, filled_condition}
use Rattle.patterns.specs.Tests.{same_tree, same_subst, same_context, same_judgement, same_judgements, same_condition, same_conditions, same_rule}
use Rattle.patterns.proofs.NormalLaws.{filled-apply_normal, filled-after}
use Rattle.patterns.proofs.SameLaws.{both, same_normal-true, same_normal_subst-true, same_normal_context-true, same_normal_judgement-true, same_normal_condition-true}

-- the normaliser keeps the meaning

module _ (v : Parts trees) (u : Parts normals) (w : Parts trees) (fits : Fits v u w) where
  mutual
    pub filled-tree_of : (p : Pattern) → filled v (tree_of normals u p) ≡ tree_of trees w p
    filled-tree_of (Part k) = fits.tree k
    filled-tree_of (Index k) = refl
    filled-tree_of (Build op ps) = ap (Make op) (filled-kid_trees_of ps)
    filled-tree_of (Under p d) =
        filled-apply_normal v (subst_of normals u d) (tree_of normals u p) ∙ ap₂ apply (filled-tree_of p) (filled-subst_of d)

    pub filled-kid_trees_of : (ps : Patterns) → filled_kids v (normals_of (kid_trees_of normals u ps)) ≡ trees_of (kid_trees_of trees w ps)
    filled-kid_trees_of NoPatterns = refl
    filled-kid_trees_of (MorePatterns p ps) = ap₂ More (filled-tree_of p) (filled-kid_trees_of ps)

    pub filled-subst_of : (d : SubstPattern) → filled_subst v (subst_of normals u d) ≡ subst_of trees w d
    filled-subst_of (SubstPart k) = fits.subst k
    filled-subst_of (ShiftBy n) = refl
    filled-subst_of (Pushed d p) = ap₂ push (filled-subst_of d) (filled-tree_of p)
    filled-subst_of (Then d e) =
        filled-after v (subst_of normals u e) (subst_of normals u d) ∙ ap₂ then (filled-subst_of d) (filled-subst_of e)

  pub filled-context_of : (G : ContextPattern) → filled_context v (context_of normals u G) ≡ context_of trees w G
  filled-context_of (ContextPart k) = fits.context k
  filled-context_of Empty = refl
  filled-context_of (AddVar G A) = ap₂ WithVar (filled-context_of G) (filled-tree_of A)
  filled-context_of (AddName G) = ap WithName (filled-context_of G)
  filled-context_of (AddFace G p) = ap₂ WithFace (filled-context_of G) (filled-tree_of p)

  pub filled-judged_of : (j : JudgementPattern) → filled_judgement v (judged_of normals u j) ≡ judgement_of w j
  filled-judged_of (Ctx G) = ap Ctx (filled-context_of G)
  filled-judged_of (Ty G A) = ap₂ Ty (filled-context_of G) (filled-tree_of A)
  filled-judged_of (TyEq G A B) = rw (filled-context_of G, filled-tree_of A, filled-tree_of B) refl
  filled-judged_of (Tm G a A) = rw (filled-context_of G, filled-tree_of a, filled-tree_of A) refl
  filled-judged_of (TmEq G a b A) = rw (filled-context_of G, filled-tree_of a, filled-tree_of b, filled-tree_of A) refl
  filled-judged_of (Sb H d G) = rw (filled-context_of H, filled-subst_of d, filled-context_of G) refl

  pub filled-tested_of : (c : ConditionPattern) → filled_condition v (tested_of normals u c) ≡ condition_of w c
  filled-tested_of (IsFormula G r) = ap₂ IsFormula (filled-context_of G) (filled-tree_of r)
  filled-tested_of (IsFace G p) = ap₂ IsFace (filled-context_of G) (filled-tree_of p)
  filled-tested_of (Holds G p) = ap₂ Holds (filled-context_of G) (filled-tree_of p)
  filled-tested_of (Alike H d e) = rw (filled-context_of H, filled-subst_of d, filled-subst_of e) refl

-- parts of which nothing is known fit every parts
pub unknown-fits : (v : Parts trees) → Fits v unknown v
unknown-fits v = record {
  tree = λ k. apply-id (v.tree k);
  subst = λ k. then-id (then id (v.subst k)) ∙ id-then (v.subst k);
  context = λ k. refl;
}

-- the tests are sound

pub same_tree-sound : (v : Parts trees) (p q : Pattern) → same_tree p q ≡ true → tree_of trees v p ≡ tree_of trees v q
same_tree-sound v p q h =
    sym (filled-tree_of v unknown v (unknown-fits v) p) ∙ ap (filled v) (same_normal-true _ _ h) ∙ filled-tree_of v unknown v (unknown-fits v) q

pub same_subst-sound : (v : Parts trees) (d e : SubstPattern) → same_subst d e ≡ true → subst_of trees v d ≡ subst_of trees v e
same_subst-sound v d e h =
    sym (filled-subst_of v unknown v (unknown-fits v) d) ∙ ap (filled_subst v) (same_normal_subst-true _ _ h) ∙ filled-subst_of v unknown v (unknown-fits v) e

pub same_context-sound : (v : Parts trees) (G H : ContextPattern) → same_context G H ≡ true → context_of trees v G ≡ context_of trees v H
same_context-sound v G H h =
    sym (filled-context_of v unknown v (unknown-fits v) G) ∙ ap (filled_context v) (same_normal_context-true _ _ h) ∙ filled-context_of v unknown v (unknown-fits v) H

pub same_judgement-sound : (v : Parts trees) (i j : JudgementPattern) → same_judgement i j ≡ true → judgement_of v i ≡ judgement_of v j
same_judgement-sound v i j h =
    sym (filled-judged_of v unknown v (unknown-fits v) i) ∙ ap (filled_judgement v) (same_normal_judgement-true _ _ h) ∙ filled-judged_of v unknown v (unknown-fits v) j

pub same_judgements-sound : (v : Parts trees) (is js : List JudgementPattern) → same_judgements is js ≡ true → map (judgement_of v) is ≡ map (judgement_of v) js
same_judgements-sound v [] [] h = refl
same_judgements-sound v (i ∷ is) (j ∷ js) h =
    let f = both (same_judgement i j) (same_judgements is js) h in
    ap₂ ◌∷◌ (same_judgement-sound v i j f.0) (same_judgements-sound v is js f.1)
same_judgements-sound v _ _ h = absurd (cc h)

pub same_condition-sound : (v : Parts trees) (c k : ConditionPattern) → same_condition c k ≡ true → condition_of v c ≡ condition_of v k
same_condition-sound v c k h =
    sym (filled-tested_of v unknown v (unknown-fits v) c) ∙ ap (filled_condition v) (same_normal_condition-true _ _ h) ∙ filled-tested_of v unknown v (unknown-fits v) k

same_conditions-sound : (v : Parts trees) (cs ks : List ConditionPattern) → same_conditions cs ks ≡ true → map (condition_of v) cs ≡ map (condition_of v) ks
same_conditions-sound v [] [] h = refl
same_conditions-sound v (c ∷ cs) (k ∷ ks) h =
    let f = both (same_condition c k) (same_conditions cs ks) h in
    ap₂ ◌∷◌ (same_condition-sound v c k f.0) (same_conditions-sound v cs ks f.1)
same_conditions-sound v _ _ h = absurd (cc h)

pub same_rule-sound : (v : Parts trees) (r s : RulePattern) → same_rule r s ≡ true → rule_of v r ≡ rule_of v s
same_rule-sound v r s h =
    let f = both (same_judgements r.wants s.wants) _ h in
    let g = both (same_conditions r.sides s.sides) _ f.1 in
    rw (same_judgements-sound v r.wants s.wants f.0, same_conditions-sound v r.sides s.sides g.0, same_judgement-sound v r.gives s.gives g.1) refl
