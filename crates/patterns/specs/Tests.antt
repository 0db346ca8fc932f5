-- Whether two patterns mean the same whatever their parts are: whether their normal terms are
-- equal.
use Rattle.std.specs.Prelude.{List, [], ◌∷◌, Bool, true, false, ◌&&◌, ◌==◌}
use Rattle.trees.specs.Language.{Judged, Ctx, Ty, TyEq, Tm, TmEq, Sb}
use Rattle.trees.specs.Language.{Tested, IsFormula, IsFace, Holds, Alike}
use Rattle.patterns.specs.Patterns.{Pattern, SubstPattern, ContextPattern, JudgementPattern}
use Rattle.patterns.specs.Patterns.{ConditionPattern, RulePattern}
use Rattle.patterns.specs.Patterns.{ContextPart, Empty, AddVar, AddName, AddFace}
use Rattle.patterns.specs.Values.{tree_of, subst_of, context_of, judged_of, tested_of}
use Rattle.patterns.specs.Normals.{Normal, NormalSubst, NormalContext, normals}
use Rattle.patterns.specs.Normals.{unknown, same_normal, same_normal_subst}

abbrev pub NormalJudgement : Type 0
NormalJudgement = Judged NormalContext Normal NormalSubst

abbrev pub same_normal_context : NormalContext → NormalContext → Bool
same_normal_context (ContextPart k) (ContextPart l) = k == l
same_normal_context Empty Empty = true
same_normal_context (AddVar G A) (AddVar H B) = same_normal A B && same_normal_context G H
same_normal_context (AddName G) (AddName H) = same_normal_context G H
same_normal_context (AddFace G p) (AddFace H q) = same_normal p q && same_normal_context G H
same_normal_context _ _ = false

abbrev pub same_normal_judgement : NormalJudgement → NormalJudgement → Bool
same_normal_judgement (Ctx G) (Ctx H) = same_normal_context G H
same_normal_judgement (Ty G A) (Ty H B) = same_normal_context G H && same_normal A B
same_normal_judgement (TyEq G A X) (TyEq H B Y) =
    same_normal_context G H && (same_normal A B && same_normal X Y)
same_normal_judgement (Tm G a A) (Tm H b B) =
    same_normal_context G H && (same_normal a b && same_normal A B)
same_normal_judgement (TmEq G a x A) (TmEq H b y B) =
    same_normal_context G H && (same_normal a b && (same_normal x y && same_normal A B))
same_normal_judgement (Sb G d X) (Sb H e Y) =
    same_normal_context G H && (same_normal_subst d e && same_normal_context X Y)
same_normal_judgement _ _ = false

abbrev pub NormalCondition : Type 0
NormalCondition = Tested NormalContext Normal NormalSubst

abbrev pub same_normal_condition : NormalCondition → NormalCondition → Bool
same_normal_condition (IsFormula G r) (IsFormula H s) = same_normal_context G H && same_normal r s
same_normal_condition (IsFace G p) (IsFace H q) = same_normal_context G H && same_normal p q
same_normal_condition (Holds G p) (Holds H q) = same_normal_context G H && same_normal p q
same_normal_condition (Alike G d e) (Alike H f g) =
    same_normal_context G H && (same_normal_subst d f && same_normal_subst e g)
same_normal_condition _ _ = false

abbrev pub same_tree : Pattern → Pattern → Bool
same_tree p q = same_normal (tree_of normals unknown p) (tree_of normals unknown q)

-- one list and one shift
abbrev pub same_subst : SubstPattern → SubstPattern → Bool
same_subst d e = same_normal_subst (subst_of normals unknown d) (subst_of normals unknown e)

abbrev pub same_context : ContextPattern → ContextPattern → Bool
same_context G H = same_normal_context (context_of normals unknown G) (context_of normals unknown H)

abbrev pub same_judgement : JudgementPattern → JudgementPattern → Bool
same_judgement i j =
    same_normal_judgement (judged_of normals unknown i) (judged_of normals unknown j)

abbrev pub same_judgements : List JudgementPattern → List JudgementPattern → Bool
same_judgements [] [] = true
same_judgements (i ∷ is) (j ∷ js) = same_judgement i j && same_judgements is js
same_judgements _ _ = false

abbrev pub same_condition : ConditionPattern → ConditionPattern → Bool
same_condition c k =
    same_normal_condition (tested_of normals unknown c) (tested_of normals unknown k)

abbrev pub same_conditions : List ConditionPattern → List ConditionPattern → Bool
same_conditions [] [] = true
same_conditions (c ∷ cs) (k ∷ ks) = same_condition c k && same_conditions cs ks
same_conditions _ _ = false

-- two rules with the same premises, side conditions and conclusion
abbrev pub same_rule : RulePattern → RulePattern → Bool
same_rule r s =
    same_judgements r.wants s.wants
    && (same_conditions r.sides s.sides && same_judgement r.gives s.gives)
