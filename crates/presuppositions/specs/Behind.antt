-- What stands behind a judgement, in every language whose contexts and trees can be looked at.
use Rattle.std.specs.Prelude.{List, [], ◌∷◌, Bool, true, false, cond, Option, Some, None}
use Rattle.std.specs.Prelude.{option_and_then}
use Rattle.trees.specs.declared.op.Op.{Op}
use Rattle.trees.specs.declared.op.Op.TheVariants as op
use Rattle.trees.specs.Language.{Language, JudgementOf, Ctx, Ty, TyEq, Tm, TmEq, Sb}
use Rattle.trees.specs.Trees.{Tree, Trees, Var, Make, NoTrees, More}
use Rattle.trees.specs.Judgements.{Context, Nil, WithVar, WithName, WithFace, trees, Judgement}
use Rattle.trees.specs.Things.{both}
use Rattle.patterns.specs.Patterns.{Pattern, Patterns, Part, Index, Build, Under, NoPatterns}
use Rattle.patterns.specs.Patterns.{MorePatterns, ContextPattern, ContextPart, Empty, AddVar}
use Rattle.patterns.specs.Patterns.{AddName, AddFace, patterns, JudgementPattern}
use Rattle.rules.specs.Table.{at, i0, i1}
use Rattle.presuppositions.specs.declared.source.Label.{Label}
use Rattle.presuppositions.specs.declared.source.Label.TheVariants as label

-- how the contexts and trees of a language are looked at
pub record Views (L : Language) : Type 0 where
  -- the context before the last entry
  pub before : L.context → Option L.context
  -- the type of the last entry, where that is a variable
  pub last_type : L.context → Option L.tree
  -- the kids of a tree that is such an operator over them
  pub kids : (Op → Bool) → L.tree → Option (List L.tree)

abbrev pub is_binder : Op → Bool
is_binder op.Pi = true
is_binder op.Sig = true
is_binder _ = false

abbrev pub is_path : Op → Bool
is_path op.PathP = true
is_path _ = false

abbrev pub over_two : {A B : Type 0} → (A → A → B) → List A → Option B
over_two f (a ∷ b ∷ []) = Some (f a b)
over_two f _ = None

abbrev pub over_three : {A B : Type 0} → (A → A → A → B) → List A → Option B
over_three f (a ∷ b ∷ c ∷ []) = Some (f a b c)
over_three f _ = None

module _ (L : Language) (views : Views L) where
  -- behind `G >> T`, where T is `pi A B` or `sig A B`, or `pathp A u v`
  abbrev pub behind_type : Label → L.context → L.tree → Option (JudgementOf L)
  behind_type label.Context G T = Some (Ctx G)
  behind_type label.Domain G T =
      option_and_then (over_two (λ A B. Ty G A)) (views.kids is_binder T)
  behind_type label.Codomain G T =
      option_and_then (over_two (λ A B. Ty (L.with_var G A) B)) (views.kids is_binder T)
  behind_type label.Line G T =
      option_and_then (over_three (λ A u v. Ty (L.with_name G) A)) (views.kids is_path T)
  behind_type label.LeftEnd G T =
      option_and_then (over_three (λ A u v. Tm G u (at L A (i0 L)))) (views.kids is_path T)
  behind_type label.RightEnd G T =
      option_and_then (over_three (λ A u v. Tm G v (at L A (i1 L)))) (views.kids is_path T)
  behind_type _ G T = None

  abbrev pub stands_behind : Label → JudgementOf L → Option (JudgementOf L)
  stands_behind label.Context (Ctx G) = option_and_then (λ H. Some (Ctx H)) (views.before G)
  stands_behind label.Type (Ctx G) =
      both (λ H A. Some (Ty H A)) (views.before G) (views.last_type G)
  stands_behind l (Ty G T) = behind_type l G T
  stands_behind label.Context (TyEq G A B) = Some (Ctx G)
  stands_behind label.Left (TyEq G A B) = Some (Ty G A)
  stands_behind label.Right (TyEq G A B) = Some (Ty G B)
  stands_behind label.Context (Tm G a A) = Some (Ctx G)
  stands_behind label.Type (Tm G a A) = Some (Ty G A)
  stands_behind label.Context (TmEq G a b A) = Some (Ctx G)
  stands_behind label.Type (TmEq G a b A) = Some (Ty G A)
  stands_behind label.Left (TmEq G a b A) = Some (Tm G a A)
  stands_behind label.Right (TmEq G a b A) = Some (Tm G b A)
  stands_behind label.From (Sb H d G) = Some (Ctx H)
  stands_behind label.To (Sb H d G) = Some (Ctx G)
  stands_behind _ _ = None

-- at trees

abbrev pub context_before : Context → Option Context
context_before Nil = None
context_before (WithVar G A) = Some G
context_before (WithName G) = Some G
context_before (WithFace G p) = Some G

abbrev pub last_type_of : Context → Option Tree
last_type_of (WithVar G A) = Some A
last_type_of _ = None

abbrev pub listed : Trees → List Tree
listed NoTrees = []
listed (More t ts) = t ∷ listed ts

abbrev pub kids_where : (Op → Bool) → Tree → Option (List Tree)
kids_where is (Var k) = None
kids_where is (Make o ts) = cond (is o) (Some (listed ts)) None

abbrev pub tree_views : Views trees
tree_views = record { before = context_before; last_type = last_type_of; kids = kids_where }

abbrev pub behind : Label → Judgement → Option Judgement
behind = stands_behind trees tree_views

-- at patterns: a part has no form

abbrev pub pattern_before : ContextPattern → Option ContextPattern
pattern_before (ContextPart k) = None
pattern_before Empty = None
pattern_before (AddVar G A) = Some G
pattern_before (AddName G) = Some G
pattern_before (AddFace G p) = Some G

abbrev pub last_type_pattern : ContextPattern → Option Pattern
last_type_pattern (AddVar G A) = Some A
last_type_pattern _ = None

abbrev pub patterns_listed : Patterns → List Pattern
patterns_listed NoPatterns = []
patterns_listed (MorePatterns p ps) = p ∷ patterns_listed ps

abbrev pub kid_patterns_where : (Op → Bool) → Pattern → Option (List Pattern)
kid_patterns_where is (Part k) = None
kid_patterns_where is (Index k) = None
kid_patterns_where is (Build o ps) = cond (is o) (Some (patterns_listed ps)) None
kid_patterns_where is (Under p d) = None

abbrev pub pattern_views : Views patterns
pattern_views = record {
  before = pattern_before;
  last_type = last_type_pattern;
  kids = kid_patterns_where;
}

abbrev pub behind_pattern : Label → JudgementPattern → Option JudgementPattern
behind_pattern = stands_behind patterns pattern_views
