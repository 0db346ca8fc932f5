-- What stands behind a pattern stands, at all values of its parts, behind its value.
use Rattle.std.proofs.Common.{◌≡◌, ℕ, zero, suc, List, [], ◌∷◌, map, Bool, cond, refl, ◌∙◌, ap, ap₂, Option, Some, None}
use Rattle.std.specs.Prelude.{option_and_then, slice_get}
use Rattle.std.proofs.lemmas.Option.{cond_some}
use Rattle.trees.specs.declared.op.Op.{Op}
use Rattle.trees.specs.Language.{Ctx, Ty, TyEq, Tm, TmEq, Sb}
use Rattle.trees.specs.Trees.{Tree, trees_of}
use Rattle.trees.specs.Judgements.{trees, Judgement}
use Rattle.trees.specs.Things.{both, consed}
use Rattle.patterns.specs.Patterns.{Pattern, Patterns, Part, Index, Build, Under, NoPatterns, MorePatterns, ContextPattern, ContextPart, Empty, AddVar, AddName, AddFace, patterns, JudgementPattern}
use Rattle.patterns.specs.Values.{Parts, tree_of, kid_trees_of, context_of, judgement_of}
use Rattle.presuppositions.specs.declared.source.Label.{Label}
use Rattle.presuppositions.specs.declared.source.Label.TheVariants as label
use Rattle.presuppositions.specs.declared.source.Source.{Source}
use Rattle.presuppositions.specs.declared.source.Source.TheVariants as source
use Rattle.presuppositions.specs.Behind.{is_binder, is_path, over_two, over_three, listed, patterns_listed, kids_where, kid_patterns_where, pattern_views, tree_views, behind, behind_pattern, behind_type}
use Rattle.presuppositions.specs.Sources.{source_of, sources, source_patterns}

module _ (v : Parts trees) where
  listed-values : (ps : Patterns) → listed (trees_of (kid_trees_of trees v ps)) ≡ map (tree_of trees v) (patterns_listed ps)
  listed-values NoPatterns = refl
  listed-values (MorePatterns p ps) = ap (λ ts. tree_of trees v p ∷ ts) (listed-values ps)

  kids-of-value : (is : Op → Bool) (p : Pattern) (ps : List Pattern) → kid_patterns_where is p ≡ Some ps → kids_where is (tree_of trees v p) ≡ Some (map (tree_of trees v) ps)
  kids-of-value is (Part k) ps e = absurd (cc e)
  kids-of-value is (Index k) ps e = absurd (cc e)
  kids-of-value is (Under p d) ps e = absurd (cc e)
  kids-of-value is (Build o ks) ps e =
      let c = cond_some (is o) (patterns_listed ks) ps e in
      ap (λ b. cond b (Some (listed (trees_of (kid_trees_of trees v ks)))) None) c.0
      ∙ ap Some (listed-values ks ∙ ap (map (tree_of trees v)) c.1)

  two-values : (f : Pattern → Pattern → JudgementPattern) (g : Tree → Tree → Judgement) → ((p q : Pattern) → g (tree_of trees v p) (tree_of trees v q) ≡ judgement_of v (f p q)) → (ps : List Pattern) (K : JudgementPattern) → over_two f ps ≡ Some K → over_two g (map (tree_of trees v) ps) ≡ Some (judgement_of v K)
  two-values f g same (p ∷ q ∷ []) K e =
      let is : f p q ≡ K = cc in
      ap Some (same p q ∙ ap (judgement_of v) is)
  two-values f g same _ K e = absurd (cc e)

  three-values : (f : Pattern → Pattern → Pattern → JudgementPattern) (g : Tree → Tree → Tree → Judgement) → ((p q r : Pattern) → g (tree_of trees v p) (tree_of trees v q) (tree_of trees v r) ≡ judgement_of v (f p q r)) → (ps : List Pattern) (K : JudgementPattern) → over_three f ps ≡ Some K → over_three g (map (tree_of trees v) ps) ≡ Some (judgement_of v K)
  three-values f g same (p ∷ q ∷ r ∷ []) K e =
      let is : f p q r ≡ K = cc in
      ap Some (same p q r ∙ ap (judgement_of v) is)
  three-values f g same _ K e = absurd (cc e)

  -- what is done with the kids of a pattern is done with those of its value
  with-kids : (is : Op → Bool) (p : Pattern) (f : List Pattern → Option JudgementPattern) (g : List Tree → Option Judgement) → ((ps : List Pattern) (K : JudgementPattern) → f ps ≡ Some K → g (map (tree_of trees v) ps) ≡ Some (judgement_of v K)) → (K : JudgementPattern) (o : Option (List Pattern)) → kid_patterns_where is p ≡ o → option_and_then f o ≡ Some K → option_and_then g (kids_where is (tree_of trees v p)) ≡ Some (judgement_of v K)
  with-kids is p f g same K None o_is e = absurd (cc e)
  with-kids is p f g same K (Some ps) o_is e =
      ap (option_and_then g) (kids-of-value is p ps o_is) ∙ same ps K e

  same-value : (J K : JudgementPattern) → Some J ≡ Some K → Some (judgement_of v J) ≡ Some (judgement_of v K)
  same-value J K e = let is : J ≡ K = cc in ap (λ z. Some (judgement_of v z)) is

  before-values : (G : ContextPattern) (K : JudgementPattern) → behind_pattern label.Context (Ctx G) ≡ Some K → behind label.Context (judgement_of v (Ctx G)) ≡ Some (judgement_of v K)
  before-values (ContextPart k) K e = absurd (cc e)
  before-values Empty K e = absurd (cc e)
  before-values (AddVar G A) K e = same-value (Ctx G) K e
  before-values (AddName G) K e = same-value (Ctx G) K e
  before-values (AddFace G p) K e = same-value (Ctx G) K e

  last-values : (G : ContextPattern) (K : JudgementPattern) → behind_pattern label.Type (Ctx G) ≡ Some K → behind label.Type (judgement_of v (Ctx G)) ≡ Some (judgement_of v K)
  last-values (ContextPart k) K e = absurd (cc e)
  last-values Empty K e = absurd (cc e)
  last-values (AddVar G A) K e = same-value (Ty G A) K e
  last-values (AddName G) K e = absurd (cc e)
  last-values (AddFace G p) K e = absurd (cc e)

  type-values : (l : Label) (G : ContextPattern) (T : Pattern) (K : JudgementPattern) → behind_type patterns pattern_views l G T ≡ Some K → behind_type trees tree_views l (context_of trees v G) (tree_of trees v T) ≡ Some (judgement_of v K)
  type-values label.Context G T K e = same-value (Ctx G) K e
  type-values label.Domain G T K e = with-kids is_binder T _ _ (two-values _ _ (λ p q. refl)) K _ refl e
  type-values label.Codomain G T K e = with-kids is_binder T _ _ (two-values _ _ (λ p q. refl)) K _ refl e
  type-values label.Line G T K e = with-kids is_path T _ _ (three-values _ _ (λ p q r. refl)) K _ refl e
  type-values label.LeftEnd G T K e = with-kids is_path T _ _ (three-values _ _ (λ p q r. refl)) K _ refl e
  type-values label.RightEnd G T K e = with-kids is_path T _ _ (three-values _ _ (λ p q r. refl)) K _ refl e
  type-values _ G T K e = absurd (cc e)

  pub behind-values : (l : Label) (J K : JudgementPattern) → behind_pattern l J ≡ Some K → behind l (judgement_of v J) ≡ Some (judgement_of v K)
  behind-values label.Context (Ctx G) K e = before-values G K e
  behind-values label.Type (Ctx G) K e = last-values G K e
  behind-values l (Ty G T) K e = type-values l G T K e
  behind-values label.Context (TyEq G A B) K e = same-value (Ctx G) K e
  behind-values label.Left (TyEq G A B) K e = same-value (Ty G A) K e
  behind-values label.Right (TyEq G A B) K e = same-value (Ty G B) K e
  behind-values label.Context (Tm G a A) K e = same-value (Ctx G) K e
  behind-values label.Type (Tm G a A) K e = same-value (Ty G A) K e
  behind-values label.Context (TmEq G a b A) K e = same-value (Ctx G) K e
  behind-values label.Type (TmEq G a b A) K e = same-value (Ty G A) K e
  behind-values label.Left (TmEq G a b A) K e = same-value (Tm G a A) K e
  behind-values label.Right (TmEq G a b A) K e = same-value (Tm G b A) K e
  behind-values label.From (Sb H d G) K e = same-value (Ctx H) K e
  behind-values label.To (Sb H d G) K e = same-value (Ctx G) K e
  behind-values _ _ K e = absurd (cc e)

  -- sources

  premise-value : (wants : List JudgementPattern) (k : ℕ) (J : JudgementPattern) → slice_get wants k ≡ Some J → slice_get (map (judgement_of v) wants) k ≡ Some (judgement_of v J)
  premise-value [] k J e = absurd (cc e)
  premise-value (W ∷ wants) zero J e = same-value W J e
  premise-value (W ∷ wants) (suc k) J e = premise-value wants k J e

  behind-value : (l : Label) (o : Option JudgementPattern) (p : Option Judgement) → ((J : JudgementPattern) → o ≡ Some J → p ≡ Some (judgement_of v J)) → (K : JudgementPattern) → option_and_then (behind_pattern l) o ≡ Some K → option_and_then (behind l) p ≡ Some (judgement_of v K)
  behind-value l None p same K e = absurd (cc e)
  behind-value l (Some J) p same K e =
      ap (option_and_then (behind l)) (same J refl) ∙ behind-values l J K e

  source-value : (wants : List JudgementPattern) (s : Source) (K : JudgementPattern) → source_of patterns pattern_views wants s ≡ Some K → source_of trees tree_views (map (judgement_of v) wants) s ≡ Some (judgement_of v K)
  source-value wants (source.Premise k) K e = premise-value wants k K e
  source-value wants (source.Behind k l) K e =
      behind-value l (slice_get wants k) (slice_get (map (judgement_of v) wants) k) (premise-value wants k) K e
  source-value wants (source.Further k l m) K e =
      behind-value m (option_and_then (behind_pattern l) (slice_get wants k)) (option_and_then (behind l) (slice_get (map (judgement_of v) wants) k))
      (behind-value l (slice_get wants k) (slice_get (map (judgement_of v) wants) k) (premise-value wants k)) K e

  consed-values : (o : Option JudgementPattern) (p : Option (List JudgementPattern)) (o' : Option Judgement) (p' : Option (List Judgement)) → ((J : JudgementPattern) → o ≡ Some J → o' ≡ Some (judgement_of v J)) → ((Js : List JudgementPattern) → p ≡ Some Js → p' ≡ Some (map (judgement_of v) Js)) → (Ks : List JudgementPattern) → both consed o p ≡ Some Ks → both consed o' p' ≡ Some (map (judgement_of v) Ks)
  consed-values None p o' p' one more Ks e = absurd (cc e)
  consed-values (Some J) None o' p' one more Ks e = absurd (cc e)
  consed-values (Some J) (Some Js) o' p' one more Ks e =
      let is : J ∷ Js ≡ Ks = cc in
      ap₂ (both consed) (one J refl) (more Js refl) ∙ ap (λ z. Some (map (judgement_of v) z)) is

  pub source-values : (wants Js : List JudgementPattern) (ss : List Source) → source_patterns wants ss ≡ Some Js → sources (map (judgement_of v) wants) ss ≡ Some (map (judgement_of v) Js)
  source-values wants Js [] e =
      let is : [] ≡ Js = cc in
      ap (λ z. Some (map (judgement_of v) z)) is
  source-values wants Js (s ∷ ss) e =
      consed-values (source_of patterns pattern_views wants s) (source_patterns wants ss) (source_of trees tree_views (map (judgement_of v) wants) s) (sources (map (judgement_of v) wants) ss)
      (source-value wants s) (λ Ks is. source-values wants Ks ss is) Js e
