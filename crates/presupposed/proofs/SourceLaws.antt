-- What the sources of an entry name, one after another.
use Rattle.std.proofs.Common.{◌≡◌, ◌≤◌, ◌&&◌, ℕ, zero, suc, true, List, [], ◌∷◌, ◌++◌, length, map, take, refl, sym, ◌∙◌, ap, ap₂, subst, Some}
use Rattle.std.specs.Prelude.{slice_get, option_and_then}
use Rattle.std.specs.List.{list_all}
use Rattle.std.proofs.lemmas.Bool.{and_parts}
use Rattle.std.proofs.lemmas.List.{take_all}
use Rattle.trees.specs.Judgements.{Judgement, trees}
use Rattle.trees.specs.Language.{Ctx, Ty, TyEq, Tm, TmEq, Sb}
use Rattle.trees.specs.Things.{both, consed}
use Rattle.rows.proofs.OptionLaws.{both-some, one-some}
use Rattle.patterns.specs.Patterns.{patterns, ContextPart, Empty, AddVar, AddName, AddFace, JudgementPattern}
use Rattle.patterns.specs.Values.{Parts, judgement_of}
use Rattle.presuppositions.specs.declared.source.Label.{Label}
use Rattle.presuppositions.specs.declared.source.Label.TheVariants as label
use Rattle.presuppositions.specs.declared.source.Source.{Source}
use Rattle.presuppositions.specs.declared.source.Source.TheVariants as source
use Rattle.presuppositions.specs.Behind.{behind, behind_pattern, tree_views, pattern_views}
use Rattle.presuppositions.specs.Sources.{source_of, sources, source_patterns}
use Rattle.presuppositions.specs.Sought.{is_none, is_sought, has_no_type}
use Rattle.presuppositions.proofs.BehindLaws.{source-values}

-- the next source, and the first ones with it
pub record NextSource (wants : List Judgement) (ss : List Source) (i : ℕ) (s : Source) (named : List Judgement) : Type 0 where
  pub judgement : Judgement
  pub is : source_of trees tree_views wants s ≡ Some judgement
  pub more : sources wants (take (suc i) ss) ≡ Some (named ++ judgement ∷ [])

pub next_source : (wants : List Judgement) (ss : List Source) (all named : List Judgement) (i : ℕ) (s : Source) → sources wants ss ≡ Some all → slice_get ss i ≡ Some s → sources wants (take i ss) ≡ Some named → NextSource wants ss i s named
next_source wants [] all named i s e at f = absurd (cc at)
next_source wants (x ∷ ss) all named zero s e at f =
    let b = both-some consed (source_of trees tree_views wants x) (sources wants ss) all e in
    let same : x ≡ s = cc in
    let none : [] ≡ named = cc in
    record {
      judgement = b.first;
      is = subst (λ y. source_of trees tree_views wants y ≡ Some b.first) same b.first_is;
      more = ap (λ o. both consed o (Some [])) b.first_is ∙ ap (λ ns. Some (ns ++ b.first ∷ [])) none;
    }
next_source wants (x ∷ ss) all named (suc i) s e at f =
    let b = both-some consed (source_of trees tree_views wants x) (sources wants ss) all e in
    let c = both-some consed (source_of trees tree_views wants x) (sources wants (take i ss)) named f in
    let n = next_source wants ss b.second c.second i s b.second_is at c.second_is in
    let whole : Some (c.first ∷ c.second) ≡ Some named = c.whole in
    let same : c.first ∷ c.second ≡ named = cc in
    record {
      judgement = n.judgement;
      is = n.is;
      more = ap₂ (both consed) c.first_is n.more ∙ ap (λ ns. Some (ns ++ n.judgement ∷ [])) same;
    }

-- the first sources are all, where there are as many
pub all_sources : (wants : List Judgement) (ss : List Source) (all named : List Judgement) (i : ℕ) → length ss ≤ i → sources wants ss ≡ Some all → sources wants (take i ss) ≡ Some named → named ≡ all
all_sources wants ss all named i enough e f =
    let g : Some named ≡ Some all = sym f ∙ ap (sources wants) (take_all i ss enough) ∙ e in
    cc

pub sought_at : (wants : List Judgement) (l : Label) (ss : List Source) (i : ℕ) (s : Source) → list_all (is_sought trees tree_views wants l) ss ≡ true → slice_get ss i ≡ Some s → is_sought trees tree_views wants l s ≡ true
sought_at wants l [] i s h at = absurd (cc at)
sought_at wants l (x ∷ ss) zero s h at =
    let same : x ≡ s = cc in
    subst (λ y. is_sought trees tree_views wants l y ≡ true) same (and_parts (is_sought trees tree_views wants l x) _ h).0
sought_at wants l (x ∷ ss) (suc i) s h at = sought_at wants l ss i s (and_parts (is_sought trees tree_views wants l x) _ h).1 at

-- sources that can be had of patterns can be had of their values

no_type : (v : Parts trees) (X K : JudgementPattern) → behind_pattern label.Context X ≡ Some K → is_none (behind_pattern label.Type X) ≡ true → is_none (behind label.Type (judgement_of v X)) ≡ true
no_type v (Ctx (ContextPart k)) K e h = absurd (cc e)
no_type v (Ctx Empty) K e h = absurd (cc e)
no_type v (Ctx (AddVar G A)) K e h = absurd (cc h)
no_type v (Ctx (AddName G)) K e h = refl
no_type v (Ctx (AddFace G p)) K e h = refl
no_type v (Ty G T) K e h = refl
no_type v (TyEq G A B) K e h = refl
no_type v (Tm G t A) K e h = absurd (cc h)
no_type v (TmEq G t u A) K e h = absurd (cc h)
no_type v (Sb H d G) K e h = refl

one_value : (v : Parts trees) (wants : List JudgementPattern) (s : Source) (K : JudgementPattern) → source_of patterns pattern_views wants s ≡ Some K → source_of trees tree_views (map (judgement_of v) wants) s ≡ Some (judgement_of v K)
one_value v wants s K e =
    let all = source-values v wants (K ∷ []) (s ∷ []) (ap (λ o. both consed o (Some [])) e) in
    let b = both-some consed (source_of trees tree_views (map (judgement_of v) wants) s) (Some []) (judgement_of v K ∷ []) all in
    let whole : Some (b.first ∷ b.second) ≡ Some (judgement_of v K ∷ []) = b.whole in
    let same : b.first ≡ judgement_of v K = cc in
    b.first_is ∙ ap Some same

sought_value : (v : Parts trees) (wants : List JudgementPattern) (l : Label) (s : Source) (K : JudgementPattern) → source_of patterns pattern_views wants s ≡ Some K → is_sought patterns pattern_views wants l s ≡ true → is_sought trees tree_views (map (judgement_of v) wants) l s ≡ true
sought_value v wants l (source.Premise k) K e h = refl
sought_value v wants l (source.Behind k m) K e h = h
sought_value v wants l (source.Further k label.Context label.Type) K e h = refl
sought_value v wants l (source.Further k label.Context label.Context) K e h =
    let o = one-some (behind_pattern label.Context) (option_and_then (behind_pattern label.Context) (slice_get wants k)) K e in
    let value = one_value v wants (source.Behind k label.Context) o.first o.first_is in
    let h' = subst (λ x. has_no_type patterns pattern_views x ≡ true) o.first_is h in
    subst (λ x. has_no_type trees tree_views x ≡ true) (sym value) (no_type v o.first K o.whole h')
sought_value v wants l (source.Further k label.Context _) K e h = h
sought_value v wants l (source.Further k label.Type m) K e h = h
sought_value v wants l (source.Further k _ m) K e h = h

pub sought_values : (v : Parts trees) (wants Js : List JudgementPattern) (l : Label) (ss : List Source) → source_patterns wants ss ≡ Some Js → list_all (is_sought patterns pattern_views wants l) ss ≡ true → list_all (is_sought trees tree_views (map (judgement_of v) wants) l) ss ≡ true
sought_values v wants Js l [] e h = refl
sought_values v wants Js l (s ∷ ss) e h =
    let b = both-some consed (source_of patterns pattern_views wants s) (source_patterns wants ss) Js e in
    let parts = and_parts (is_sought patterns pattern_views wants l s) _ h in
    ap₂ (λ x y. x && y) (sought_value v wants l s b.first b.first_is parts.0) (sought_values v wants b.second l ss b.second_is parts.1)
