-- What may be unfolded, and what its unfolding concludes.
use Rattle.std.proofs.Common.{◌≡◌, ◌≤◌, ℕ, suc, List, [], ◌∷◌, ◌++◌, map, length, refl, sym, ◌∙◌, ap, ap₂, subst, arith, Option, Some, IsSome}
use Rattle.std.specs.List.{All}
use Rattle.std.specs.Prelude.{slice_index}
use Rattle.std.proofs.lemmas.List.{map-append, length-map}
use Rattle.std.proofs.lemmas.List.Elements.{All-nil, All-cons}
use Rattle.trees.specs.declared.kind.PartKind.{PartKind}
use Rattle.trees.specs.declared.kind.PartKind.TheVariants as part
use Rattle.trees.specs.Language.{Ctx, Ty, TyEq, Tm, TmEq, Sb}
use Rattle.trees.specs.Judgements.{Judgement, TreeRule, trees}
use Rattle.trees.specs.Things.{Thing, ATree, ASubst, AContext, kind_of, both, consed, meanings}
use Rattle.trees.proofs.Meanings.{meanings-cons, meanings-kept}
use Rattle.theory.specs.declared.rule.RuleName.{RuleName}
use Rattle.theory.specs.RuleNames.{kinds_of}
use Rattle.conditions.specs.Sides.{SideHolds}
use Rattle.rules.specs.Rules.{rule_at}
use Rattle.rules.specs.Instances.{IsInstance}
use Rattle.rules.proofs.TableLaws.{rule_kinds}
use Rattle.patterns.specs.Patterns.{JudgementPattern}
use Rattle.patterns.specs.Values.{Parts, parts_of, judgement_of, rule_of}
use Rattle.recipes.specs.declared.row.Row.{Row}
use Rattle.recipes.specs.Made.{ShiftIsAtMost, greatest_part_shift}
use Rattle.recipes.specs.Statements.{Statement, pattern_of}
use Rattle.recipes.specs.Derivations.{premises_at, conclusions_at}
use Rattle.recipes.proofs.Ties.{rule-pattern}
use Rattle.recipe_runner.specs.Running.{MayRun}
use Rattle.book.specs.Contents.{Contents}
use Rattle.book.specs.Shown.{book_means, book_concludes, Extends}
use Rattle.book.specs.declared.few.RuleUse.{RuleUse}
use Rattle.book.specs.declared.kernel.NodeId.{NodeId}
use Rattle.kan_calls.specs.Calls.{MayCall, IsRecipe}
use Rattle.kan_calls.specs.Unfoldings.{HasNoSubst, IsUseIn, context_of, right_side_of, unfold_statement}
use Rattle.kan_calls.proofs.CallLaws.{call-premises, may-run-call}

-- a use of a rule is one of what its unfolding states

small : (most : ℕ) (kinds : List PartKind) (xs : List Thing) → HasNoSubst kinds → map kind_of xs ≡ kinds → All (ShiftIsAtMost most) xs
small most [] [] plain e = All-nil (ShiftIsAtMost most)
small most [] (x ∷ xs) plain e = absurd (cc e)
small most (part.Context ∷ kinds) [] plain e = absurd (cc e)
small most (part.Context ∷ kinds) (AContext G ∷ xs) plain e = All-cons (ShiftIsAtMost most) (AContext G) xs tt (small most kinds xs plain (cc))
small most (part.Context ∷ kinds) (ATree t ∷ xs) plain e = absurd (cc e)
small most (part.Context ∷ kinds) (ASubst d ∷ xs) plain e = absurd (cc e)
small most (part.Term ∷ kinds) [] plain e = absurd (cc e)
small most (part.Term ∷ kinds) (ATree t ∷ xs) plain e = All-cons (ShiftIsAtMost most) (ATree t) xs tt (small most kinds xs plain (cc))
small most (part.Term ∷ kinds) (AContext G ∷ xs) plain e = absurd (cc e)
small most (part.Term ∷ kinds) (ASubst d ∷ xs) plain e = absurd (cc e)
small most (part.Subst ∷ kinds) xs plain e = absurd plain

context-filled : (v : Parts trees) (j : JudgementPattern) → map (judgement_of v) (context_of j) ≡ context_of (judgement_of v j)
context-filled v (Ctx G) = refl
context-filled v (Ty G A) = refl
context-filled v (TyEq G A B) = refl
context-filled v (Tm G a A) = refl
context-filled v (TmEq G a b A) = refl
context-filled v (Sb H d G) = refl

right-filled : (v : Parts trees) (j : JudgementPattern) → map (judgement_of v) (right_side_of j) ≡ right_side_of (judgement_of v j)
right-filled v (Ctx G) = refl
right-filled v (Ty G A) = refl
right-filled v (TyEq G A B) = refl
right-filled v (Tm G a A) = refl
right-filled v (TmEq G a b A) = refl
right-filled v (Sb H d G) = refl

before : {A : Type 0} (f : ℕ → Option A) (k : ℕ) (ks : List ℕ) (xs ys : List A) → meanings f (k ∷ []) ≡ Some xs → meanings f ks ≡ Some ys → meanings f (k ∷ ks) ≡ Some (xs ++ ys)
before f k ks xs ys e rest =
    let m = meanings-cons f k [] xs e in
    let nothing : m.rest ≡ [] = let p : Some m.rest ≡ Some [] = sym m.rest_is in cc in
    let one : xs ≡ m.first ∷ [] = m.whole ∙ ap (λ zs. m.first ∷ zs) nothing in
    ap₂ (both consed) m.first_is rest ∙ ap (λ zs. Some (zs ++ ys)) (sym one)

-- the rule at these things, as its pattern says it
record Filled (name : RuleName) (things : List Thing) (judgements : List Judgement) (J : Judgement) : Type 0 where
  kinds : map kind_of things ≡ kinds_of name
  wants : judgements ≡ map (judgement_of (parts_of things)) (pattern_of name).wants
  sides : All SideHolds (rule_of (parts_of things) (pattern_of name)).sides
  gives : J ≡ judgement_of (parts_of things) (pattern_of name).gives

filled : (name : RuleName) (things : List Thing) (judgements : List Judgement) (J : Judgement) → IsInstance name things judgements J → Filled name things judgements J
filled name things judgements J h =
    let some : IsSome (rule_at name things) = subst (λ o. IsSome o) (sym h.is) search in
    let kinds = rule_kinds name things some in
    let same : h.rule ≡ rule_of (parts_of things) (pattern_of name) =
    let p : Some h.rule ≡ Some (rule_of (parts_of things) (pattern_of name)) = sym h.is ∙ rule-pattern name things kinds in cc in
    record {
      kinds = kinds;
      wants = h.wants ∙ ap (λ (r : TreeRule). r.wants) same;
      sides = subst (λ (r : TreeRule). All SideHolds r.sides) same h.sides;
      gives = h.gives ∙ ap (λ (r : TreeRule). r.gives) same;
    }

pub may-call-use : (b : Contents) (ctx : NodeId) (step : RuleUse) (J : Judgement) → HasNoSubst (kinds_of step.rule) → (h : IsUseIn b ctx step J) → MayCall (unfold_statement step.rule) b ctx.0 step.parts step.premises h.use_is.things
may-call-use b ctx step J plain h =
    let name = step.rule in
    let things = h.use_is.things in
    let v = parts_of things in
    let g = (pattern_of name).gives in
    let f = filled name things h.use_is.judgements J h.use_is.instance in
    let wanted : premises_at (unfold_statement name) things ≡ context_of J ++ h.use_is.judgements =
    map-append (judgement_of v) (context_of g) (pattern_of name).wants
    ∙ ap₂ (λ xs ys. xs ++ ys) (context-filled v g ∙ ap context_of (sym f.gives)) (sym f.wants) in
    let premises = before (book_concludes b) ctx.0 step.premises (context_of J) h.use_is.judgements h.context_is h.use_is.premises_are in
    record {
      parts_are = h.use_is.parts_are;
      premises_are = premises ∙ ap Some (sym wanted);
      may_stand = record { kinds = f.kinds; shifts = small greatest_part_shift (kinds_of name) things plain f.kinds; sides = f.sides };
    }

pub unfolded-use : (b : Contents) (ctx : NodeId) (step : RuleUse) (J : Judgement) → (h : IsUseIn b ctx step J) → conclusions_at (unfold_statement step.rule) h.use_is.things ≡ right_side_of J ++ J ∷ []
unfolded-use b ctx step J h =
    let name = step.rule in
    let things = h.use_is.things in
    let v = parts_of things in
    let g = (pattern_of name).gives in
    let f = filled name things h.use_is.judgements J h.use_is.instance in
    map-append (judgement_of v) (right_side_of g) (g ∷ [])
    ∙ ap₂ (λ xs y. xs ++ y ∷ []) (right-filled v g ∙ ap right_side_of (sym f.gives)) (sym f.gives)

-- what may be called over a book may be over what goes on from it

kept : {A : Type 0} (f g : ℕ → Option A) → ((k : ℕ) (x : A) → f k ≡ Some x → g k ≡ Some x) → (ks : List ℕ) (xs : List A) → meanings f ks ≡ Some xs → meanings g ks ≡ Some xs
kept f g same [] xs e = e
kept f g same (k ∷ ks) xs e =
    let m = meanings-cons f k ks xs e in
    ap₂ (both consed) (same k m.first m.first_is) (kept f g same ks m.rest m.rest_is) ∙ ap Some (sym m.whole)

pub carried : (s : Statement) (b c : Contents) (ctx : ℕ) (parts premises : List ℕ) (things : List Thing) → Extends b c → MayCall s b ctx parts premises things → MayCall s c ctx parts premises things
carried s b c ctx parts premises things on h = record {
  parts_are = meanings-kept (book_means b) (book_means c) on.rows parts things h.parts_are;
  premises_are = kept (book_concludes b) (book_concludes c) on.conclusions (ctx ∷ premises) (premises_at s things) h.premises_are;
  may_stand = h.may_stand;
}

-- a recipe that may be called

pub few-premises : (earlier : List Statement) (most : ℕ → ℕ) (s : Statement) (rows : List Row) (gives : List ℕ) (added : ℕ) (b : Contents) (ctx : ℕ) (parts premises : List ℕ) (things : List Thing) → IsRecipe earlier most s rows gives added → MayCall s b ctx parts premises things → suc (length premises) ≤ 16
few-premises earlier most s rows gives added b ctx parts premises things is h =
    let e = call-premises s b ctx parts premises things h in
    let f = length-map s.wants (judgement_of (parts_of things)) in
    let few = is.wants_few in
    omega (arith, e, f, few)

pub runs-later : (earlier : List Statement) (most : ℕ → ℕ) (s : Statement) (rows : List Row) (gives : List ℕ) (added : ℕ) (b c : Contents) (ctx : ℕ) (parts premises : List ℕ) (things : List Thing) → IsRecipe earlier most s rows gives added → Extends b c → MayCall s b ctx parts premises things → MayRun earlier c rows gives parts (ctx ∷ premises) (conclusions_at s things)
runs-later earlier most s rows gives added b c ctx parts premises things is on h =
    may-run-call earlier s c rows gives ctx parts premises things is.derives (carried s b c ctx parts premises things on h)

-- a list of two
pub cut-two : (xs : List ℕ) → length xs ≡ 2 → slice_index xs 0 ∷ slice_index xs 1 ∷ [] ≡ xs
cut-two [] e = absurd (cc e)
cut-two (x ∷ []) e = absurd (cc e)
cut-two (x ∷ y ∷ []) e = refl
cut-two (x ∷ y ∷ z ∷ xs) e = absurd (cc e)
