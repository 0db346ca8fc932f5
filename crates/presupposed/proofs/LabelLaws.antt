-- Labels that are asked on the way, and what stands behind judgements with them.
use Rattle.std.proofs.Common.{◌≡◌, ◌||◌, ◌&&◌, Bool, true, false, refl, sym, ap, ap₂, Some}
use Rattle.trees.specs.Trees.{Tree}
use Rattle.trees.specs.Judgements.{Context, Nil, WithVar, WithName, WithFace, Judgement, trees}
use Rattle.trees.specs.Language.{Ctx, Ty, TyEq, Tm, TmEq, Sb}
use Rattle.patterns.specs.Patterns.{ContextPart, Empty, AddVar, AddName, AddFace, JudgementPattern}
use Rattle.patterns.specs.Values.{Parts, judgement_of}
use Rattle.presuppositions.specs.declared.source.Label.{Label}
use Rattle.presuppositions.specs.declared.source.Label.TheVariants as label
use Rattle.presuppositions.specs.Behind.{behind, behind_pattern}
use Rattle.presuppositions.specs.Sought.{is_none, is_of_contexts, is_of_sides, goes_on}
use Rattle.presupposed.specs.Asked.{IsEquation, IsJudgedAt, IsJudgedIn}
use Rattle.presupposed.proofs.RuleLaws.{is_shown}

exclusive : (l : Label) → (is_of_contexts l && is_of_sides l) ≡ false
exclusive label.Context = refl
exclusive _ = refl

over : (t x y a b : Bool) → (x && y) ≡ false → (x || (t && y)) ≡ true → (a || (y && b)) ≡ true → (a || (t && b)) ≡ true
over t x y true b n f g = refl
over true x true false b n f g = g
over true x false false b n f g = absurd (cc g)
over false true true false b n f g = absurd (cc n)
over false true false false b n f g = absurd (cc g)
over false false y false b n f g = absurd (cc f)

-- what is asked on the way to something on the way is asked on the way
pub goes_further : (t l m : Label) → goes_on t l ≡ true → goes_on l m ≡ true → goes_on t m ≡ true
goes_further t l m f g = over (is_of_sides t) (is_of_contexts l) (is_of_sides l) (is_of_contexts m) (is_of_sides m) (exclusive l) f g

-- types are asked of sides
pub goes_to_type : (l : Label) → is_of_sides l ≡ true → goes_on l label.Type ≡ true
goes_to_type l s = ap (λ b. b && true) s

either : (t x y : Bool) → (x || (t && y)) ≡ true → (x || y) ≡ true
either t true y e = refl
either true false y e = e
either false false y e = absurd (cc e)

pub asked-kind : (t l : Label) → goes_on t l ≡ true → (is_of_contexts l || is_of_sides l) ≡ true
asked-kind t l e = either (is_of_sides t) (is_of_contexts l) (is_of_sides l) e

-- where something stands behind a value, it stands behind the pattern
pub pattern_has : (v : Parts trees) (J : JudgementPattern) (l : Label) (K : Judgement) → is_shown J ≡ true → (is_of_contexts l || is_of_sides l) ≡ true → behind l (judgement_of v J) ≡ Some K → is_none (behind_pattern l J) ≡ false
pattern_has v (Ctx (ContextPart k)) l K s a e = absurd (cc s)
pattern_has v (Ctx Empty) label.Context K s a e = absurd (cc e)
pattern_has v (Ctx Empty) label.Type K s a e = absurd (cc e)
pattern_has v (Ctx Empty) _ K s a e = absurd (cc e)
pattern_has v (Ctx (AddVar G A)) label.Context K s a e = refl
pattern_has v (Ctx (AddVar G A)) label.Type K s a e = refl
pattern_has v (Ctx (AddVar G A)) _ K s a e = absurd (cc e)
pattern_has v (Ctx (AddName G)) label.Context K s a e = refl
pattern_has v (Ctx (AddName G)) _ K s a e = absurd (cc e)
pattern_has v (Ctx (AddFace G p)) label.Context K s a e = refl
pattern_has v (Ctx (AddFace G p)) _ K s a e = absurd (cc e)
pattern_has v (Ty G T) label.Context K s a e = refl
pattern_has v (Ty G T) label.Type K s a e = absurd (cc e)
pattern_has v (Ty G T) label.Left K s a e = absurd (cc e)
pattern_has v (Ty G T) label.Right K s a e = absurd (cc e)
pattern_has v (Ty G T) label.From K s a e = absurd (cc e)
pattern_has v (Ty G T) label.To K s a e = absurd (cc e)
pattern_has v (Ty G T) _ K s a e = absurd (cc a)
pattern_has v (TyEq G A B) label.Context K s a e = refl
pattern_has v (TyEq G A B) label.Left K s a e = refl
pattern_has v (TyEq G A B) label.Right K s a e = refl
pattern_has v (TyEq G A B) _ K s a e = absurd (cc e)
pattern_has v (Tm G t A) label.Context K s a e = refl
pattern_has v (Tm G t A) label.Type K s a e = refl
pattern_has v (Tm G t A) _ K s a e = absurd (cc e)
pattern_has v (TmEq G t u A) label.Context K s a e = refl
pattern_has v (TmEq G t u A) label.Type K s a e = refl
pattern_has v (TmEq G t u A) label.Left K s a e = refl
pattern_has v (TmEq G t u A) label.Right K s a e = refl
pattern_has v (TmEq G t u A) _ K s a e = absurd (cc e)
pattern_has v (Sb H d G) label.From K s a e = refl
pattern_has v (Sb H d G) label.To K s a e = refl
pattern_has v (Sb H d G) _ K s a e = absurd (cc e)

-- what stands behind a judgement as its context is one
pub is_context : (P C : Judgement) → behind label.Context P ≡ Some C → (G : Context) × (C ≡ Ctx G)
is_context (Ctx Nil) C e = absurd (cc e)
is_context (Ctx (WithVar G A)) C e = (G, let same : Ctx G ≡ C = cc in sym same)
is_context (Ctx (WithName G)) C e = (G, let same : Ctx G ≡ C = cc in sym same)
is_context (Ctx (WithFace G p)) C e = (G, let same : Ctx G ≡ C = cc in sym same)
is_context (Ty G T) C e = (G, let same : Ctx G ≡ C = cc in sym same)
is_context (TyEq G A B) C e = (G, let same : Ctx G ≡ C = cc in sym same)
is_context (Tm G t A) C e = (G, let same : Ctx G ≡ C = cc in sym same)
is_context (TmEq G t u A) C e = (G, let same : Ctx G ≡ C = cc in sym same)
is_context (Sb H d G) C e = absurd (cc e)

-- what stands behind it as its type is one, in its context
pub is_type : (P C : Judgement) → behind label.Type P ≡ Some C → (G : Context) × (T : Tree) × (C ≡ Ty G T) × (behind label.Context P ≡ Some (Ctx G))
is_type (Ctx Nil) C e = absurd (cc e)
is_type (Ctx (WithVar G A)) C e = (G, A, (let same : Ty G A ≡ C = cc in sym same), refl)
is_type (Ctx (WithName G)) C e = absurd (cc e)
is_type (Ctx (WithFace G p)) C e = absurd (cc e)
is_type (Ty G T) C e = absurd (cc e)
is_type (TyEq G A B) C e = absurd (cc e)
is_type (Tm G t A) C e = (G, A, (let same : Ty G A ≡ C = cc in sym same), refl)
is_type (TmEq G t u A) C e = (G, A, (let same : Ty G A ≡ C = cc in sym same), refl)
is_type (Sb H d G) C e = absurd (cc e)

-- what is asked stands there

pub context_behind : (J : Judgement) (G : Context) → IsJudgedIn J G → behind label.Context J ≡ Some (Ctx G)
context_behind (Ty H A) G is = ap (λ K. Some (Ctx K)) is
context_behind (TyEq H A B) G is = ap (λ K. Some (Ctx K)) is
context_behind (Tm H t A) G is = ap (λ K. Some (Ctx K)) is
context_behind (TmEq H t u A) G is = ap (λ K. Some (Ctx K)) is
context_behind (Ctx H) G is = absurd is
context_behind (Sb K d H) G is = absurd is

pub type_behind : (J : Judgement) (G : Context) (A : Tree) → IsJudgedAt J G A → behind label.Type J ≡ Some (Ty G A)
type_behind (Tm H t B) G A is = ap₂ (λ K T. Some (Ty K T)) is.0 is.1
type_behind (TmEq H t u B) G A is = ap₂ (λ K T. Some (Ty K T)) is.0 is.1
type_behind (Ctx H) G A is = absurd is
type_behind (Ty H B) G A is = absurd is
type_behind (TyEq H B C) G A is = absurd is
type_behind (Sb K d H) G A is = absurd is

pub left_behind : (J left right : Judgement) → IsEquation J left right → behind label.Left J ≡ Some left
left_behind (TyEq G A B) left right is = ap Some (sym is.0)
left_behind (TmEq G t u A) left right is = ap Some (sym is.0)
left_behind (Ctx G) left right is = absurd is
left_behind (Ty G A) left right is = absurd is
left_behind (Tm G t A) left right is = absurd is
left_behind (Sb H d G) left right is = absurd is

pub right_behind : (J left right : Judgement) → IsEquation J left right → behind label.Right J ≡ Some right
right_behind (TyEq G A B) left right is = ap Some (sym is.1)
right_behind (TmEq G t u A) left right is = ap Some (sym is.1)
right_behind (Ctx G) left right is = absurd is
right_behind (Ty G A) left right is = absurd is
right_behind (Tm G t A) left right is = absurd is
right_behind (Sb H d G) left right is = absurd is
