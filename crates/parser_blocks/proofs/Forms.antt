-- What a step does by the form of what is open round a formula.
use Rattle.std.proofs.Common.{ℕ, ◌≡◌, ◌-◌, List, [], ◌∷◌, Some, None, refl, ap}
use Rattle.layout_lexer.specs.declared.token.Kind.{Kind}
use Rattle.layout_lexer.specs.declared.token.Kind.TheVariants as K
use Rattle.syntax.specs.Tree.{Formula}
use Rattle.syntax.specs.declared.formula.Formula.{Formula as FormulaOf}
use Rattle.productions.specs.Words.{Word, And, Or, word_of}
use Rattle.productions.specs.Grammar.{skip}
use Rattle.productions.specs.Machine.{Place, Frame, Inner, InNegation, InMeet, InJoin, InParens, WantNeg, to, finish_formula, after_formula, after_conj, after_neg, IsNoNegation, IsNoOperand}
use Rattle.productions.specs.declared.past.Past.{Past}
use Rattle.parser_states.specs.declared.state.Inner.{Inner as InnerOf}
use Rattle.parser_states.specs.declared.state.Inner.TheVariants as I
use Rattle.parser_states.specs.View.{inner_of}
use Rattle.parser_blocks.specs.Closing.{closes}

some_injective : {A : Type 0} {x y : A} → Some x ≡ Some y → x ≡ y
some_injective eq = cc

none_some : {A : Type 0} {x : A} → None ≡ Some x → ⊥
none_some eq = cc

pub after_closed : (g : Inner) (f h : Formula) (pl : Place) (i : ℕ) (G : List Inner) (p : Past) (F : List Frame) (w : Word) (s e : ℕ)
    → closes g f p ≡ Some h → after_formula pl i (g ∷ G) f p F w s e ≡ after_formula pl i G h p F w s e
after_closed (InNegation r j) f h pl i G p F w s e eq = ap (λ x. after_formula pl i G x p F w s e) (some_injective eq)
after_closed (InMeet r j g) f h pl i G p F w s e eq = ap (λ x. after_formula pl i G x p F w s e) (some_injective eq)
after_closed (InJoin r j g) f h pl i G p F w s e eq = ap (λ x. after_formula pl i G x p F w s e) (some_injective eq)
after_closed (InParens r j) f h pl i G p F w s e eq = absurd (none_some eq)

pub finish_closed : (g : Inner) (f h : Formula) (pl : Place) (i : ℕ) (G : List Inner) (p : Past) (F : List Frame)
    → closes g f p ≡ Some h → finish_formula pl i (g ∷ G) f p F ≡ finish_formula pl i G h p F
finish_closed (InNegation r j) f h pl i G p F eq = ap (λ x. finish_formula pl i G x p F) (some_injective eq)
finish_closed (InMeet r j g) f h pl i G p F eq = ap (λ x. finish_formula pl i G x p F) (some_injective eq)
finish_closed (InJoin r j g) f h pl i G p F eq = ap (λ x. finish_formula pl i G x p F) (some_injective eq)
finish_closed (InParens r j) f h pl i G p F eq = absurd (none_some eq)

pub no_negation : (g : InnerOf) (G : List Inner) → ((r s : ℕ) → g ≡ I.Negation r s → ⊥) → IsNoNegation (inner_of g ∷ G)
no_negation (I.Negation r s) G a = absurd (a r s refl)
no_negation (I.Meet r s f) G a = tt
no_negation (I.Join r s f) G a = tt
no_negation (I.Parens r s) G a = tt

pub neg_meets : (pl : Place) (i : ℕ) (G : List Inner) (r b : ℕ) (f : Formula) (p : Past) (F : List Frame) (s e : ℕ) → IsNoNegation G
    → after_neg pl i G r b f p F And s e ≡ to (WantNeg pl i (InMeet r b f ∷ G) (r - 1)) (skip e p) F
neg_meets pl i [] r b f p F s e h = refl
neg_meets pl i (InNegation r' j ∷ G) r b f p F s e h = absurd h
neg_meets pl i (g ∷ G) r b f p F s e h = refl

pub neg_other : (pl : Place) (i : ℕ) (G : List Inner) (r b : ℕ) (f : Formula) (p : Past) (F : List Frame) (s e : ℕ) (k : Kind) → (k ≡ K.And → ⊥) → IsNoNegation G
    → after_neg pl i G r b f p F (word_of k) s e ≡ after_conj pl i G r b f p F (word_of k) s e
neg_other pl i (InNegation r' j ∷ G) r b f p F s e k a h = absurd h
neg_other pl i G r b f p F s e K.And a h = absurd (a refl)
neg_other pl i [] r b f p F s e k a h = refl
neg_other pl i (g ∷ G) r b f p F s e k a h = refl

pub no_operand : (g : InnerOf) (G : List Inner) → ((r s : ℕ) → g ≡ I.Negation r s → ⊥)
    → ((r s : ℕ) (f : FormulaOf) → g ≡ I.Meet r s f → ⊥) → IsNoOperand (inner_of g ∷ G)
no_operand (I.Negation r s) G a b = absurd (a r s refl)
no_operand (I.Meet r s f) G a b = absurd (b r s f refl)
no_operand (I.Join r s f) G a b = tt
no_operand (I.Parens r s) G a b = tt

pub conj_joins : (pl : Place) (i : ℕ) (G : List Inner) (r b : ℕ) (f : Formula) (p : Past) (F : List Frame) (s e : ℕ) → IsNoOperand G
    → after_conj pl i G r b f p F Or s e ≡ to (WantNeg pl i (InJoin r b f ∷ G) (r - 1)) (skip e p) F
conj_joins pl i [] r b f p F s e h = refl
conj_joins pl i (InNegation r' j ∷ G) r b f p F s e h = absurd h
conj_joins pl i (InMeet r' j g ∷ G) r b f p F s e h = absurd h
conj_joins pl i (g ∷ G) r b f p F s e h = refl

pub conj_other : (pl : Place) (i : ℕ) (G : List Inner) (r b : ℕ) (f : Formula) (p : Past) (F : List Frame) (s e : ℕ) (k : Kind) → (k ≡ K.Or → ⊥) → IsNoOperand G
    → after_conj pl i G r b f p F (word_of k) s e ≡ after_formula pl i G f p F (word_of k) s e
conj_other pl i (InNegation r' j ∷ G) r b f p F s e k a h = absurd h
conj_other pl i (InMeet r' j g ∷ G) r b f p F s e k a h = absurd h
conj_other pl i G r b f p F s e K.Or a h = absurd (a refl)
conj_other pl i [] r b f p F s e k a h = refl
conj_other pl i (g ∷ G) r b f p F s e k a h = refl
