-- What a step in an expression does at the tokens that it does not name.
use Rattle.std.proofs.Common.{ℕ, ◌≡◌, ◌-◌, List, [], Option, refl}
use Rattle.layout_lexer.specs.declared.token.Kind.{Kind}
use Rattle.layout_lexer.specs.declared.token.Kind.TheVariants as K
use Rattle.layout_lexer.specs.declared.token.Span.{Span}
use Rattle.syntax.specs.declared.formula.Projection.{Projection}
use Rattle.syntax.specs.Tree.{Tree, Name}
use Rattle.productions.specs.Words.{Word, Form, Dot, word_of}
use Rattle.productions.specs.Grammar.{from, projected}
use Rattle.productions.specs.Machine.{Place, Head, Slot, Whole, Frame, in_bracket, give, room_of, step_exp5, step_exp3, step_exp1, step_exp, step_given, step_projected, step_opened, step_maybe}
use Rattle.productions.specs.declared.past.Past.{Past}
use Rattle.parser_states.specs.View.{IsNoForm}
use Rattle.parser_expressions.specs.Projections.{IsNoDot}

pub exp3_other : (pl : Place) (p : Past) (F : List Frame) (s e : ℕ) (w : Word) → IsNoForm w
    → step_exp3 pl p F w s e ≡ step_exp5 (Whole pl) p F w s e
exp3_other pl p F s e (Form w) h = absurd h
exp3_other pl p F s e w h = refl

pub exp1_other : (r : ℕ) (p : Past) (F : List Frame) (s e : ℕ) (k : Kind) → (k ≡ K.LeftParen → ⊥)
    → step_exp1 r p F (word_of k) s e ≡ step_exp3 (Head r s) p F (word_of k) s e
exp1_other r p F s e K.LeftParen a = absurd (a refl)
exp1_other r p F s e k a = refl

pub exp_other : (r : ℕ) (p : Past) (F : List Frame) (s e : ℕ) (k : Kind) → (k ≡ K.Let → ⊥) → (k ≡ K.Backslash → ⊥) → (k ≡ K.Less → ⊥)
    → step_exp r p F (word_of k) s e ≡ step_exp1 r p F (word_of k) s e
exp_other r p F s e K.Let a b c = absurd (a refl)
exp_other r p F s e K.Backslash a b c = absurd (b refl)
exp_other r p F s e K.Less a b c = absurd (c refl)
exp_other r p F s e k a b c = refl

pub projected_other : (slot : Slot) (rn i : ℕ) (x : Tree) (hs : List Projection) (p : Past) (F : List Frame) (s e : ℕ) (w : Word) → IsNoDot w
    → step_projected slot rn i x hs p F w s e ≡ step_given (give slot (projected (from i p) x hs) p) p F w s e
projected_other slot rn i x hs p F s e (Dot h) n = absurd n
projected_other slot rn i x hs p F s e w n = refl

pub opened_other : (r i : ℕ) (p : Past) (F : List Frame) (s e : ℕ) (k : Kind) → (k ≡ K.Identifier → ⊥)
    → step_opened r i p F (word_of k) s e ≡ step_exp (r - 1) p (in_bracket r i F) (word_of k) s e
opened_other r i p F s e K.Identifier a = absurd (a refl)
opened_other r i p F s e k a = refl

pub maybe_other : (r i : ℕ) (ns : List Span) (rn : ℕ) (pl : Place) (n : Span) (d : Option ℕ) (p : Past) (F : List Frame) (s e : ℕ) (k : Kind)
    → (k ≡ K.Identifier → ⊥) → (k ≡ K.Colon → ⊥)
    → step_maybe r i ns rn pl n d p F (word_of k) s e
    ≡ step_projected (Whole pl) (room_of pl) n.start (Name n) [] (record { end = p.end; deep = d }) (in_bracket r i F) (word_of k) s e
maybe_other r i ns rn pl n d p F s e K.Identifier a b = absurd (a refl)
maybe_other r i ns rn pl n d p F s e K.Colon a b = absurd (b refl)
maybe_other r i ns rn pl n d p F s e k a b = refl
