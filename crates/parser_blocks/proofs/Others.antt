-- What a step does at the tokens that it does not name.
use Rattle.std.proofs.Common.{ℕ, ◌≡◌, List, [], ◌∷◌, None, refl}
use Rattle.layout_lexer.specs.declared.token.Kind.{Kind}
use Rattle.layout_lexer.specs.declared.token.Kind.TheVariants as K
use Rattle.layout_lexer.specs.declared.token.Span.{Span}
use Rattle.syntax.specs.declared.formula.Equation.{Equation}
use Rattle.syntax.specs.Tree.{Formula, Trees, none}
use Rattle.productions.specs.Words.{word_of}
use Rattle.productions.specs.Grammar.{limit}
use Rattle.productions.specs.Machine.{Place, Owner, owner_room, Use, ForLambda, ForProduct, ForDef, Frame, InModule, Inner, InParens, FirstItem, AfterImport, AfterDef, BlockStart, SystemStart, EquationEnd, EquationName, EquationSign, EquationClose, WantImport, WantBlock, WantIn, WantPathName, WantTele, TeleName, step, step_more, step_teles, step_path, step_def, step_item, step_neg, step_side, after_formula}
use Rattle.productions.specs.declared.past.Past.{Past}

pub path_name_none : (r i : ℕ) (p : Past) (F : List Frame) (s e : ℕ) (k : Kind) → (k ≡ K.Identifier → ⊥)
    → step (WantPathName r i) p F (word_of k) s e ≡ None
path_name_none r i p F s e K.Identifier a = absurd (a refl)
path_name_none r i p F s e k a = refl

pub first_tele_none : (r i : ℕ) (p : Past) (F : List Frame) (s e : ℕ) (k : Kind) → (k ≡ K.LeftParen → ⊥)
    → step (WantTele r i) p F (word_of k) s e ≡ None
first_tele_none r i p F s e K.LeftParen a = absurd (a refl)
first_tele_none r i p F s e k a = refl

pub first_name_none : (u : Use) (r rt : ℕ) (xs : Trees) (p : Past) (F : List Frame) (s e : ℕ) (k : Kind) → (k ≡ K.Identifier → ⊥)
    → step (TeleName u r rt xs) p F (word_of k) s e ≡ None
first_name_none u r rt xs p F s e K.Identifier a = absurd (a refl)
first_name_none u r rt xs p F s e k a = refl

pub more_none : (u : Use) (r rt : ℕ) (xs : Trees) (ns : List Span) (rn : ℕ) (p : Past) (F : List Frame) (s e : ℕ) (k : Kind)
    → (k ≡ K.Identifier → ⊥) → (k ≡ K.Colon → ⊥) → step_more u r rt xs ns rn p F (word_of k) s e ≡ None
more_none u r rt xs ns rn p F s e K.Identifier a b = absurd (a refl)
more_none u r rt xs ns rn p F s e K.Colon a b = absurd (b refl)
more_none u r rt xs ns rn p F s e k a b = refl

pub teles_none : (u : Use) (r rt : ℕ) (xs : Trees) (p : Past) (F : List Frame) (s e : ℕ) (k : Kind)
    → (k ≡ K.LeftParen → ⊥) → (k ≡ K.Arrow → ⊥) → (k ≡ K.Star → ⊥) → (k ≡ K.Colon → ⊥) → step_teles u r rt xs p F (word_of k) s e ≡ None
teles_none u r rt xs p F s e K.LeftParen a b c d = absurd (a refl)
teles_none u r rt xs p F s e K.Arrow a b c d = absurd (b refl)
teles_none u r rt xs p F s e K.Star a b c d = absurd (c refl)
teles_none u r rt xs p F s e K.Colon a b c d = absurd (d refl)
teles_none (ForLambda i) r rt xs p F s e k a b c d = refl
teles_none (ForProduct i) r rt xs p F s e k a b c d = refl
teles_none (ForDef f ds n) r rt xs p F s e k a b c d = refl

pub path_none : (r i : ℕ) (ns : List Span) (rn : ℕ) (p : Past) (F : List Frame) (s e : ℕ) (k : Kind)
    → (k ≡ K.Identifier → ⊥) → (k ≡ K.Greater → ⊥) → step_path r i ns rn p F (word_of k) s e ≡ None
path_none r i ns rn p F s e K.Identifier a b = absurd (a refl)
path_none r i ns rn p F s e K.Greater a b = absurd (b refl)
path_none r i ns rn p F s e k a b = refl

pub def_none : (f r : ℕ) (ds : Trees) (p : Past) (F : List Frame) (s e : ℕ) (k : Kind) → (k ≡ K.Identifier → ⊥) → step_def f r ds p F (word_of k) s e ≡ None
def_none f r ds p F s e K.Identifier a = absurd (a refl)
def_none f r ds p F s e k a = refl

pub item_other : (n : Span) (is : List Span) (p : Past) (F : List Frame) (s e : ℕ) (k : Kind) → (k ≡ K.Import → ⊥)
    → step_item n is p F (word_of k) s e ≡ step_def 0 limit none p (InModule n is ∷ F) (word_of k) s e
item_other n is p F s e K.Import a = absurd (a refl)
item_other n is p F s e k a = refl

pub first_item_other : (n : Span) (p : Past) (F : List Frame) (s e : ℕ) (k : Kind) → (k ≡ K.Close → ⊥)
    → step (FirstItem n) p F (word_of k) s e ≡ step_item n [] p F (word_of k) s e
first_item_other n p F s e K.Close a = absurd (a refl)
first_item_other n p F s e k a = refl

pub after_import_none : (n : Span) (is : List Span) (p : Past) (F : List Frame) (s e : ℕ) (k : Kind) → (k ≡ K.Next → ⊥) → (k ≡ K.Close → ⊥)
    → step (AfterImport n is) p F (word_of k) s e ≡ None
after_import_none n is p F s e K.Next a b = absurd (a refl)
after_import_none n is p F s e K.Close a b = absurd (b refl)
after_import_none n is p F s e k a b = refl

pub after_def_none : (f r : ℕ) (ds : Trees) (p : Past) (F : List Frame) (s e : ℕ) (k : Kind) → (k ≡ K.Next → ⊥) → (k ≡ K.Close → ⊥)
    → step (AfterDef f r ds) p F (word_of k) s e ≡ None
after_def_none f r ds p F s e K.Next a b = absurd (a refl)
after_def_none f r ds p F s e K.Close a b = absurd (b refl)
after_def_none f r ds p F s e k a b = refl

pub first_def_other : (r : ℕ) (p : Past) (F : List Frame) (s e : ℕ) (k : Kind) → (k ≡ K.Close → ⊥)
    → step (BlockStart r) p F (word_of k) s e ≡ step_def 1 r none p F (word_of k) s e
first_def_other r p F s e K.Close a = absurd (a refl)
first_def_other r p F s e k a = refl

pub open_block_none : (r : ℕ) (p : Past) (F : List Frame) (s e : ℕ) (k : Kind) → (k ≡ K.Open → ⊥) → step (WantBlock r) p F (word_of k) s e ≡ None
open_block_none r p F s e K.Open a = absurd (a refl)
open_block_none r p F s e k a = refl

pub let_body_none : (r i : ℕ) (ds : Trees) (p : Past) (F : List Frame) (s e : ℕ) (k : Kind) → (k ≡ K.In → ⊥)
    → step (WantIn r i ds) p F (word_of k) s e ≡ None
let_body_none r i ds p F s e K.In a = absurd (a refl)
let_body_none r i ds p F s e k a = refl

pub import_none : (n : Span) (is : List Span) (p : Past) (F : List Frame) (s e : ℕ) (k : Kind) → (k ≡ K.Identifier → ⊥)
    → step (WantImport n is) p F (word_of k) s e ≡ None
import_none n is p F s e K.Identifier a = absurd (a refl)
import_none n is p F s e k a = refl

pub side_none : (o : Owner) (r : ℕ) (ss : Trees) (eqs : List Equation) (p : Past) (F : List Frame) (s e : ℕ) (k : Kind)
    → (k ≡ K.LeftParen → ⊥) → (k ≡ K.Arrow → ⊥) → step_side o r ss eqs p F (word_of k) s e ≡ None
side_none o r ss eqs p F s e K.LeftParen a b = absurd (a refl)
side_none o r ss eqs p F s e K.Arrow a b = absurd (b refl)
side_none o r ss eqs p F s e k a b = refl

pub first_side_other : (o : Owner) (p : Past) (F : List Frame) (s e : ℕ) (k : Kind) → (k ≡ K.RightBracket → ⊥)
    → step (SystemStart o) p F (word_of k) s e ≡ step_side o (owner_room o) none [] p F (word_of k) s e
first_side_other o p F s e K.RightBracket a = absurd (a refl)
first_side_other o p F s e k a = refl

pub end_none : (o : Owner) (r : ℕ) (ss : Trees) (eqs : List Equation) (n : Span) (p : Past) (F : List Frame) (s e : ℕ) (k : Kind)
    → (k ≡ K.Zero → ⊥) → (k ≡ K.One → ⊥) → step (EquationEnd o r ss eqs n) p F (word_of k) s e ≡ None
end_none o r ss eqs n p F s e K.Zero a b = absurd (a refl)
end_none o r ss eqs n p F s e K.One a b = absurd (b refl)
end_none o r ss eqs n p F s e k a b = refl

pub name_none : (o : Owner) (r : ℕ) (ss : Trees) (eqs : List Equation) (p : Past) (F : List Frame) (s e : ℕ) (k : Kind) → (k ≡ K.Identifier → ⊥)
    → step (EquationName o r ss eqs) p F (word_of k) s e ≡ None
name_none o r ss eqs p F s e K.Identifier a = absurd (a refl)
name_none o r ss eqs p F s e k a = refl

pub sign_none : (o : Owner) (r : ℕ) (ss : Trees) (eqs : List Equation) (n : Span) (p : Past) (F : List Frame) (s e : ℕ) (k : Kind) → (k ≡ K.Equals → ⊥)
    → step (EquationSign o r ss eqs n) p F (word_of k) s e ≡ None
sign_none o r ss eqs n p F s e K.Equals a = absurd (a refl)
sign_none o r ss eqs n p F s e k a = refl

pub close_none : (o : Owner) (r : ℕ) (ss : Trees) (eqs : List Equation) (p : Past) (F : List Frame) (s e : ℕ) (k : Kind) → (k ≡ K.RightParen → ⊥)
    → step (EquationClose o r ss eqs) p F (word_of k) s e ≡ None
close_none o r ss eqs p F s e K.RightParen a = absurd (a refl)
close_none o r ss eqs p F s e k a = refl

pub neg_none : (pl : Place) (i : ℕ) (G : List Inner) (r : ℕ) (p : Past) (F : List Frame) (s e : ℕ) (k : Kind)
    → (k ≡ K.Minus → ⊥) → (k ≡ K.LeftParen → ⊥) → (k ≡ K.Zero → ⊥) → (k ≡ K.One → ⊥) → (k ≡ K.Identifier → ⊥)
    → step_neg pl i G r p F (word_of k) s e ≡ None
neg_none pl i G r p F s e K.Minus a b c d h = absurd (a refl)
neg_none pl i G r p F s e K.LeftParen a b c d h = absurd (b refl)
neg_none pl i G r p F s e K.Zero a b c d h = absurd (c refl)
neg_none pl i G r p F s e K.One a b c d h = absurd (d refl)
neg_none pl i G r p F s e K.Identifier a b c d h = absurd (h refl)
neg_none pl i G r p F s e k a b c d h = refl

pub parens_none : (pl : Place) (i r j : ℕ) (G : List Inner) (f : Formula) (p : Past) (F : List Frame) (s e : ℕ) (k : Kind)
    → (k ≡ K.RightParen → ⊥) → after_formula pl i (InParens r j ∷ G) f p F (word_of k) s e ≡ None
parens_none pl i r j G f p F s e K.RightParen a = absurd (a refl)
parens_none pl i r j G f p F s e k a = refl
