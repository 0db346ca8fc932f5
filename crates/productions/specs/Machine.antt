-- The parser's states and steps.
use Rattle.std.specs.Prelude.{ℕ, ◌-◌, List, [], ◌∷◌, ◌++◌, Option, Some, None}
use Rattle.layout_lexer.specs.declared.token.Span.{Span}
use Rattle.syntax.specs.declared.formula.Equation.{Equation}
use Rattle.syntax.specs.declared.formula.Projection.{Projection}
use Rattle.syntax.specs.Tree.{Formula, Variable, Negate, Meet, Join, Tree, Let, Lambda, PathLambda}
use Rattle.syntax.specs.Tree.{Pi, Sigma, Arrow, PathP, Transport, Universe, Name, Brackets, At}
use Rattle.syntax.specs.Tree.{Tele, Side, Def, Module, Trees, none, and}
use Rattle.productions.specs.Words.{Composing, Gluing, Pairing, PathWord, ComposingWord}
use Rattle.productions.specs.Words.{TransportWord, FormWord, PairingWord, GluingWord, Word, Open}
use Rattle.productions.specs.Words.{Next, Close, LeftParen, RightParen, LeftBracket, RightBracket}
use Rattle.productions.specs.Words.{Comma, Colon, Equals, AtSign, Star, Less, Greater, Backslash}
use Rattle.productions.specs.Words.{Minus, To, And, Or, Dot, EndOf, ModuleWord, WhereWord}
use Rattle.productions.specs.Words.{ImportWord, LetWord, InWord, Form, UniverseWord, Identifier}
use Rattle.productions.specs.Words.{Piece, piece, span}
use Rattle.productions.specs.Grammar.{limit, note, begin, skip, from, kept, shallow}
use Rattle.productions.specs.Grammar.{shallow_formula, applied, projected, half, constant}
use Rattle.productions.specs.Grammar.{composing, gluing, equation, nothing}
use Rattle.productions.specs.declared.past.Past.{Past}

-- one more at the end of a list
abbrev pub keep_last : ℕ → Trees → Tree → Trees
keep_last r xs x = and xs (kept r x none)

-- where an exp3 stands: first, or behind others; with the rooms of the whole and of the element,
-- and where the whole starts
pub data Place : Type 0 where
  Head : ℕ → ℕ → Place
  Element : ℕ → ℕ → ℕ → Tree → Trees → Place

abbrev pub room_of : Place → ℕ
room_of (Head r s) = r
room_of (Element r rn s f es) = rn

abbrev pub after : Place → Tree → Place
after (Head r s) x = Element r r s x none
after (Element r rn s f es) x = Element r (rn - 1) s f (keep_last rn es x)

-- where an exp4 stands: it is the exp3, or an argument of one that began with a word
pub data Slot : Type 0 where
  Whole : Place → Slot
  FirstOf : FormWord → ℕ → Place → Slot
  SecondOf : Pairing → ℕ → Tree → Place → Slot
  ThirdOf : ℕ → Tree → Tree → Place → Slot

abbrev pub place_of : Slot → Place
place_of (Whole pl) = pl
place_of (FirstOf w s pl) = pl
place_of (SecondOf w s x pl) = pl
place_of (ThirdOf s x y pl) = pl

-- the form that a system ends
pub data Owner : Type 0 where
  OfComposing : Composing → ℕ → Tree → Tree → Place → Owner
  OfGluing : Gluing → ℕ → Tree → Place → Owner

abbrev pub owner_room : Owner → ℕ
owner_room (OfComposing w s x y pl) = room_of pl
owner_room (OfGluing w s x pl) = room_of pl

-- what teles are for
pub data Use : Type 0 where
  ForLambda : ℕ → Use
  ForProduct : ℕ → Use
  ForDef : ℕ → Trees → Span → Use

pub data Binder : Type 0 where
  OfLambda : Binder
  OfPi : Binder
  OfSigma : Binder

abbrev pub bind : Binder → Span → Trees → Tree → Tree
bind OfLambda = Lambda
bind OfPi = Pi
bind OfSigma = Sigma

-- what is open round the place
pub data Frame : Type 0 where
  InBracket : Slot → ℕ → ℕ → Trees → Frame
  InTele : Use → ℕ → ℕ → Trees → List Span → Frame
  InArrow : ℕ → ℕ → Tree → Frame
  InBinder : Binder → ℕ → ℕ → Trees → Frame
  InPath : ℕ → ℕ → List Span → Frame
  InLet : ℕ → ℕ → Frame
  InLetBody : ℕ → ℕ → Trees → Frame
  InSide : Owner → ℕ → Trees → List Equation → Frame
  InType : ℕ → ℕ → Trees → Span → Trees → Frame
  InBody : ℕ → ℕ → Trees → Span → Trees → Tree → Frame
  InWhere : ℕ → ℕ → Trees → Span → Trees → Tree → Tree → Frame
  InModule : Span → List Span → Frame

-- the same in a formula
pub data Inner : Type 0 where
  InNegation : ℕ → ℕ → Inner
  InMeet : ℕ → ℕ → Formula → Inner
  InJoin : ℕ → ℕ → Formula → Inner
  InParens : ℕ → ℕ → Inner

-- what stands in these frames is negated by none of them, and in a meet neither
abbrev pub IsNoNegation : List Inner → Type 0
IsNoNegation (InNegation r s ∷ F) = ⊥
IsNoNegation F = Unit {0}

abbrev pub IsNoOperand : List Inner → Type 0
IsNoOperand (InNegation r s ∷ F) = ⊥
IsNoOperand (InMeet r s g ∷ F) = ⊥
IsNoOperand F = Unit {0}

-- what was read last, and so what may come next
pub data Top : Type 0 where
  WantModule : Top
  WantModuleName : Top
  WantModuleWhere : Span → Top
  WantModuleOpen : Span → Top
  FirstItem : Span → Top
  WantImport : Span → List Span → Top
  AfterImport : Span → List Span → Top
  NextItem : Span → List Span → Top
  WantDef : ℕ → ℕ → Trees → Top
  AfterDef : ℕ → ℕ → Trees → Top
  WantBlock : ℕ → Top
  BlockStart : ℕ → Top
  WantIn : ℕ → ℕ → Trees → Top
  Done : Tree → Top
  WantExp : ℕ → Top
  WantExp1 : ℕ → Top
  WantPathName : ℕ → ℕ → Top
  PathName : ℕ → ℕ → List Span → ℕ → Top
  WantTele : ℕ → ℕ → Top
  TeleName : Use → ℕ → ℕ → Trees → Top
  TeleMore : Use → ℕ → ℕ → Trees → List Span → ℕ → Top
  AfterTele : Use → ℕ → ℕ → Trees → Top
  Opened : ℕ → ℕ → Top
  Maybe : ℕ → ℕ → List Span → ℕ → Place → Span → Option ℕ → Top
  WantExp4 : Slot → Top
  Projected : Slot → ℕ → ℕ → Tree → List Projection → Top
  Spined : ℕ → ℕ → ℕ → Tree → Trees → Top
  WantNeg : Place → ℕ → List Inner → ℕ → Top
  HaveNeg : Place → ℕ → List Inner → ℕ → ℕ → Formula → Top
  WantSystem : Owner → Top
  SystemStart : Owner → Top
  WantSide : Owner → ℕ → Trees → List Equation → Top
  EquationName : Owner → ℕ → Trees → List Equation → Top
  EquationSign : Owner → ℕ → Trees → List Equation → Span → Top
  EquationEnd : Owner → ℕ → Trees → List Equation → Span → Top
  EquationClose : Owner → ℕ → Trees → List Equation → Top

pub record State : Type 0 where
  pub top : Top
  pub past : Past
  pub stack : List Frame

abbrev pub to : Top → Past → List Frame → Option State
to t p K = Some (record { top = t; past = p; stack = K })

abbrev pub in_bracket : ℕ → ℕ → List Frame → List Frame
in_bracket r s K = InBracket (Whole (Head r s)) s (r - 1) none ∷ K

-- an exp3 is at hand
abbrev pub put : Place → Tree → Top
put (Head r s) x = Spined r r s x none
put (Element r rn s f es) x = Spined r (rn - 1) s f (keep_last rn es x)

-- an exp4 is at hand
abbrev pub give : Slot → Tree → Past → Top
give (Whole pl) x p = put pl x
give (FirstOf (PairingWord w) s pl) x p = WantExp4 (SecondOf w s x pl)
give (FirstOf (GluingWord w) s pl) x p = WantSystem (OfGluing w s x pl)
give (SecondOf PathWord s x pl) y p = WantExp4 (ThirdOf s x y pl)
give (SecondOf (ComposingWord w) s x pl) y p = WantSystem (OfComposing w s x y pl)
give (SecondOf TransportWord s x pl) y p = put pl (Transport (from s p) x y)
give (ThirdOf s x y pl) z p = put pl (PathP (from s p) x y z)

-- a system is at hand
abbrev pub owned : Owner → Trees → Past → Top
owned (OfComposing w s x y pl) ss p = put pl (composing w (from s p) x y ss)
owned (OfGluing w s x pl) ss p = put pl (gluing w (from s p) x ss)

-- a block ends with a token to e; in other frames no block stands, and no text leads there
abbrev pub close_block : Trees → Past → List Frame → ℕ → Option State
close_block ds p (InLet r s ∷ K) e = to (WantIn r s ds) (skip e p) K
close_block ls p (InWhere f r ds n xs t b ∷ K) e =
    to (AfterDef f r (keep_last r ds (Def n xs t b ls))) (skip e p) K
close_block ds p (InModule n is ∷ K) e = to (Done (Module n is ds)) (skip e p) K
close_block ds p K e = to (Done (Module (span 0 0) [] ds)) (skip e p) K

-- a whole expression is at hand, and a token after it
abbrev pub deliver : Tree → Past → List Frame → Word → ℕ → ℕ → Option State
deliver x p [] w s e = None
deliver x p (InArrow r i f ∷ K) w s e = deliver (Arrow (from i p) f (shallow (r - 1) x)) p K w s e
deliver x p (InBinder b r i xs ∷ K) w s e =
    deliver (bind b (from i p) xs (shallow (r - 1) x)) p K w s e
deliver x p (InPath r i ns ∷ K) w s e =
    deliver (PathLambda (from i p) ns (shallow (r - 1) x)) p K w s e
deliver x p (InLetBody r i ds ∷ K) w s e = deliver (Let (from i p) ds (shallow (r - 1) x)) p K w s e
deliver x p (InBracket slot i rc xs ∷ K) Comma s e =
    to (WantExp (rc - 1)) (skip e p) (InBracket slot i (rc - 1) (keep_last rc xs x) ∷ K)
deliver x p (InBracket slot i rc xs ∷ K) RightParen s e = to (Projected slot
    (room_of (place_of slot)) i (Brackets (span i e) (keep_last rc xs x)) []) (skip e p) K
deliver x p (InTele u r rt xs ns ∷ K) RightParen s e =
    to (AfterTele u r (rt - 1) (keep_last rt xs (Tele ns (shallow (rt - 1) x)))) (skip e p) K
deliver x p (InSide o r ss eqs ∷ K) Comma s e =
    to (WantSide o (r - 1) (keep_last r ss (Side eqs (shallow (r - 1) x))) []) (skip e p) K
deliver x p (InSide o r ss eqs ∷ K) RightBracket s e =
    to (owned o (keep_last r ss (Side eqs (shallow (r - 1) x))) (skip e p)) (skip e p) K
deliver x p (InType f r ds n xs ∷ K) Equals s e =
    to (WantExp r) (skip e p) (InBody f r ds n xs x ∷ K)
deliver x p (InBody f r ds n xs t ∷ K) Next s e =
    to (WantDef f (r - f) (keep_last r ds (Def n xs t x none))) (skip e p) K
deliver x p (InBody f r ds n xs t ∷ K) WhereWord s e =
    to (WantBlock (r - 1)) (skip e p) (InWhere f r ds n xs t x ∷ K)
deliver x p (InBody f r ds n xs t ∷ K) Close s e =
    close_block (keep_last r ds (Def n xs t x none)) p K e
deliver x p (frame ∷ K) w s e = None

-- the start of an exp5
abbrev pub step_exp5 : Slot → Past → List Frame → Word → ℕ → ℕ → Option State
step_exp5 slot p K Identifier s e = to (Projected slot (room_of (place_of slot)) s
    (Name (span s e)) []) (begin (room_of (place_of slot)) s e p) K
step_exp5 slot p K UniverseWord s e = to (Projected slot (room_of (place_of slot)) s
    (Universe (span s e)) []) (begin (room_of (place_of slot)) s e p) K
step_exp5 slot p K LeftParen s e = to (WantExp (room_of (place_of slot) - 1)) (begin
    (room_of (place_of slot)) s e p) (InBracket slot s (room_of (place_of slot) - 1) none ∷ K)
step_exp5 slot p K w s e = None

abbrev pub step_exp3 : Place → Past → List Frame → Word → ℕ → ℕ → Option State
step_exp3 pl p K (Form w) s e = to (WantExp4 (FirstOf w s pl)) (begin (room_of pl) s e p) K
step_exp3 pl p K w s e = step_exp5 (Whole pl) p K w s e

abbrev pub step_exp1 : ℕ → Past → List Frame → Word → ℕ → ℕ → Option State
step_exp1 r p K LeftParen s e = to (Opened r s) (begin r s e p) K
step_exp1 r p K w s e = step_exp3 (Head r s) p K w s e

abbrev pub step_exp : ℕ → Past → List Frame → Word → ℕ → ℕ → Option State
step_exp r p K LetWord s e = to (WantBlock (r - 1)) (begin r s e p) (InLet r s ∷ K)
step_exp r p K Backslash s e = to (WantTele r s) (begin r s e p) K
step_exp r p K Less s e = to (WantPathName r s) (begin r s e p) K
step_exp r p K w s e = step_exp1 r p K w s e

-- after an exp3
abbrev pub step_spined : ℕ → ℕ → ℕ → Tree → Trees → Past → List Frame → Word → ℕ → ℕ → Option State
step_spined r rn i f es p K AtSign s e =
    to (WantNeg (Element r rn i f es) s [] rn) (begin rn s e p) K
step_spined r rn i f es p K To s e =
    to (WantExp1 (r - 1)) (skip e p) (InArrow r i (applied (from i p) f es) ∷ K)
step_spined r rn i f es p K Identifier s e =
    step_exp5 (Whole (Element r rn i f es)) p K Identifier s e
step_spined r rn i f es p K UniverseWord s e =
    step_exp5 (Whole (Element r rn i f es)) p K UniverseWord s e
step_spined r rn i f es p K LeftParen s e =
    step_exp5 (Whole (Element r rn i f es)) p K LeftParen s e
step_spined r rn i f es p K (Form w) s e = step_exp3 (Element r rn i f es) p K (Form w) s e
step_spined r rn i f es p K w s e = deliver (applied (from i p) f es) p K w s e

abbrev pub step_system : Owner → Past → List Frame → Word → ℕ → ℕ → Option State
step_system o p K LeftBracket s e = to (SystemStart o) (skip e p) K
step_system o p K w s e = None

-- after a part that was put into its place
abbrev pub step_given : Top → Past → List Frame → Word → ℕ → ℕ → Option State
step_given (Spined r rn i f es) p K w s e = step_spined r rn i f es p K w s e
step_given (WantExp4 slot) p K w s e = step_exp5 slot p K w s e
step_given (WantSystem o) p K w s e = step_system o p K w s e
step_given top p K w s e = None

-- after an exp5 and its projections
abbrev pub step_projected : Slot → ℕ → ℕ → Tree → List Projection
    → Past → List Frame → Word → ℕ → ℕ → Option State
step_projected slot rn i x hs p K (Dot h) s e =
    to (Projected slot (rn - 1) i x (hs ++ half h (span s e) ∷ [])) (begin rn s e p) K
step_projected slot rn i x hs p K w s e =
    step_given (give slot (projected (from i p) x hs) p) p K w s e

-- a bracket was opened at the start of an exp1
abbrev pub step_opened : ℕ → ℕ → Past → List Frame → Word → ℕ → ℕ → Option State
step_opened r i p K Identifier s e =
    to (Maybe r i (span s e ∷ []) (r - 1) (Head (r - 1) s) (span s e) (note (r - 1) s p.deep))
    (begin r s e p) K
step_opened r i p K w s e = step_exp (r - 1) p (in_bracket r i K) w s e

-- names stand in it, of a tele or of an application
abbrev pub step_maybe : ℕ → ℕ → List Span → ℕ → Place → Span
    → Option ℕ → Past → List Frame → Word → ℕ → ℕ → Option State
step_maybe r i ns rn pl n d p K Identifier s e =
    to (Maybe r i (ns ++ span s e ∷ []) (rn - 1) (after pl (Name n))
    (span s e) (note (room_of (after pl (Name n))) s d)) (begin rn s e p) K
step_maybe r i ns rn pl n d p K Colon s e =
    to (WantExp (r - 1)) (skip e p) (InTele (ForProduct i) r r none ns ∷ K)
step_maybe r i ns rn pl n d p K w s e =
    step_projected (Whole pl) (room_of pl) n.start (Name n) []
    (record { end = p.end; deep = d }) (in_bracket r i K) w s e

abbrev pub step_more : Use → ℕ → ℕ → Trees → List Span
    → ℕ → Past → List Frame → Word → ℕ → ℕ → Option State
step_more u r rt xs ns rn p K Identifier s e =
    to (TeleMore u r rt xs (ns ++ span s e ∷ []) (rn - 1)) (begin rn s e p) K
step_more u r rt xs ns rn p K Colon s e = to (WantExp (rt - 1)) (skip e p) (InTele u r rt xs ns ∷ K)
step_more u r rt xs ns rn p K w s e = None

-- after teles, or a definition's name
abbrev pub step_teles : Use → ℕ → ℕ → Trees → Past → List Frame → Word → ℕ → ℕ → Option State
step_teles u r rt xs p K LeftParen s e = to (TeleName u r rt xs) (begin rt s e p) K
step_teles (ForLambda i) r rt xs p K To s e =
    to (WantExp (r - 1)) (skip e p) (InBinder OfLambda r i xs ∷ K)
step_teles (ForProduct i) r rt xs p K To s e =
    to (WantExp1 (r - 1)) (skip e p) (InBinder OfPi r i xs ∷ K)
step_teles (ForProduct i) r rt xs p K Star s e =
    to (WantExp1 (r - 1)) (skip e p) (InBinder OfSigma r i xs ∷ K)
step_teles (ForDef f ds n) r rt xs p K Colon s e =
    to (WantExp r) (skip e p) (InType f r ds n xs ∷ K)
step_teles u r rt xs p K w s e = None

abbrev pub step_path : ℕ → ℕ → List Span → ℕ → Past → List Frame → Word → ℕ → ℕ → Option State
step_path r i ns rn p K Identifier s e =
    to (PathName r i (ns ++ span s e ∷ []) (rn - 1)) (begin rn s e p) K
step_path r i ns rn p K Greater s e = to (WantExp (r - 1)) (skip e p) (InPath r i ns ∷ K)
step_path r i ns rn p K w s e = None

-- a definition's name
abbrev pub step_def : ℕ → ℕ → Trees → Past → List Frame → Word → ℕ → ℕ → Option State
step_def f r ds p K Identifier s e =
    to (AfterTele (ForDef f ds (span s e)) r r none) (begin r s e p) K
step_def f r ds p K w s e = None

abbrev pub step_item : Span → List Span → Past → List Frame → Word → ℕ → ℕ → Option State
step_item n is p K ImportWord s e = to (WantImport n is) (skip e p) K
step_item n is p K w s e = step_def 0 limit none p (InModule n is ∷ K) w s e

-- the start of a neg
abbrev pub step_neg : Place → ℕ → List Inner → ℕ → Past → List Frame → Word → ℕ → ℕ → Option State
step_neg pl i F r p K Minus s e = to (WantNeg pl i (InNegation r s ∷ F) (r - 1)) (begin r s e p) K
step_neg pl i F r p K LeftParen s e = to (WantNeg pl i (InParens r s ∷ F) (r - 1)) (begin r s e p) K
step_neg pl i F r p K (EndOf x) s e =
    to (HaveNeg pl i F r s (constant x (span s e))) (begin r s e p) K
step_neg pl i F r p K Identifier s e =
    to (HaveNeg pl i F r s (Variable (span s e))) (begin r s e p) K
step_neg pl i F r p K w s e = None

-- after a formula, which no operand follows
abbrev pub after_formula : Place → ℕ → List Inner → Formula
    → Past → List Frame → Word → ℕ → ℕ → Option State
after_formula pl i [] f p K w s e = step_given (put pl (At (from i p) f)) p K w s e
after_formula pl i (InNegation r j ∷ F) f p K w s e =
    after_formula pl i F (Negate (from j p) (shallow_formula (r - 1) f)) p K w s e
after_formula pl i (InMeet r j g ∷ F) f p K w s e =
    after_formula pl i F (Meet (from j p) g (shallow_formula (r - 1) f)) p K w s e
after_formula pl i (InJoin r j g ∷ F) f p K w s e =
    after_formula pl i F (Join (from j p) g (shallow_formula (r - 1) f)) p K w s e
after_formula pl i (InParens r j ∷ F) f p K RightParen s e =
    to (HaveNeg pl i F r j (shallow_formula (r - 1) f)) (skip e p) K
after_formula pl i (InParens r j ∷ F) f p K w s e = None

-- after a conj, which no "/\" follows; r is its room and b where it starts
abbrev pub after_conj : Place → ℕ → List Inner → ℕ → ℕ
    → Formula → Past → List Frame → Word → ℕ → ℕ → Option State
after_conj pl i (InNegation r j ∷ F) r' b f p K w s e =
    after_conj pl i F r j (Negate (from j p) (shallow_formula (r - 1) f)) p K w s e
after_conj pl i (InMeet r j g ∷ F) r' b f p K w s e =
    after_conj pl i F r j (Meet (from j p) g (shallow_formula (r - 1) f)) p K w s e
after_conj pl i F r b f p K Or s e = to (WantNeg pl i (InJoin r b f ∷ F) (r - 1)) (skip e p) K
after_conj pl i F r b f p K w s e = after_formula pl i F f p K w s e

-- after a neg
abbrev pub after_neg : Place → ℕ → List Inner → ℕ → ℕ
    → Formula → Past → List Frame → Word → ℕ → ℕ → Option State
after_neg pl i (InNegation r j ∷ F) r' b f p K w s e =
    after_neg pl i F r j (Negate (from j p) (shallow_formula (r - 1) f)) p K w s e
after_neg pl i F r b f p K And s e = to (WantNeg pl i (InMeet r b f ∷ F) (r - 1)) (skip e p) K
after_neg pl i F r b f p K w s e = after_conj pl i F r b f p K w s e

-- the start of a side, or after an equation of it
abbrev pub step_side : Owner → ℕ → Trees → List Equation
    → Past → List Frame → Word → ℕ → ℕ → Option State
step_side o r ss eqs p K LeftParen s e = to (EquationName o r ss eqs) (begin r s e p) K
step_side o r ss eqs p K To s e = to (WantExp (r - 1)) (begin r s e p) (InSide o r ss eqs ∷ K)
step_side o r ss eqs p K w s e = None

abbrev pub step : Top → Past → List Frame → Word → ℕ → ℕ → Option State
step WantModule p K ModuleWord s e = to WantModuleName (skip e p) K
step WantModuleName p K Identifier s e = to (WantModuleWhere (span s e)) (skip e p) K
step (WantModuleWhere n) p K WhereWord s e = to (WantModuleOpen n) (skip e p) K
step (WantModuleOpen n) p K Open s e = to (FirstItem n) (skip e p) K
step (FirstItem n) p K Close s e = to (Done (Module n [] none)) (skip e p) K
step (FirstItem n) p K w s e = step_item n [] p K w s e
step (WantImport n is) p K Identifier s e = to (AfterImport n (is ++ span s e ∷ [])) (skip e p) K
step (AfterImport n is) p K Next s e = to (NextItem n is) (skip e p) K
step (AfterImport n is) p K Close s e = to (Done (Module n is none)) (skip e p) K
step (NextItem n is) p K w s e = step_item n is p K w s e
step (WantDef f r ds) p K w s e = step_def f r ds p K w s e
step (AfterDef f r ds) p K Next s e = to (WantDef f (r - f) ds) (skip e p) K
step (AfterDef f r ds) p K Close s e = close_block ds p K e
step (WantBlock r) p K Open s e = to (BlockStart r) (skip e p) K
step (BlockStart r) p K Close s e = close_block none p K e
step (BlockStart r) p K w s e = step_def 1 r none p K w s e
step (WantIn r i ds) p K InWord s e = to (WantExp (r - 1)) (skip e p) (InLetBody r i ds ∷ K)
step (WantExp r) p K w s e = step_exp r p K w s e
step (WantExp1 r) p K w s e = step_exp1 r p K w s e
step (WantPathName r i) p K Identifier s e =
    to (PathName r i (span s e ∷ []) (r - 1)) (begin r s e p) K
step (PathName r i ns rn) p K w s e = step_path r i ns rn p K w s e
step (WantTele r i) p K LeftParen s e = to (TeleName (ForLambda i) r r none) (begin r s e p) K
step (TeleName u r rt xs) p K Identifier s e =
    to (TeleMore u r rt xs (span s e ∷ []) (rt - 1)) (begin rt s e p) K
step (TeleMore u r rt xs ns rn) p K w s e = step_more u r rt xs ns rn p K w s e
step (AfterTele u r rt xs) p K w s e = step_teles u r rt xs p K w s e
step (Opened r i) p K w s e = step_opened r i p K w s e
step (Maybe r i ns rn pl n d) p K w s e = step_maybe r i ns rn pl n d p K w s e
step (WantExp4 slot) p K w s e = step_exp5 slot p K w s e
step (Projected slot rn i x hs) p K w s e = step_projected slot rn i x hs p K w s e
step (Spined r rn i f es) p K w s e = step_spined r rn i f es p K w s e
step (WantNeg pl i F r) p K w s e = step_neg pl i F r p K w s e
step (HaveNeg pl i F r b f) p K w s e = after_neg pl i F r b f p K w s e
step (WantSystem o) p K w s e = step_system o p K w s e
step (SystemStart o) p K RightBracket s e = to (owned o none (skip e p)) (skip e p) K
step (SystemStart o) p K w s e = step_side o (owner_room o) none [] p K w s e
step (WantSide o r ss eqs) p K w s e = step_side o r ss eqs p K w s e
step (EquationName o r ss eqs) p K Identifier s e =
    to (EquationSign o r ss eqs (span s e)) (skip e p) K
step (EquationSign o r ss eqs n) p K Equals s e = to (EquationEnd o r ss eqs n) (skip e p) K
step (EquationEnd o r ss eqs n) p K (EndOf x) s e =
    to (EquationClose o r ss (eqs ++ equation n x ∷ [])) (skip e p) K
step (EquationClose o r ss eqs) p K RightParen s e = to (WantSide o r ss eqs) (skip e p) K
step top p K w s e = None

-- the end of the text after a whole expression; the last line is of frames in which no expression
-- stands right, and no text leads there
abbrev pub finish_exp : Tree → Past → List Frame → Option Tree
finish_exp x p [] = Some x
finish_exp x p (InArrow r i f ∷ K) = finish_exp (Arrow (from i p) f (shallow (r - 1) x)) p K
finish_exp x p (InBinder b r i xs ∷ K) = finish_exp (bind b (from i p) xs (shallow (r - 1) x)) p K
finish_exp x p (InPath r i ns ∷ K) = finish_exp (PathLambda (from i p) ns (shallow (r - 1) x)) p K
finish_exp x p (InLetBody r i ds ∷ K) = finish_exp (Let (from i p) ds (shallow (r - 1) x)) p K
finish_exp x p (InBracket slot i rc xs ∷ K) = None
finish_exp x p (InTele u r rt xs ns ∷ K) = None
finish_exp x p (InSide o r ss eqs ∷ K) = None
finish_exp x p (InType f r ds n xs ∷ K) = None
finish_exp x p (InBody f r ds n xs t ∷ K) = None
finish_exp x p (frame ∷ K) = Some x

abbrev pub finish_given : Top → Past → List Frame → Option Tree
finish_given (Spined r rn i f es) p K = finish_exp (applied (from i p) f es) p K
finish_given top p K = None

abbrev pub finish_formula : Place → ℕ → List Inner → Formula → Past → List Frame → Option Tree
finish_formula pl i [] f p K = finish_given (put pl (At (from i p) f)) p K
finish_formula pl i (InNegation r j ∷ F) f p K =
    finish_formula pl i F (Negate (from j p) (shallow_formula (r - 1) f)) p K
finish_formula pl i (InMeet r j g ∷ F) f p K =
    finish_formula pl i F (Meet (from j p) g (shallow_formula (r - 1) f)) p K
finish_formula pl i (InJoin r j g ∷ F) f p K =
    finish_formula pl i F (Join (from j p) g (shallow_formula (r - 1) f)) p K
finish_formula pl i (InParens r j ∷ F) f p K = None

abbrev pub finish : Top → Past → List Frame → Option Tree
finish (Projected slot rn i x hs) p K = finish_given (give slot (projected (from i p) x hs) p) p K
finish (Spined r rn i f es) p K = finish_exp (applied (from i p) f es) p K
finish (HaveNeg pl i F r b f) p K = finish_formula pl i F f p K
finish (Done m) p K = Some m
finish top p K = None

abbrev pub and_step : Option State → Piece → Option State
and_step None t = None
and_step (Some s) (piece w i e) = step s.top s.past s.stack w i e

abbrev pub run : Option State → List Piece → Option State
run s [] = s
run s (t ∷ ts) = run (and_step s t) ts

abbrev pub start_module : Option State
start_module = to WantModule nothing []

abbrev pub start_exp : Option State
start_exp = to (WantExp limit) nothing []
