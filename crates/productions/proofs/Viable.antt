-- Each state completes.
use Rattle.std.proofs.Common.{ℕ, ◌-◌, List, [], ◌∷◌, ◌++◌}
use Rattle.layout_lexer.specs.declared.token.Span.{Span}
use Rattle.syntax.specs.declared.formula.End.TheVariants as E
use Rattle.syntax.specs.declared.formula.Equation.{Equation}
use Rattle.syntax.specs.declared.formula.Projection.{Projection}
use Rattle.syntax.specs.Tree.{Formula, Variable, Negate, Meet, Join, Tree, Let, Lambda, PathLambda, Pi, Arrow, Name, Brackets, At, Tele, Side, Def, Module, Trees, none, and}
use Rattle.productions.specs.Words.{PathWord, ComposingWord, TransportWord, Pairing, PairingWord, GluingWord, Word, Open, Close, LeftParen, RightParen, LeftBracket, RightBracket, Colon, Equals, Greater, To, EndOf, ModuleWord, WhereWord, InWord, Identifier, Piece, piece, span}
use Rattle.productions.specs.Grammar.{limit, begin, skip, from, kept, shallow, shallow_formula, applied, projected, equation, no_projection, conj, IsExp, exp1, IsExp1, exp2, apply, no_element, exp4, IsExp4, project, name, no_component, no_tele, empty_system, no_side, no_def}
use Rattle.productions.specs.Machine.{keep_last, Place, Head, Element, room_of, Slot, Whole, FirstOf, SecondOf, ThirdOf, place_of, Owner, OfComposing, OfGluing, Use, ForLambda, ForProduct, ForDef, Frame, InBracket, InTele, InArrow, InBinder, InPath, InLet, InLetBody, InSide, InType, InBody, InWhere, InModule, Inner, InNegation, InMeet, InJoin, InParens, IsNoNegation, IsNoOperand, Top, WantModule, WantModuleName, WantModuleWhere, WantModuleOpen, FirstItem, WantImport, AfterImport, NextItem, WantDef, AfterDef, WantBlock, BlockStart, WantIn, Done, WantExp, WantExp1, WantPathName, PathName, WantTele, TeleName, TeleMore, AfterTele, Opened, Maybe, WantExp4, Projected, Spined, WantNeg, HaveNeg, WantSystem, SystemStart, WantSide, EquationName, EquationSign, EquationEnd, EquationClose, in_bracket, put, give, owned, bind, step}
use Rattle.productions.specs.declared.past.Past.{Past}
use Rattle.productions.proofs.Meaning.{whole, parens_close, IsStrayBlock, After, arrow_ends, binder_ends, path_ends, let_ends, bracket_closes, tele_closes, side_ends, type_ends, body_ends, defs_on, AfterBlock, block_closes, let_block, where_block, stray_block, module_block, TelesOn, to_lambda, to_pi, to_def, Completes, no_items, no_more_imports, after_def, done, want_exp, want_exp1, after_tele, maybe_exp, want_exp4, projections, spine_ends, have_neg, want_system, no_sides, Now}
use Rattle.productions.proofs.Spines.{NegGiven, neg_given, ConjGiven, FormulaGiven, formula_given, negated_given, met_given, joined_given, conj_negated_given, conj_met_given, conj_ends_given, neg_negated_given, neg_ends_given}
use Rattle.productions.proofs.Both.{back, from_exp}
use Rattle.productions.proofs.Meaning.{alone, stray_let, stray_where, stray_module}

abbrev pub Viable : (List Piece → Tree → Past → Type 0) → Type 0
Viable P = (rest : List Piece) × (m : Tree) × (q : Past) × P rest m q

-- a token before what is viable
abbrev pub AfterAll : List Frame → Type 0
AfterAll K = (p : Past) (x : Tree) → Viable (After K p x)

abbrev pub BlockAll : List Frame → Type 0
BlockAll K = (ds : Trees) (p : Past) → Viable (AfterBlock ds p K)

an_exp4 : {r : ℕ} {p : Past} {rest : List Piece} → IsExp4 r p (piece Identifier 0 0 ∷ rest) rest (Name (span 0 0)) (begin r 0 0 p)
an_exp4 = project name no_projection

an_exp1 : {r : ℕ} {p : Past} {rest : List Piece} → IsExp1 r p (piece Identifier 0 0 ∷ rest) rest (Name (span 0 0)) (begin r 0 0 p)
an_exp1 = exp2 (apply (exp4 an_exp4) no_element)

an_exp : {r : ℕ} {p : Past} {rest : List Piece} → IsExp r p (piece Identifier 0 0 ∷ rest) rest (Name (span 0 0)) (begin r 0 0 p)
an_exp = exp1 an_exp1

-- parts in their places
spined_viable : {K : List Frame} → AfterAll K → (r rn i : ℕ) (f : Tree) (es : Trees) (p : Past) → Viable (Completes (Spined r rn i f es) p K)
spined_viable all r rn i f es p = let v = all p (applied (from i p) f (and es none)) in (v.0, v.1, v.2, spine_ends no_element v.3)

put_viable : {K : List Frame} → AfterAll K → (pl : Place) (x : Tree) (p : Past) → Viable (Completes (put pl x) p K)
put_viable all (Head r i) x p = spined_viable all r r i x none p
put_viable all (Element r rn i f es) x p = spined_viable all r (rn - 1) i f (keep_last rn es x) p

owned_viable : {K : List Frame} → AfterAll K → (o : Owner) (ss : Trees) (u p : Past) → Viable (Completes (owned o ss u) p K)
owned_viable all (OfComposing w s x y pl) ss u p = put_viable all pl _ p
owned_viable all (OfGluing w s x pl) ss u p = put_viable all pl _ p

system_viable : {K : List Frame} → AfterAll K → (o : Owner) (p : Past) → Viable (Completes (WantSystem o) p K)
system_viable all o p =
    let u = skip 0 (skip 0 p) in
    let v = owned_viable all o none u u in
    (piece LeftBracket 0 0 ∷ piece RightBracket 0 0 ∷ v.0, v.1, v.2, want_system empty_system v.3)

exp4_viable : {K : List Frame} (slot : Slot) → ((x : Tree) (u : Past) → Viable (Completes (give slot x u) u K)) → (p : Past) → Viable (Completes (WantExp4 slot) p K)
exp4_viable slot given p =
    let v = given (Name (span 0 0)) (begin (room_of (place_of slot)) 0 0 p) in
    (piece Identifier 0 0 ∷ v.0, v.1, v.2, want_exp4 an_exp4 v.3)

second_viable : {K : List Frame} → AfterAll K → (w : Pairing) (s : ℕ) (x : Tree) (pl : Place) (y : Tree) (u : Past) → Viable (Completes (give (SecondOf w s x pl) y u) u K)
second_viable all PathWord s x pl y u = exp4_viable (ThirdOf s x y pl) (λ z v. put_viable all pl _ v) u
second_viable all (ComposingWord w) s x pl y u = system_viable all (OfComposing w s x y pl) u
second_viable all TransportWord s x pl y u = put_viable all pl _ u

given_viable : {K : List Frame} → AfterAll K → (slot : Slot) (x : Tree) (u : Past) → Viable (Completes (give slot x u) u K)
given_viable all (Whole pl) x u = put_viable all pl x u
given_viable all (FirstOf (PairingWord w) s pl) x u = exp4_viable (SecondOf w s x pl) (second_viable all w s x pl) u
given_viable all (FirstOf (GluingWord w) s pl) x u = system_viable all (OfGluing w s x pl) u
given_viable all (SecondOf w s x pl) y u = second_viable all w s x pl y u
given_viable all (ThirdOf s x y pl) z u = put_viable all pl _ u

projected_viable : {K : List Frame} → AfterAll K → (slot : Slot) (rn i : ℕ) (x : Tree) (hs : List Projection) (p : Past) → Viable (Completes (Projected slot rn i x hs) p K)
projected_viable all slot rn i x hs p =
    let v = given_viable all slot (projected (from i p) x (hs ++ [])) p in (v.0, v.1, v.2, projections no_projection v.3)

-- definitions, and teles
type_viable : {K : List Frame} → BlockAll K → (f r : ℕ) (ds : Trees) (n : Span) (xs : Trees) (p : Past) (t : Tree) → Viable (After (InType f r ds n xs ∷ K) p t)
type_viable blocks f r ds n xs p t =
    let u = begin r 0 0 (skip 0 p) in
    let v = blocks (and (keep_last r ds (Def n xs t (Name (span 0 0)) none)) none) u in
    (piece Equals 0 0 ∷ piece Identifier 0 0 ∷ v.0, v.1, v.2, type_ends an_exp (body_ends (defs_on no_def v.3)))

teles_viable : {K : List Frame} → AfterAll K → BlockAll K → (u : Use) (r rt : ℕ) (xs : Trees) (p : Past) → Viable (TelesOn u r rt xs p K)
teles_viable all blocks (ForLambda i) r rt xs p =
    let u = begin (r - 1) 0 0 (skip 0 p) in
    let v = all u (Lambda (from i u) (and xs none) (shallow (r - 1) (Name (span 0 0)))) in
    (piece To 0 0 ∷ piece Identifier 0 0 ∷ v.0, v.1, v.2, to_lambda no_tele an_exp v.3)
teles_viable all blocks (ForProduct i) r rt xs p =
    let u = begin (r - 1) 0 0 (skip 0 p) in
    let v = all u (Pi (from i u) (and xs none) (shallow (r - 1) (Name (span 0 0)))) in
    (piece To 0 0 ∷ piece Identifier 0 0 ∷ v.0, v.1, v.2, to_pi no_tele an_exp1 v.3)
teles_viable all blocks (ForDef f ds n) r rt xs p =
    let v = type_viable blocks f r ds n (and xs none) (begin r 0 0 (skip 0 p)) (Name (span 0 0)) in
    (piece Colon 0 0 ∷ piece Identifier 0 0 ∷ v.0, v.1, v.2, to_def no_tele an_exp v.3)

-- stacks
stray : (K : List Frame) → IsStrayBlock K → BlockAll K
stray K h ds p = (piece Close 0 0 ∷ [], Module (span 0 0) [] ds, skip 0 p, block_closes (stray_block h))

mutual
  after_all : (K : List Frame) → AfterAll K
  after_all [] p x = ([], x, p, alone)
  after_all (InLet r i ∷ K) p x = ([], x, p, stray_let)
  after_all (InWhere f r ds n xs t b ∷ K) p x = ([], x, p, stray_where)
  after_all (InModule n is ∷ K) p x = ([], x, p, stray_module)
  after_all (InArrow r i f ∷ K) p x = let v = after_all K p (Arrow (from i p) f (shallow (r - 1) x)) in (v.0, v.1, v.2, arrow_ends v.3)
  after_all (InBinder b r i xs ∷ K) p x = let v = after_all K p (bind b (from i p) xs (shallow (r - 1) x)) in (v.0, v.1, v.2, binder_ends v.3)
  after_all (InPath r i ns ∷ K) p x = let v = after_all K p (PathLambda (from i p) ns (shallow (r - 1) x)) in (v.0, v.1, v.2, path_ends v.3)
  after_all (InLetBody r i ds ∷ K) p x = let v = after_all K p (Let (from i p) ds (shallow (r - 1) x)) in (v.0, v.1, v.2, let_ends v.3)
  after_all (InBracket slot i rc xs ∷ K) p x =
      let v = projected_viable (after_all K) slot (room_of (place_of slot)) i (Brackets (span i 0) (and xs (kept rc x none))) [] (skip 0 p) in
      (piece RightParen 0 0 ∷ v.0, v.1, v.2, bracket_closes no_component v.3)
  after_all (InTele u r rt xs ns ∷ K) p x =
      let v = teles_viable (after_all K) (block_all K) u r (rt - 1) (keep_last rt xs (Tele ns (shallow (rt - 1) x))) (skip 0 p) in
      (piece RightParen 0 0 ∷ v.0, v.1, v.2, tele_closes v.3)
  after_all (InSide o r ss eqs ∷ K) p x =
      let v = owned_viable (after_all K) o (and ss (kept r (Side eqs (shallow (r - 1) x)) none)) (skip 0 p) (skip 0 p) in
      (piece RightBracket 0 0 ∷ v.0, v.1, v.2, side_ends no_side v.3)
  after_all (InType f r ds n xs ∷ K) p x = type_viable (block_all K) f r ds n xs p x
  after_all (InBody f r ds n xs t ∷ K) p x =
      let v = block_all K (and (keep_last r ds (Def n xs t x none)) none) p in (v.0, v.1, v.2, body_ends (defs_on no_def v.3))

  block_all : (K : List Frame) → BlockAll K
  block_all (InLet r i ∷ K) ds p =
      let u = begin (r - 1) 0 0 (skip 0 (skip 0 p)) in
      let v = after_all K u (Let (from i u) ds (shallow (r - 1) (Name (span 0 0)))) in
      (piece Close 0 0 ∷ piece InWord 0 0 ∷ piece Identifier 0 0 ∷ v.0, v.1, v.2, block_closes (let_block an_exp v.3))
  block_all (InWhere f r es n xs t b ∷ K) ds p =
      let v = block_all K (and (keep_last r es (Def n xs t b ds)) none) (skip 0 p) in
      (piece Close 0 0 ∷ v.0, v.1, v.2, block_closes (where_block (defs_on no_def v.3)))
  block_all (InModule n is ∷ K) ds p = (piece Close 0 0 ∷ [], Module n is ds, skip 0 p, block_closes module_block)
  block_all [] ds p = stray [] tt ds p
  block_all (InBracket slot i rc xs ∷ K) ds p = stray (InBracket slot i rc xs ∷ K) tt ds p
  block_all (InTele u r rt xs ns ∷ K) ds p = stray (InTele u r rt xs ns ∷ K) tt ds p
  block_all (InArrow r i f ∷ K) ds p = stray (InArrow r i f ∷ K) tt ds p
  block_all (InBinder b r i xs ∷ K) ds p = stray (InBinder b r i xs ∷ K) tt ds p
  block_all (InPath r i ns ∷ K) ds p = stray (InPath r i ns ∷ K) tt ds p
  block_all (InLetBody r i es ∷ K) ds p = stray (InLetBody r i es ∷ K) tt ds p
  block_all (InSide o r ss eqs ∷ K) ds p = stray (InSide o r ss eqs ∷ K) tt ds p
  block_all (InType f r es n xs ∷ K) ds p = stray (InType f r es n xs ∷ K) tt ds p
  block_all (InBody f r es n xs t ∷ K) ds p = stray (InBody f r es n xs t ∷ K) tt ds p

-- formulas
pub record OnAll (pl : Place) (i : ℕ) (K : List Frame) (F : List Inner) : Type 0 where
  pub of_neg : (r b : ℕ) (f : Formula) (p : Past) → Viable (NegGiven pl i F r b f p K)
  pub of_conj : (r b : ℕ) (f : Formula) (p : Past) → Viable (ConjGiven pl i F r b f p K)
  pub of_formula : (f : Formula) (p : Past) → Viable (FormulaGiven pl i F f p K)

ended_all : (pl : Place) (i : ℕ) (K : List Frame) (F : List Inner) → IsNoOperand F → IsNoNegation F
    → ((f : Formula) (p : Past) → Viable (FormulaGiven pl i F f p K)) → OnAll pl i K F
ended_all pl i K F free free' all = record {
  of_neg = λ r b f p. let v = all f p in (v.0, v.1, v.2, neg_ends_given free' (conj_ends_given free v.3));
  of_conj = λ r b f p. let v = all f p in (v.0, v.1, v.2, conj_ends_given free v.3);
  of_formula = all;
}

closes : {pl : Place} {i : ℕ} {K : List Frame} {F : List Inner} {r j : ℕ} {f : Formula} {p : Past} {ts : List Piece} {m : Tree} {q : Past}
    → NegGiven pl i F r j (shallow_formula (r - 1) f) (skip 0 p) K ts m q → FormulaGiven pl i (InParens r j ∷ F) f p K (piece RightParen 0 0 ∷ ts) m q
closes (neg_given on c) = formula_given (parens_close on) c

on_all : (pl : Place) (i : ℕ) (K : List Frame) (F : List Inner) → OnAll pl i K F
on_all pl i K [] = ended_all pl i K [] tt tt (λ f p. let v = put_viable (after_all K) pl (At (from i p) f) p in (v.0, v.1, v.2, formula_given whole v.3))
on_all pl i K (InNegation r j ∷ F) =
    let all = on_all pl i K F in
    record {
      of_neg = λ r' b f p. let v = all.of_neg r j (Negate (from j p) (shallow_formula (r - 1) f)) p in (v.0, v.1, v.2, neg_negated_given v.3);
      of_conj = λ r' b f p. let v = all.of_conj r j (Negate (from j p) (shallow_formula (r - 1) f)) p in (v.0, v.1, v.2, conj_negated_given v.3);
      of_formula = λ f p. let v = all.of_formula (Negate (from j p) (shallow_formula (r - 1) f)) p in (v.0, v.1, v.2, negated_given v.3);
    }
on_all pl i K (InMeet r j g ∷ F) =
    let all = on_all pl i K F in
    let conj : (r' b : ℕ) (f : Formula) (p : Past) → Viable (ConjGiven pl i (InMeet r j g ∷ F) r' b f p K) =
    λ r' b f p. let v = all.of_conj r j (Meet (from j p) g (shallow_formula (r - 1) f)) p in (v.0, v.1, v.2, conj_met_given v.3) in
    record {
      of_neg = λ r' b f p. let v = conj r' b f p in (v.0, v.1, v.2, neg_ends_given tt v.3);
      of_conj = conj;
      of_formula = λ f p. let v = all.of_formula (Meet (from j p) g (shallow_formula (r - 1) f)) p in (v.0, v.1, v.2, met_given v.3);
    }
on_all pl i K (InJoin r j g ∷ F) =
    let all = on_all pl i K F in
    ended_all pl i K (InJoin r j g ∷ F) tt tt (λ f p. let v = all.of_formula (Join (from j p) g (shallow_formula (r - 1) f)) p in (v.0, v.1, v.2, joined_given v.3))
on_all pl i K (InParens r j ∷ F) =
    let all = on_all pl i K F in
    ended_all pl i K (InParens r j ∷ F) tt tt
    (λ f p. let v = all.of_neg r j (shallow_formula (r - 1) f) (skip 0 p) in (piece RightParen 0 0 ∷ v.0, v.1, v.2, closes v.3))

pub have_of : {pl : Place} {i r b : ℕ} {F : List Inner} {f : Formula} {p q : Past} {K : List Frame} {ts : List Piece} {m : Tree}
    → NegGiven pl i F r b f p K ts m q → Completes (HaveNeg pl i F r b f) p K ts m q
have_of (neg_given on c) = have_neg on c

-- a state is viable if the one after some token is
by_step : (top : Top) (p : Past) (K : List Frame) (w : Word) → Viable (Now (step top p K w 0 0)) → Viable (Completes top p K)
by_step top p K w v = (piece w 0 0 ∷ v.0, v.1, v.2, back top p K w 0 0 v.3)

exp_viable : (r : ℕ) (p : Past) (K : List Frame) → Viable (Completes (WantExp r) p K)
exp_viable r p K =
    let v = after_all K (begin r 0 0 p) (Name (span 0 0)) in (piece Identifier 0 0 ∷ v.0, v.1, v.2, want_exp an_exp v.3)

tele_viable : (u : Use) (r rt : ℕ) (xs : Trees) (ns : List Span) (rn : ℕ) (p : Past) (K : List Frame) → Viable (Completes (TeleMore u r rt xs ns rn) p K)
tele_viable u r rt xs ns rn p K = by_step (TeleMore u r rt xs ns rn) p K Colon (exp_viable (rt - 1) (skip 0 p) (InTele u r rt xs ns ∷ K))

name_viable : (u : Use) (r rt : ℕ) (xs : Trees) (p : Past) (K : List Frame) → Viable (Completes (TeleName u r rt xs) p K)
name_viable u r rt xs p K = by_step (TeleName u r rt xs) p K Identifier (tele_viable u r rt xs (span 0 0 ∷ []) (rt - 1) (begin rt 0 0 p) K)

after_tele_viable : (u : Use) (r rt : ℕ) (xs : Trees) (p : Past) (K : List Frame) → Viable (Completes (AfterTele u r rt xs) p K)
after_tele_viable u r rt xs p K = let v = teles_viable (after_all K) (block_all K) u r rt xs p in (v.0, v.1, v.2, after_tele v.3)

def_viable : (f r : ℕ) (ds : Trees) (p : Past) (K : List Frame) → Viable (Completes (WantDef f r ds) p K)
def_viable f r ds p K = by_step (WantDef f r ds) p K Identifier (after_tele_viable (ForDef f ds (span 0 0)) r r none (begin r 0 0 p) K)

start_viable : (r : ℕ) (p : Past) (K : List Frame) → Viable (Completes (BlockStart r) p K)
start_viable r p K = by_step (BlockStart r) p K Identifier (after_tele_viable (ForDef 1 none (span 0 0)) r r none (begin r 0 0 p) K)

path_viable : (r i : ℕ) (ns : List Span) (rn : ℕ) (p : Past) (K : List Frame) → Viable (Completes (PathName r i ns rn) p K)
path_viable r i ns rn p K = by_step (PathName r i ns rn) p K Greater (exp_viable (r - 1) (skip 0 p) (InPath r i ns ∷ K))

side_viable : (o : Owner) (r : ℕ) (ss : Trees) (eqs : List Equation) (p : Past) (K : List Frame) → Viable (Completes (WantSide o r ss eqs) p K)
side_viable o r ss eqs p K = by_step (WantSide o r ss eqs) p K To (exp_viable (r - 1) (begin r 0 0 p) (InSide o r ss eqs ∷ K))

close_viable : (o : Owner) (r : ℕ) (ss : Trees) (eqs : List Equation) (p : Past) (K : List Frame) → Viable (Completes (EquationClose o r ss eqs) p K)
close_viable o r ss eqs p K = by_step (EquationClose o r ss eqs) p K RightParen (side_viable o r ss eqs (skip 0 p) K)

end_viable : (o : Owner) (r : ℕ) (ss : Trees) (eqs : List Equation) (n : Span) (p : Past) (K : List Frame) → Viable (Completes (EquationEnd o r ss eqs n) p K)
end_viable o r ss eqs n p K = by_step (EquationEnd o r ss eqs n) p K (EndOf E.Zero) (close_viable o r ss (eqs ++ equation n E.Zero ∷ []) (skip 0 p) K)

sign_viable : (o : Owner) (r : ℕ) (ss : Trees) (eqs : List Equation) (n : Span) (p : Past) (K : List Frame) → Viable (Completes (EquationSign o r ss eqs n) p K)
sign_viable o r ss eqs n p K = by_step (EquationSign o r ss eqs n) p K Equals (end_viable o r ss eqs n (skip 0 p) K)

first_viable : (n : Span) (p : Past) (K : List Frame) → Viable (Completes (FirstItem n) p K)
first_viable n p K = (piece Close 0 0 ∷ [], Module n [] none, skip 0 p, no_items)

imports_viable : (n : Span) (is : List Span) (p : Past) (K : List Frame) → Viable (Completes (AfterImport n is) p K)
imports_viable n is p K = (piece Close 0 0 ∷ [], Module n is none, skip 0 p, no_more_imports)

open_viable : (n : Span) (p : Past) (K : List Frame) → Viable (Completes (WantModuleOpen n) p K)
open_viable n p K = by_step (WantModuleOpen n) p K Open (first_viable n (skip 0 p) K)

where_viable : (n : Span) (p : Past) (K : List Frame) → Viable (Completes (WantModuleWhere n) p K)
where_viable n p K = by_step (WantModuleWhere n) p K WhereWord (open_viable n (skip 0 p) K)

module_viable : (p : Past) (K : List Frame) → Viable (Completes WantModuleName p K)
module_viable p K = by_step WantModuleName p K Identifier (where_viable (span 0 0) (skip 0 p) K)

neg_viable : (pl : Place) (i : ℕ) (F : List Inner) (r b : ℕ) (f : Formula) (p : Past) (K : List Frame) → Viable (Completes (HaveNeg pl i F r b f) p K)
neg_viable pl i F r b f p K = let v = (on_all pl i K F).of_neg r b f p in (v.0, v.1, v.2, have_of v.3)

pub viable : (top : Top) (p : Past) (K : List Frame) → Viable (Completes top p K)
viable WantModule p K = by_step WantModule p K ModuleWord (module_viable (skip 0 p) K)
viable WantModuleName p K = module_viable p K
viable (WantModuleWhere n) p K = where_viable n p K
viable (WantModuleOpen n) p K = open_viable n p K
viable (FirstItem n) p K = first_viable n p K
viable (WantImport n is) p K = by_step (WantImport n is) p K Identifier (imports_viable n (is ++ span 0 0 ∷ []) (skip 0 p) K)
viable (AfterImport n is) p K = imports_viable n is p K
viable (NextItem n is) p K = by_step (NextItem n is) p K Identifier (after_tele_viable (ForDef 0 none (span 0 0)) limit limit none (begin limit 0 0 p) (InModule n is ∷ K))
viable (WantDef f r ds) p K = def_viable f r ds p K
viable (AfterDef f r ds) p K = let v = block_all K (and ds none) p in (v.0, v.1, v.2, after_def (defs_on no_def v.3))
viable (WantBlock r) p K = by_step (WantBlock r) p K Open (start_viable r (skip 0 p) K)
viable (BlockStart r) p K = start_viable r p K
viable (WantIn r i ds) p K = by_step (WantIn r i ds) p K InWord (exp_viable (r - 1) (skip 0 p) (InLetBody r i ds ∷ K))
viable (Done m) p K = ([], m, p, done)
viable (WantExp r) p K = exp_viable r p K
viable (WantExp1 r) p K = let v = after_all K (begin r 0 0 p) (Name (span 0 0)) in (piece Identifier 0 0 ∷ v.0, v.1, v.2, want_exp1 an_exp1 v.3)
viable (WantPathName r i) p K = by_step (WantPathName r i) p K Identifier (path_viable r i (span 0 0 ∷ []) (r - 1) (begin r 0 0 p) K)
viable (PathName r i ns rn) p K = path_viable r i ns rn p K
viable (WantTele r i) p K = by_step (WantTele r i) p K LeftParen (name_viable (ForLambda i) r r none (begin r 0 0 p) K)
viable (TeleName u r rt xs) p K = name_viable u r rt xs p K
viable (TeleMore u r rt xs ns rn) p K = tele_viable u r rt xs ns rn p K
viable (AfterTele u r rt xs) p K = after_tele_viable u r rt xs p K
viable (Opened r i) p K = let v = exp_viable (r - 1) p (in_bracket r i K) in (v.0, v.1, v.2, from_exp v.3)
viable (Maybe r i ns rn pl n d) p K =
    let v = projected_viable (after_all (in_bracket r i K)) (Whole pl) (room_of pl) n.start (Name n) [] (record { end = p.end; deep = d }) in
    (v.0, v.1, v.2, maybe_exp v.3)
viable (WantExp4 slot) p K = exp4_viable slot (given_viable (after_all K) slot) p
viable (Projected slot rn i x hs) p K = projected_viable (after_all K) slot rn i x hs p
viable (Spined r rn i f es) p K = spined_viable (after_all K) r rn i f es p
viable (WantNeg pl i F r) p K = by_step (WantNeg pl i F r) p K Identifier (neg_viable pl i F r 0 (Variable (span 0 0)) (begin r 0 0 p) K)
viable (HaveNeg pl i F r b f) p K = neg_viable pl i F r b f p K
viable (WantSystem o) p K = system_viable (after_all K) o p
viable (SystemStart o) p K = let v = owned_viable (after_all K) o none (skip 0 p) (skip 0 p) in (piece RightBracket 0 0 ∷ v.0, v.1, v.2, no_sides v.3)
viable (WantSide o r ss eqs) p K = side_viable o r ss eqs p K
viable (EquationName o r ss eqs) p K = by_step (EquationName o r ss eqs) p K Identifier (sign_viable o r ss eqs (span 0 0) (skip 0 p) K)
viable (EquationSign o r ss eqs n) p K = sign_viable o r ss eqs n p K
viable (EquationEnd o r ss eqs n) p K = end_viable o r ss eqs n p K
viable (EquationClose o r ss eqs) p K = close_viable o r ss eqs p K
