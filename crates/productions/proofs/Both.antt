-- The step of each state keeps what completes.
use Rattle.std.proofs.Common.{ℕ, ◌-◌, List, [], ◌∷◌, ◌++◌, Option, sym, subst}
use Rattle.std.proofs.lemmas.List.{append-nil}
use Rattle.layout_lexer.specs.declared.token.Span.{Span}
use Rattle.syntax.specs.declared.formula.Equation.{Equation}
use Rattle.syntax.specs.Tree.{Tree, Name, Module, Trees, none}
use Rattle.productions.specs.Words.{Word, Open, Next, Close, LeftParen, RightParen, RightBracket, Colon, Equals, Star, Less, Greater, Backslash, To, EndOf, ModuleWord, WhereWord, ImportWord, LetWord, InWord, Identifier, Piece, piece}
use Rattle.productions.specs.Grammar.{limit, no_name, next_name, no_equation, next_equation, let_in, lambda, path_lambda, exp1, pi, sigma, arrow, exp2, apply, at, IsExp3, path_type, comp_or_fill, transport, glue, exp4, project, universe, name, brackets, tele, no_tele, next_tele, empty_block, block, IsDef, def, def_where, no_def, next_def, IsItems, last_import, next_import, defs}
use Rattle.productions.specs.Machine.{keep_last, Place, Head, Element, room_of, Whole, Owner, owner_room, Use, ForLambda, ForProduct, ForDef, Frame, InModule, Top, WantModule, WantModuleName, WantModuleWhere, WantModuleOpen, FirstItem, WantImport, AfterImport, NextItem, WantDef, AfterDef, WantBlock, BlockStart, WantIn, WantExp, WantExp1, WantPathName, PathName, WantTele, TeleName, TeleMore, AfterTele, Opened, Maybe, WantExp4, Projected, Spined, WantNeg, HaveNeg, WantSystem, SystemStart, WantSide, EquationName, EquationSign, EquationEnd, EquationClose, in_bracket, step_exp1, step_exp, step_projected, step_opened, step_maybe, step_more, step_teles, step_path, step_def, step_item, step_side, step}
use Rattle.productions.specs.declared.past.Past.{Past}
use Rattle.productions.proofs.Meaning.{binder_ends, path_ends, let_ends, bracket_closes, tele_closes, type_ends, body_ends, body_where, DefsOn, defs_on, AfterBlock, block_closes, let_block, stray_block, module_block, TelesOn, to_lambda, to_pi, to_sigma, to_def, Completes, module_word, module_name, module_where, module_open, no_items, first_items, next_items, want_import, more_imports, no_more_imports, want_def, after_def, want_block, no_defs, some_defs, want_in, done, want_exp, want_exp1, want_path_name, path_name, want_tele, tele_name, tele_more, after_tele, opened_exp, opened_tele, maybe_tele, maybe_exp, want_exp4, projections, spine_ends, spine_goes, want_neg, have_neg, want_system, no_sides, some_sides, want_side, equation_name, equation_sign, equation_end, equation_close, Now}
use Rattle.productions.proofs.Steps.{trees_none, kept_one, keep_more, list_more, close_back, block_forth, exp5_back, exp5_forth, Exp3On, exp3_on, exp3_back}
use Rattle.productions.proofs.Spines.{spined_back, spined_forth, system_back, system_forth, projected_back, projected_forth, want_neg_back, want_neg_forth, have_neg_back, have_neg_forth}

-- the start of an exp1
of_exp3 : {r : ℕ} {p : Past} {K : List Frame} {w : Word} {s e : ℕ} {ts : List Piece} {m : Tree} {q : Past}
    → Exp3On (Head r s) p K (piece w s e ∷ ts) m q → Completes (WantExp1 r) p K (piece w s e ∷ ts) m q
of_exp3 (exp3_on x (spine_ends xs a)) = want_exp1 (exp2 (apply x xs)) a
of_exp3 (exp3_on x (spine_goes xs y a)) = want_exp1 (arrow (apply x xs) y) a

exp1_back : (r : ℕ) (p : Past) (K : List Frame) (w : Word) (s e : ℕ) {ts : List Piece} {m : Tree} {q : Past}
    → Now (step_exp1 r p K w s e) ts m q → Completes (WantExp1 r) p K (piece w s e ∷ ts) m q
exp1_back r p K LeftParen s e (opened_exp x (bracket_closes xs (projections hs (spine_ends es a)))) =
    want_exp1 (exp2 (apply (exp4 (project (brackets x xs) hs)) es)) a
exp1_back r p K LeftParen s e (opened_exp x (bracket_closes xs (projections hs (spine_goes es y a)))) =
    want_exp1 (arrow (apply (exp4 (project (brackets x xs) hs)) es) y) a
exp1_back r p K LeftParen s e (opened_tele ns x (to_pi xs y a)) = want_exp1 (pi (tele ns x) xs y) (rw kept_one at a)
exp1_back r p K LeftParen s e (opened_tele ns x (to_sigma xs y a)) = want_exp1 (sigma (tele ns x) xs y) (rw kept_one at a)
exp1_back r p K w s e c = of_exp3 (exp3_back (Head r s) p K w s e c)

begun : {r : ℕ} {p u : Past} {K : List Frame} {w : Word} {s e : ℕ} {x : Tree} {ts a : List Piece} {m : Tree} {q : Past}
    → IsExp3 r p (piece w s e ∷ ts) a x u → Completes (Spined r r s x none) u K a m q → Now (step_exp1 r p K w s e) ts m q
begun (path_type x y z) c = want_exp4 x (want_exp4 y (want_exp4 z c))
begun (comp_or_fill x y ss) c = want_exp4 x (want_exp4 y (want_system ss c))
begun (transport x y) c = want_exp4 x (want_exp4 y c)
begun (glue x ss) c = want_exp4 x (want_system ss c)
begun (exp4 (project name hs)) c = projections hs c
begun (exp4 (project universe hs)) c = projections hs c
begun (exp4 (project (brackets x xs) hs)) c = opened_exp x (bracket_closes xs (projections hs c))

exp1_forth : {r : ℕ} {p : Past} {K : List Frame} {w : Word} {s e : ℕ} {ts : List Piece} {m : Tree} {q : Past}
    → Completes (WantExp1 r) p K (piece w s e ∷ ts) m q → Now (step_exp1 r p K w s e) ts m q
exp1_forth (want_exp1 (exp2 (apply x xs)) a) = begun x (spine_ends xs a)
exp1_forth (want_exp1 (arrow (apply x xs) y) a) = begun x (spine_goes xs y a)
exp1_forth (want_exp1 (pi (tele ns x) xs y) a) = opened_tele ns x (to_pi xs y (rw kept_one a))
exp1_forth (want_exp1 (sigma (tele ns x) xs y) a) = opened_tele ns x (to_sigma xs y (rw kept_one a))

-- the start of an expression
of_exp1 : {r : ℕ} {p : Past} {K : List Frame} {ts : List Piece} {m : Tree} {q : Past}
    → Completes (WantExp1 r) p K ts m q → Completes (WantExp r) p K ts m q
of_exp1 (want_exp1 x a) = want_exp (exp1 x) a

exp_back : (r : ℕ) (p : Past) (K : List Frame) (w : Word) (s e : ℕ) {ts : List Piece} {m : Tree} {q : Past}
    → Now (step_exp r p K w s e) ts m q → Completes (WantExp r) p K (piece w s e ∷ ts) m q
exp_back r p K LetWord s e (want_block b (let_block x a)) = want_exp (let_in b x) a
exp_back r p K LetWord s e (want_block b (stray_block h)) = absurd h
exp_back r p K Backslash s e (want_tele x (to_lambda xs y a)) = want_exp (lambda x xs y) (rw kept_one at a)
exp_back r p K Less s e (want_path_name ns x a) = want_exp (path_lambda ns x) a
exp_back r p K w s e c = of_exp1 (exp1_back r p K w s e c)

exp_forth : {r : ℕ} {p : Past} {K : List Frame} {w : Word} {s e : ℕ} {ts : List Piece} {m : Tree} {q : Past}
    → Completes (WantExp r) p K (piece w s e ∷ ts) m q → Now (step_exp r p K w s e) ts m q
exp_forth (want_exp (let_in b x) a) = want_block b (let_block x a)
exp_forth (want_exp (lambda x xs y) a) = want_tele x (to_lambda xs y (rw kept_one a))
exp_forth (want_exp (path_lambda ns x) a) = want_path_name ns x a
exp_forth {r = r} {p = p} {K = K} {w = w} {s = s} {e = e} {ts = ts} {m = m} {q = q} (want_exp (exp1 x) a) =
    plain w (exp1_forth {r = r} {p = p} {K = K} {w = w} {s = s} {e = e} (want_exp1 x a))
  where
    plain : (w : Word) → Now (step_exp1 r p K w s e) ts m q → Now (step_exp r p K w s e) ts m q
    plain LetWord c = absurd c
    plain Backslash c = absurd c
    plain Less c = absurd c
    plain w c = c

-- a bracket that was opened, and then names in it: a tele, or an application
pub from_exp : {r i : ℕ} {p : Past} {K : List Frame} {ts : List Piece} {m : Tree} {q : Past}
    → Completes (WantExp (r - 1)) p (in_bracket r i K) ts m q → Completes (Opened r i) p K ts m q
from_exp (want_exp x a) = opened_exp x a

opened_back : (r i : ℕ) (p : Past) (K : List Frame) (w : Word) (s e : ℕ) {ts : List Piece} {m : Tree} {q : Past}
    → Now (step_opened r i p K w s e) ts m q → Completes (Opened r i) p K (piece w s e ∷ ts) m q
opened_back r i p K Identifier s e (maybe_tele ns x on) = opened_tele ns x on
opened_back r i p K Identifier s e (maybe_exp c) = from_exp (exp_back (r - 1) p (in_bracket r i K) Identifier s e c)
opened_back r i p K w s e c = from_exp (exp_back (r - 1) p (in_bracket r i K) w s e c)

opened_forth : {r i : ℕ} {p : Past} {K : List Frame} {w : Word} {s e : ℕ} {ts : List Piece} {m : Tree} {q : Past}
    → Completes (Opened r i) p K (piece w s e ∷ ts) m q → Now (step_opened r i p K w s e) ts m q
opened_forth (opened_tele ns x on) = maybe_tele ns x on
opened_forth {r = r} {i = i} {p = p} {K = K} {w = w} {s = s} {e = e} {ts = ts} {m = m} {q = q} (opened_exp x a) =
    plain w (exp_forth {r = r - 1} {p = p} {K = in_bracket r i K} {w = w} {s = s} {e = e} (want_exp x a))
  where
    plain : (w : Word) → Now (step_exp (r - 1) p (in_bracket r i K) w s e) ts m q → Now (step_opened r i p K w s e) ts m q
    plain Identifier c = maybe_exp c
    plain w c = c

maybe_back : (r i : ℕ) (ns : List Span) (rn : ℕ) (pl : Place) (n : Span) (d : Option ℕ) (p : Past) (K : List Frame) (w : Word) (s e : ℕ) {ts : List Piece} {m : Tree} {q : Past}
    → Now (step_maybe r i ns rn pl n d p K w s e) ts m q → Completes (Maybe r i ns rn pl n d) p K (piece w s e ∷ ts) m q
maybe_back r i ns rn pl n d p K Identifier s e (maybe_tele ms x on) = maybe_tele (next_name ms) x (rw list_more at on)
maybe_back r i ns rn (Head a b) n d p K Identifier s e (maybe_exp c) =
    maybe_exp (projected_back (Whole (Head a b)) a n.start (Name n) [] (record { end = p.end; deep = d }) (in_bracket r i K) Identifier s e c)
maybe_back r i ns rn (Element a b x f es) n d p K Identifier s e (maybe_exp c) =
    maybe_exp (projected_back (Whole (Element a b x f es)) b n.start (Name n) [] (record { end = p.end; deep = d }) (in_bracket r i K) Identifier s e c)
maybe_back r i ns rn pl n d p K Colon s e (want_exp x (tele_closes on)) = maybe_tele no_name x (rw append-nil on)
maybe_back r i ns rn pl n d p K w s e c =
    maybe_exp (projected_back (Whole pl) (room_of pl) n.start (Name n) [] (record { end = p.end; deep = d }) (in_bracket r i K) w s e c)

maybe_forth : (pl : Place) {r i : ℕ} {ns : List Span} {rn : ℕ} {n : Span} {d : Option ℕ} {p : Past} {K : List Frame} {w : Word} {s e : ℕ} {ts : List Piece} {m : Tree} {q : Past}
    → Completes (Maybe r i ns rn pl n d) p K (piece w s e ∷ ts) m q → Now (step_maybe r i ns rn pl n d p K w s e) ts m q
maybe_forth pl (maybe_tele (next_name ms) x on) = maybe_tele ms x (rw list_more on)
maybe_forth pl (maybe_tele no_name x on) = want_exp x (tele_closes (rw append-nil at on))
maybe_forth pl {r} {i} {ns} {rn} {n} {d} {p} {K} {w} {s} {e} {ts} {m} {q} (maybe_exp c) =
    plain pl w (projected_forth {slot = Whole pl} {p = record { end = p.end; deep = d }} {K = in_bracket r i K} {w = w} {s = s} {e = e} c)
  where
    plain : (pl : Place) (w : Word)
        → Now (step_projected (Whole pl) (room_of pl) n.start (Name n) [] (record { end = p.end; deep = d }) (in_bracket r i K) w s e) ts m q
        → Now (step_maybe r i ns rn pl n d p K w s e) ts m q
    plain (Head a b) Identifier c = maybe_exp c
    plain (Element a b x f es) Identifier c = maybe_exp c
    plain (Head a b) Colon c = absurd c
    plain (Element a b x f es) Colon c = absurd c
    plain pl w c = c

-- teles
more_back : (u : Use) (r rt : ℕ) (xs : Trees) (ns : List Span) (rn : ℕ) (p : Past) (K : List Frame) (w : Word) (s e : ℕ) {ts : List Piece} {m : Tree} {q : Past}
    → Now (step_more u r rt xs ns rn p K w s e) ts m q → Completes (TeleMore u r rt xs ns rn) p K (piece w s e ∷ ts) m q
more_back u r rt xs ns rn p K Identifier s e (tele_more ms x on) = tele_more (next_name ms) x (rw list_more at on)
more_back u r rt xs ns rn p K Colon s e (want_exp x (tele_closes on)) = tele_more no_name x (rw append-nil on)
more_back u r rt xs ns rn p K w s e c = absurd c

more_forth : {u : Use} {r rt : ℕ} {xs : Trees} {ns : List Span} {rn : ℕ} {p : Past} {K : List Frame} {w : Word} {s e : ℕ} {ts : List Piece} {m : Tree} {q : Past}
    → Completes (TeleMore u r rt xs ns rn) p K (piece w s e ∷ ts) m q → Now (step_more u r rt xs ns rn p K w s e) ts m q
more_forth (tele_more (next_name ms) x on) = tele_more ms x (rw list_more on)
more_forth (tele_more no_name x on) = want_exp x (tele_closes (rw append-nil at on))

teles_back : (u : Use) (r rt : ℕ) (xs : Trees) (p : Past) (K : List Frame) (w : Word) (s e : ℕ) {ts : List Piece} {m : Tree} {q : Past}
    → Now (step_teles u r rt xs p K w s e) ts m q → TelesOn u r rt xs p K (piece w s e ∷ ts) m q
teles_back (ForLambda i) r rt xs p K LeftParen s e (tele_name ns x (to_lambda ys y a)) = to_lambda (next_tele (tele ns x) ys) y (rw keep_more at a)
teles_back (ForProduct i) r rt xs p K LeftParen s e (tele_name ns x (to_pi ys y a)) = to_pi (next_tele (tele ns x) ys) y (rw keep_more at a)
teles_back (ForProduct i) r rt xs p K LeftParen s e (tele_name ns x (to_sigma ys y a)) = to_sigma (next_tele (tele ns x) ys) y (rw keep_more at a)
teles_back (ForDef f ds n) r rt xs p K LeftParen s e (tele_name ns x (to_def ys y a)) = to_def (next_tele (tele ns x) ys) y (rw keep_more at a)
teles_back (ForLambda i) r rt xs p K To s e (want_exp y (binder_ends a)) = to_lambda no_tele y (rw trees_none a)
teles_back (ForProduct i) r rt xs p K To s e (want_exp1 y (binder_ends a)) = to_pi no_tele y (rw trees_none a)
teles_back (ForProduct i) r rt xs p K Star s e (want_exp1 y (binder_ends a)) = to_sigma no_tele y (rw trees_none a)
teles_back (ForDef f ds n) r rt xs p K Colon s e (want_exp y a) = to_def no_tele y (rw trees_none a)
teles_back (ForLambda i) r rt xs p K w s e c = absurd c
teles_back (ForProduct i) r rt xs p K w s e c = absurd c
teles_back (ForDef f ds n) r rt xs p K w s e c = absurd c

teles_forth : {u : Use} {r rt : ℕ} {xs : Trees} {p : Past} {K : List Frame} {w : Word} {s e : ℕ} {ts : List Piece} {m : Tree} {q : Past}
    → TelesOn u r rt xs p K (piece w s e ∷ ts) m q → Now (step_teles u r rt xs p K w s e) ts m q
teles_forth (to_lambda (next_tele (tele ns x) ys) y a) = tele_name ns x (to_lambda ys y (rw keep_more a))
teles_forth (to_pi (next_tele (tele ns x) ys) y a) = tele_name ns x (to_pi ys y (rw keep_more a))
teles_forth (to_sigma (next_tele (tele ns x) ys) y a) = tele_name ns x (to_sigma ys y (rw keep_more a))
teles_forth (to_def (next_tele (tele ns x) ys) y a) = tele_name ns x (to_def ys y (rw keep_more a))
teles_forth (to_lambda no_tele y a) = want_exp y (binder_ends (rw trees_none at a))
teles_forth (to_pi no_tele y a) = want_exp1 y (binder_ends (rw trees_none at a))
teles_forth (to_sigma no_tele y a) = want_exp1 y (binder_ends (rw trees_none at a))
teles_forth (to_def no_tele y a) = want_exp y (rw trees_none at a)

path_back : (r i : ℕ) (ns : List Span) (rn : ℕ) (p : Past) (K : List Frame) (w : Word) (s e : ℕ) {ts : List Piece} {m : Tree} {q : Past}
    → Now (step_path r i ns rn p K w s e) ts m q → Completes (PathName r i ns rn) p K (piece w s e ∷ ts) m q
path_back r i ns rn p K Identifier s e (path_name ms x a) = path_name (next_name ms) x (rw list_more at a)
path_back r i ns rn p K Greater s e (want_exp x (path_ends a)) = path_name no_name x (rw append-nil a)
path_back r i ns rn p K w s e c = absurd c

path_forth : {r i : ℕ} {ns : List Span} {rn : ℕ} {p : Past} {K : List Frame} {w : Word} {s e : ℕ} {ts : List Piece} {m : Tree} {q : Past}
    → Completes (PathName r i ns rn) p K (piece w s e ∷ ts) m q → Now (step_path r i ns rn p K w s e) ts m q
path_forth (path_name (next_name ms) x a) = path_name ms x (rw list_more a)
path_forth (path_name no_name x a) = want_exp x (path_ends (rw append-nil at a))

-- definitions
pub data DefOn : ℕ → ℕ → Trees → Past → List Frame → List Piece → Tree → Past → Type 0 where
  def_on : {K : List Frame} {f r : ℕ} {p u q : Past} {x m : Tree} {ds : Trees} {ts a : List Piece}
      → IsDef r p ts a x u → DefsOn f r (keep_last r ds x) u K a m q → DefOn f r ds p K ts m q

def_back : (f r : ℕ) (ds : Trees) (p : Past) (K : List Frame) (w : Word) (s e : ℕ) {ts : List Piece} {m : Tree} {q : Past}
    → Now (step_def f r ds p K w s e) ts m q → DefOn f r ds p K (piece w s e ∷ ts) m q
def_back f r ds p K Identifier s e (after_tele (to_def xs t (type_ends b (body_ends on)))) = def_on (def xs t b) on
def_back f r ds p K Identifier s e (after_tele (to_def xs t (type_ends b (body_where ls on)))) = def_on (def_where xs t b ls) on
def_back f r ds p K w s e c = absurd c

def_forth : {f r : ℕ} {ds : Trees} {p : Past} {K : List Frame} {w : Word} {s e : ℕ} {ts : List Piece} {m : Tree} {q : Past}
    → DefOn f r ds p K (piece w s e ∷ ts) m q → Now (step_def f r ds p K w s e) ts m q
def_forth (def_on (def xs t b) on) = after_tele (to_def xs t (type_ends b (body_ends on)))
def_forth (def_on (def_where xs t b ls) on) = after_tele (to_def xs t (type_ends b (body_where ls on)))

wanted_def : {f r : ℕ} {ds : Trees} {p : Past} {K : List Frame} {ts : List Piece} {m : Tree} {q : Past}
    → DefOn f r ds p K ts m q → Completes (WantDef f r ds) p K ts m q
wanted_def (def_on d on) = want_def d on

started : {r : ℕ} {p : Past} {K : List Frame} {ts : List Piece} {m : Tree} {q : Past}
    → DefOn 1 r none p K ts m q → Completes (BlockStart r) p K ts m q
started (def_on d on) = some_defs d on

-- items
last_items : (n : Span) (is : List Span) (K : List Frame) {ds : Trees} {p : Past} {ts : List Piece} {q : Past}
    → IsItems p ts [] ds q → Completes (NextItem n is) p K ts (Module n is ds) q
last_items n is K {ds} {p} {ts} {q} its =
    let P : List Span → Type 0 = λ js. Completes (NextItem n is) p K ts (Module n js ds) q in subst P (append-nil is) (next_items its)

import_more : (n : Span) (is : List Span) (x : Span) (js : List Span) (K : List Frame) {top : Top} {ds : Trees} {p : Past} {ts : List Piece} {q : Past}
    → Completes top p K ts (Module n (is ++ x ∷ js) ds) q → Completes top p K ts (Module n ((is ++ x ∷ []) ++ js) ds) q
import_more n is x js K {top} {ds} {p} {ts} {q} c =
    let P : List Span → Type 0 = λ ks. Completes top p K ts (Module n ks ds) q in subst P (sym (list_more is x js)) c

import_less : (n : Span) (is : List Span) (x : Span) (js : List Span) (K : List Frame) {top : Top} {ds : Trees} {p : Past} {ts : List Piece} {q : Past}
    → Completes top p K ts (Module n ((is ++ x ∷ []) ++ js) ds) q → Completes top p K ts (Module n (is ++ x ∷ js) ds) q
import_less n is x js K {top} {ds} {p} {ts} {q} c =
    let P : List Span → Type 0 = λ ks. Completes top p K ts (Module n ks ds) q in subst P (list_more is x js) c

first_def : {n : Span} {is : List Span} {p : Past} {K : List Frame} {ts : List Piece} {m : Tree} {q : Past}
    → DefOn 0 limit none p (InModule n is ∷ K) ts m q → Completes (NextItem n is) p K ts m q
first_def {n} {is} {p} {K} (def_on d (defs_on ds (block_closes module_block))) = last_items n is K (defs d ds)
first_def (def_on d (defs_on ds (block_closes (stray_block h)))) = absurd h

item_back : (n : Span) (is : List Span) (p : Past) (K : List Frame) (w : Word) (s e : ℕ) {ts : List Piece} {m : Tree} {q : Past}
    → Now (step_item n is p K w s e) ts m q → Completes (NextItem n is) p K (piece w s e ∷ ts) m q
item_back n is p K ImportWord s e (want_import (more_imports (next_items {js = js} its))) = import_more n is _ js K (next_items (next_import its))
item_back n is p K ImportWord s e (want_import no_more_imports) = next_items last_import
item_back n is p K w s e c = first_def (def_back 0 limit none p (InModule n is ∷ K) w s e c)

item_forth : (n : Span) (is : List Span) (K : List Frame) {js : List Span} {ds : Trees} {p : Past} {w : Word} {s e : ℕ} {ts : List Piece} {q : Past}
    → IsItems p (piece w s e ∷ ts) js ds q → Now (step_item n is p K w s e) ts (Module n (is ++ js) ds) q
item_forth n is K last_import = want_import no_more_imports
item_forth n is K (next_import {is = js} its) = want_import (more_imports (import_less n is _ js K (next_items its)))
item_forth n is K (defs (def xs t b) ds) = after_tele (to_def xs t (type_ends b (body_ends (defs_on ds (block_closes (rw append-nil module_block))))))
item_forth n is K (defs (def_where xs t b ls) ds) = after_tele (to_def xs t (type_ends b (body_where ls (defs_on ds (block_closes (rw append-nil module_block))))))

first_of : {n : Span} {p : Past} {K : List Frame} {ts : List Piece} {m : Tree} {q : Past}
    → Completes (NextItem n []) p K ts m q → Completes (FirstItem n) p K ts m q
first_of (next_items its) = first_items its

-- sides
side_back : (o : Owner) (r : ℕ) (ss : Trees) (eqs : List Equation) (p : Past) (K : List Frame) (w : Word) (s e : ℕ) {ts : List Piece} {m : Tree} {q : Past}
    → Now (step_side o r ss eqs p K w s e) ts m q → Completes (WantSide o r ss eqs) p K (piece w s e ∷ ts) m q
side_back o r ss eqs p K LeftParen s e (equation_name (equation_sign (equation_end (equation_close (want_side gqs x a))))) =
    want_side (next_equation gqs) x (rw list_more at a)
side_back o r ss eqs p K To s e (want_exp x a) = want_side no_equation x (rw append-nil a)
side_back o r ss eqs p K w s e c = absurd c

side_forth : {o : Owner} {r : ℕ} {ss : Trees} {eqs : List Equation} {p : Past} {K : List Frame} {w : Word} {s e : ℕ} {ts : List Piece} {m : Tree} {q : Past}
    → Completes (WantSide o r ss eqs) p K (piece w s e ∷ ts) m q → Now (step_side o r ss eqs p K w s e) ts m q
side_forth (want_side (next_equation gqs) x a) = equation_name (equation_sign (equation_end (equation_close (want_side gqs x (rw list_more a)))))
side_forth (want_side no_equation x a) = want_exp x (rw append-nil at a)

-- the state as a whole
pub back : (top : Top) (p : Past) (K : List Frame) (w : Word) (s e : ℕ) {ts : List Piece} {m : Tree} {q : Past}
    → Now (step top p K w s e) ts m q → Completes top p K (piece w s e ∷ ts) m q
back WantModule p K ModuleWord s e c = module_word c
back WantModuleName p K Identifier s e c = module_name c
back (WantModuleWhere n) p K WhereWord s e c = module_where c
back (WantModuleOpen n) p K Open s e c = module_open c
back (FirstItem n) p K Close s e done = no_items
back (FirstItem n) p K w s e c = first_of (item_back n [] p K w s e c)
back (WantImport n is) p K Identifier s e c = want_import c
back (AfterImport n is) p K Next s e c = more_imports c
back (AfterImport n is) p K Close s e done = no_more_imports
back (NextItem n is) p K w s e c = item_back n is p K w s e c
back (WantDef f r ds) p K w s e c = wanted_def (def_back f r ds p K w s e c)
back (AfterDef f r ds) p K Next s e (want_def d (defs_on ds' b)) = after_def (defs_on (next_def d ds') (rw keep_more at b))
back (AfterDef f r ds) p K Close s e c = after_def (defs_on no_def (rw trees_none (close_back ds p K s e c)))
back (WantBlock r) p K Open s e (some_defs d (defs_on ds (block_closes b))) = want_block (block d ds) (rw kept_one at b)
back (WantBlock r) p K Open s e (no_defs b) = want_block empty_block b
back (BlockStart r) p K Close s e c = of_close (close_back none p K s e c)
  where
    of_close : {r s e : ℕ} {p : Past} {K : List Frame} {ts : List Piece} {m : Tree} {q : Past}
        → AfterBlock none p K (piece Close s e ∷ ts) m q → Completes (BlockStart r) p K (piece Close s e ∷ ts) m q
    of_close (block_closes b) = no_defs b
back (BlockStart r) p K w s e c = started (def_back 1 r none p K w s e c)
back (WantIn r i ds) p K InWord s e (want_exp x (let_ends a)) = want_in x a
back (WantExp r) p K w s e c = exp_back r p K w s e c
back (WantExp1 r) p K w s e c = exp1_back r p K w s e c
back (WantPathName r i) p K Identifier s e (path_name ns x a) = want_path_name ns x a
back (PathName r i ns rn) p K w s e c = path_back r i ns rn p K w s e c
back (WantTele r i) p K LeftParen s e (tele_name ns x on) = want_tele (tele ns x) on
back (TeleName u r rt xs) p K Identifier s e (tele_more ns x on) = tele_name ns x on
back (TeleMore u r rt xs ns rn) p K w s e c = more_back u r rt xs ns rn p K w s e c
back (AfterTele u r rt xs) p K w s e c = after_tele (teles_back u r rt xs p K w s e c)
back (Opened r i) p K w s e c = opened_back r i p K w s e c
back (Maybe r i ns rn pl n d) p K w s e c = maybe_back r i ns rn pl n d p K w s e c
back (WantExp4 slot) p K w s e c = exp5_back slot p K w s e c
back (Projected slot rn i x hs) p K w s e c = projected_back slot rn i x hs p K w s e c
back (Spined r rn i f es) p K w s e c = spined_back r rn i f es p K w s e c
back (WantNeg pl i F r) p K w s e c = want_neg_back pl i F r p K w s e c
back (HaveNeg pl i F r b f) p K w s e c = have_neg_back pl i F r b f p K w s e c
back (WantSystem o) p K w s e c = system_back o p K w s e c
back (SystemStart o) p K RightBracket s e c = no_sides c
back (SystemStart o) p K w s e c = some_sides (side_back o (owner_room o) none [] p K w s e c)
back (WantSide o r ss eqs) p K w s e c = side_back o r ss eqs p K w s e c
back (EquationName o r ss eqs) p K Identifier s e c = equation_name c
back (EquationSign o r ss eqs n) p K Equals s e c = equation_sign c
back (EquationEnd o r ss eqs n) p K (EndOf x) s e c = equation_end c
back (EquationClose o r ss eqs) p K RightParen s e c = equation_close c
back top p K w s e c = absurd c

no_item_close : {js : List Span} {ds : Trees} {p : Past} {s e : ℕ} {ts : List Piece} {q : Past} → IsItems p (piece Close s e ∷ ts) js ds q → ⊥
no_item_close (defs d ds) = elim d [ ]

no_side_close : {o : Owner} {r : ℕ} {ss : Trees} {eqs : List Equation} {p : Past} {K : List Frame} {s e : ℕ} {ts : List Piece} {m : Tree} {q : Past}
    → Completes (WantSide o r ss eqs) p K (piece RightBracket s e ∷ ts) m q → ⊥
no_side_close (want_side gqs x a) = elim gqs [ ]

pub forth : {top : Top} {p : Past} {K : List Frame} {w : Word} {s e : ℕ} {ts : List Piece} {m : Tree} {q : Past}
    → Completes top p K (piece w s e ∷ ts) m q → Now (step top p K w s e) ts m q
forth (module_word c) = c
forth (module_name c) = c
forth (module_where c) = c
forth (module_open c) = c
forth no_items = done
forth {p = p} {K = K} {w = w} {s = s} {e = e} {ts = ts} {q = q} (first_items {n = n} {is = is} {ds = ds} its) = plain w its (item_forth n [] K its)
  where
    plain : (w : Word) → IsItems p (piece w s e ∷ ts) is ds q → Now (step_item n [] p K w s e) ts (Module n is ds) q → Now (step (FirstItem n) p K w s e) ts (Module n is ds) q
    plain Close its c = absurd (no_item_close its)
    plain w its c = c
forth {K = K} (next_items {n = n} {is = is} its) = item_forth n is K its
forth (want_import c) = c
forth (more_imports c) = c
forth no_more_imports = done
forth (want_def d on) = def_forth (def_on d on)
forth (after_def (defs_on (next_def d ds) b)) = want_def d (defs_on ds (rw keep_more b))
forth {p = p} {K = K} {e = e} (after_def {ds = ds} (defs_on no_def (block_closes b))) = block_forth ds p K e (rw trees_none at b)
forth (want_block empty_block b) = no_defs b
forth (want_block (block d ds) b) = some_defs d (defs_on ds (block_closes (rw kept_one b)))
forth {p = p} {K = K} {e = e} (no_defs b) = block_forth none p K e b
forth (some_defs (def xs t b) on) = after_tele (to_def xs t (type_ends b (body_ends on)))
forth (some_defs (def_where xs t b ls) on) = after_tele (to_def xs t (type_ends b (body_where ls on)))
forth (want_in x a) = want_exp x (let_ends a)
forth (want_exp x a) = exp_forth (want_exp x a)
forth (want_exp1 x a) = exp1_forth (want_exp1 x a)
forth (want_path_name ns x a) = path_name ns x a
forth (path_name ns x a) = path_forth (path_name ns x a)
forth (want_tele (tele ns x) on) = tele_name ns x on
forth (tele_name ns x on) = tele_more ns x on
forth (tele_more ns x on) = more_forth (tele_more ns x on)
forth (after_tele on) = teles_forth on
forth (opened_exp x a) = opened_forth (opened_exp x a)
forth (opened_tele ns x on) = maybe_tele ns x on
forth (maybe_tele {pl = pl} ns x on) = maybe_forth pl (maybe_tele ns x on)
forth (maybe_exp {pl = pl} c) = maybe_forth pl (maybe_exp c)
forth (want_exp4 x c) = exp5_forth (want_exp4 x c)
forth (projections hs c) = projected_forth (projections hs c)
forth (spine_ends xs a) = spined_forth (spine_ends xs a)
forth (spine_goes xs x a) = spined_forth (spine_goes xs x a)
forth (want_neg n on c) = want_neg_forth (want_neg n on c)
forth (have_neg on c) = have_neg_forth (have_neg on c)
forth (want_system ss c) = system_forth (want_system ss c)
forth (no_sides c) = c
forth {p = p} {K = K} {w = w} {s = s} {e = e} {ts = ts} {m = m} {q = q} (some_sides {o = o} c) = plain w c (side_forth c)
  where
    plain : (w : Word) → Completes (WantSide o (owner_room o) none []) p K (piece w s e ∷ ts) m q → Now (step_side o (owner_room o) none [] p K w s e) ts m q
        → Now (step (SystemStart o) p K w s e) ts m q
    plain RightBracket d c = absurd (no_side_close d)
    plain w d c = c
forth (want_side gqs x a) = side_forth (want_side gqs x a)
forth (equation_name c) = c
forth (equation_sign c) = c
forth (equation_end c) = c
forth (equation_close c) = c
