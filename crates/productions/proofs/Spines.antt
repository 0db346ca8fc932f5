-- Elements of applications, projections and formulas: each step keeps what completes.
use Rattle.std.proofs.Common.{ℕ, ◌≡◌, ◌-◌, List, [], ◌∷◌, Option, refl, sym, subst}
use Rattle.std.proofs.lemmas.List.{append-nil}
use Rattle.syntax.specs.declared.formula.Projection.{Projection}
use Rattle.syntax.specs.Tree.{Formula, Negate, Meet, Join, Tree, At, Trees, none}
use Rattle.productions.specs.Words.{PathWord, ComposingWord, TransportWord, PairingWord, GluingWord, Word, LeftParen, RightParen, LeftBracket, AtSign, Minus, To, And, Or, Dot, EndOf, Form, UniverseWord, Identifier, Piece, piece}
use Rattle.productions.specs.Grammar.{begin, skip, start_of, from, shallow_formula, applied, projected, no_projection, next_projection, IsFormula, conj, join, IsConj, neg, meet, IsNeg, negation, constant_end, variable, bracketed, no_element, argument, at, empty_system, system, side}
use Rattle.productions.specs.Machine.{keep_last, Place, Head, Element, Slot, Whole, FirstOf, SecondOf, ThirdOf, Owner, OfComposing, OfGluing, Frame, Inner, InNegation, InMeet, InJoin, InParens, IsNoNegation, IsNoOperand, Projected, Spined, WantNeg, HaveNeg, WantSystem, State, to, put, give, deliver, step_exp3, step_spined, step_system, step_given, step_projected, step_neg, after_formula, after_conj, after_neg}
use Rattle.productions.specs.declared.past.Past.{Past}
use Rattle.productions.proofs.Meaning.{NegOn, neg_negated, neg_ends, neg_meets, ConjOn, conj_negated, conj_met, conj_ends, conj_joins, FormulaOn, whole, formula_negated, formula_met, formula_joined, parens_close, arrow_ends, side_ends, Completes, want_exp1, projections, spine_ends, spine_goes, want_neg, have_neg, want_system, no_sides, some_sides, want_side, Now}
use Rattle.productions.proofs.Steps.{trees_none, keep_more, list_more, Follows, follows, Continues, Starts, exp3_starts, put_continues, give_continues, deliver_back, deliver_forth, exp5_back, exp5_forth, Exp3On, exp3_on, exp3_back, exp3_forth}

-- the same step, by another name
now_is : {o o' : Option State} (ts : List Piece) (m : Tree) (q : Past) → o ≡ o' → Now o' ts m q → Now o ts m q
now_is ts m q eq c = let P : Option State → Type 0 = λ o. Now o ts m q in subst P (sym eq) c

-- a neg that begins, and the formula that it is completed to
pub data Begins : List Inner → ℕ → Past → List Piece → List Piece → Formula → Past → Type 0 where
  begins : {F : List Inner} {r : ℕ} {p u q : Past} {n g : Formula} {ts a rest : List Piece}
      → IsNeg r p ts a n u → NegOn F r (start_of ts) n u a rest g q → Begins F r p ts rest g q

no_negation : (F : List Inner) → IsNoOperand F → IsNoNegation F
no_negation [] h = tt
no_negation (InNegation r s ∷ F) h = absurd h
no_negation (InMeet r s g ∷ F) h = absurd h
no_negation (InJoin r s g ∷ F) h = tt
no_negation (InParens r s ∷ F) h = tt

conj_begins : {F : List Inner} {r : ℕ} {p u q : Past} {h g : Formula} {ts a rest : List Piece}
    → IsNoNegation F → IsConj r p ts a h u → ConjOn F r (start_of ts) h u a rest g q → Begins F r p ts rest g q
conj_begins free (neg n) on = begins n (neg_ends free on)
conj_begins free (meet n c) on = begins n (neg_meets free c on)

formula_begins : {F : List Inner} {r : ℕ} {p u q : Past} {h g : Formula} {ts a rest : List Piece}
    → IsNoOperand F → IsFormula r p ts a h u → FormulaOn F h u a rest g q → Begins F r p ts rest g q
formula_begins {F = F} free (conj c) on = conj_begins (no_negation F free) c (conj_ends free on)
formula_begins {F = F} free (join c f) on = conj_begins (no_negation F free) c (conj_joins free f on)

-- and the other way
pub data ConjBegins : List Inner → ℕ → Past → List Piece → List Piece → Formula → Past → Type 0 where
  conj_and_on : {F : List Inner} {r : ℕ} {p u q : Past} {h g : Formula} {ts a rest : List Piece}
      → IsConj r p ts a h u → ConjOn F r (start_of ts) h u a rest g q → ConjBegins F r p ts rest g q

pub data FormulaBegins : List Inner → ℕ → Past → List Piece → List Piece → Formula → Past → Type 0 where
  formula_and_on : {F : List Inner} {r : ℕ} {p u q : Past} {h g : Formula} {ts a rest : List Piece}
      → IsFormula r p ts a h u → FormulaOn F h u a rest g q → FormulaBegins F r p ts rest g q

conj_of : {F : List Inner} {r : ℕ} {p u q : Past} {n g : Formula} {ts a rest : List Piece}
    → IsNoNegation F → IsNeg r p ts a n u → NegOn F r (start_of ts) n u a rest g q → ConjBegins F r p ts rest g q
conj_of free n (neg_ends free' on) = conj_and_on (neg n) on
conj_of free n (neg_meets free' c on) = conj_and_on (meet n c) on
conj_of free n (neg_negated on) = absurd free

formula_of_conj : {F : List Inner} {r : ℕ} {p q : Past} {g : Formula} {ts rest : List Piece}
    → IsNoOperand F → ConjBegins F r p ts rest g q → FormulaBegins F r p ts rest g q
formula_of_conj free (conj_and_on c (conj_ends free' on)) = formula_and_on (conj c) on
formula_of_conj free (conj_and_on c (conj_joins free' f on)) = formula_and_on (join c f) on
formula_of_conj free (conj_and_on c (conj_negated on)) = absurd free
formula_of_conj free (conj_and_on c (conj_met on)) = absurd free

whole_formula : {r : ℕ} {p q : Past} {g : Formula} {ts rest : List Piece} → FormulaBegins [] r p ts rest g q → IsFormula r p ts rest g q
whole_formula (formula_and_on f whole) = f

-- after an exp3
with_argument : {r rn i : ℕ} {f : Tree} {es : Trees} {p : Past} {K : List Frame} {ts : List Piece} {m : Tree} {q : Past}
    → Exp3On (Element r rn i f es) p K ts m q → Completes (Spined r rn i f es) p K ts m q
with_argument (exp3_on x (spine_ends xs a)) = spine_ends (argument x xs) (rw keep_more at a)
with_argument (exp3_on x (spine_goes xs y a)) = spine_goes (argument x xs) y (rw keep_more at a)

with_formula : {r rn i s e : ℕ} {f : Tree} {es : Trees} {g : Formula} {p u : Past} {K : List Frame} {ts a : List Piece} {m : Tree} {q : Past}
    → IsFormula rn (begin rn s e p) ts a g u → Completes (Spined r (rn - 1) i f (keep_last rn es (At (from s u) g))) u K a m q
    → Completes (Spined r rn i f es) p K (piece AtSign s e ∷ ts) m q
with_formula g (spine_ends xs a) = spine_ends (at g xs) (rw keep_more at a)
with_formula g (spine_goes xs y a) = spine_goes (at g xs) y (rw keep_more at a)

with_neg : {r rn i s e : ℕ} {f : Tree} {es : Trees} {p : Past} {K : List Frame} {ts : List Piece} {m : Tree} {q : Past}
    → Completes (WantNeg (Element r rn i f es) s [] rn) (begin rn s e p) K ts m q
    → Completes (Spined r rn i f es) p K (piece AtSign s e ∷ ts) m q
with_neg (want_neg n on c) = with_formula (whole_formula (formula_of_conj tt (conj_of tt n on))) c

pub spined_back : (r rn i : ℕ) (f : Tree) (es : Trees) (p : Past) (K : List Frame) (w : Word) (s e : ℕ) {ts : List Piece} {m : Tree} {q : Past}
    → Now (step_spined r rn i f es p K w s e) ts m q → Completes (Spined r rn i f es) p K (piece w s e ∷ ts) m q
spined_back r rn i f es p K AtSign s e c = with_neg c
spined_back r rn i f es p K To s e (want_exp1 x (arrow_ends a)) = spine_goes no_element x (rw trees_none a)
spined_back r rn i f es p K Identifier s e c = with_argument (exp3_back (Element r rn i f es) p K Identifier s e c)
spined_back r rn i f es p K UniverseWord s e c = with_argument (exp3_back (Element r rn i f es) p K UniverseWord s e c)
spined_back r rn i f es p K LeftParen s e c = with_argument (exp3_back (Element r rn i f es) p K LeftParen s e c)
spined_back r rn i f es p K (Form w) s e c = with_argument (exp3_back (Element r rn i f es) p K (Form w) s e c)
spined_back r rn i f es p K w s e c = spine_ends no_element (rw trees_none (deliver_back (applied (from i p) f es) p K w s e c))

spined_starts : (r rn i : ℕ) (f : Tree) (es : Trees) (p : Past) (K : List Frame) (w : Word) (s e : ℕ) → Starts w
    → step_spined r rn i f es p K w s e ≡ step_exp3 (Element r rn i f es) p K w s e
spined_starts r rn i f es p K Identifier s e h = refl
spined_starts r rn i f es p K UniverseWord s e h = refl
spined_starts r rn i f es p K LeftParen s e h = refl
spined_starts r rn i f es p K (Form w) s e h = refl
spined_starts r rn i f es p K w s e h = absurd h

spined_ends : (r rn i : ℕ) (f : Tree) (es : Trees) (p : Past) (K : List Frame) (w : Word) (s e : ℕ) → Follows w
    → step_spined r rn i f es p K w s e ≡ deliver (applied (from i p) f es) p K w s e
spined_ends r rn i f es p K AtSign s e h = absurd h
spined_ends r rn i f es p K To s e h = absurd h
spined_ends r rn i f es p K Identifier s e h = absurd h
spined_ends r rn i f es p K UniverseWord s e h = absurd h
spined_ends r rn i f es p K LeftParen s e h = absurd h
spined_ends r rn i f es p K (Form w) s e h = absurd h
spined_ends r rn i f es p K w s e h = refl

of_begins : {r rn i s : ℕ} {f : Tree} {es : Trees} {p u : Past} {K : List Frame} {g : Formula} {ts a : List Piece} {m : Tree} {q : Past}
    → Begins [] rn p ts a g u → Completes (Spined r (rn - 1) i f (keep_last rn es (At (from s u) g))) u K a m q
    → Completes (WantNeg (Element r rn i f es) s [] rn) p K ts m q
of_begins (begins n on) c = want_neg n on c

pub spined_forth : {r rn i : ℕ} {f : Tree} {es : Trees} {p : Past} {K : List Frame} {w : Word} {s e : ℕ} {ts : List Piece} {m : Tree} {q : Past}
    → Completes (Spined r rn i f es) p K (piece w s e ∷ ts) m q → Now (step_spined r rn i f es p K w s e) ts m q
spined_forth {r} {rn} {i} {f} {es} {p} {K} {w} {s} {e} {ts} {m} {q} (spine_ends no_element a) =
    now_is ts m q (spined_ends r rn i f es p K w s e (follows a)) (deliver_forth (rw trees_none at a))
spined_forth {r} {rn} {i} {f} {es} {p} {K} {w} {s} {e} {ts} {m} {q} (spine_ends (argument x xs) a) =
    now_is ts m q (spined_starts r rn i f es p K w s e (exp3_starts x)) (exp3_forth {pl = Element r rn i f es} {K = K} {m = m} {q = q} (exp3_on x (spine_ends xs (rw keep_more a))))
spined_forth (spine_ends (at g xs) a) = of_begins (formula_begins tt g whole) (spine_ends xs (rw keep_more a))
spined_forth (spine_goes no_element x a) = want_exp1 x (arrow_ends (rw trees_none at a))
spined_forth {r} {rn} {i} {f} {es} {p} {K} {w} {s} {e} {ts} {m} {q} (spine_goes (argument y xs) x a) =
    now_is ts m q (spined_starts r rn i f es p K w s e (exp3_starts y)) (exp3_forth {pl = Element r rn i f es} {K = K} {m = m} {q = q} (exp3_on y (spine_goes xs x (rw keep_more a))))
spined_forth (spine_goes (at g xs) x a) = of_begins (formula_begins tt g whole) (spine_goes xs x (rw keep_more a))

-- a system begins
pub system_back : (o : Owner) (p : Past) (K : List Frame) (w : Word) (s e : ℕ) {ts : List Piece} {m : Tree} {q : Past}
    → Now (step_system o p K w s e) ts m q → Completes (WantSystem o) p K (piece w s e ∷ ts) m q
system_back o p K LeftBracket s e (no_sides c) = want_system empty_system c
system_back o p K LeftBracket s e (some_sides (want_side eqs x (side_ends xs c))) = want_system (system (side eqs x) xs) c
system_back o p K w s e c = absurd c

pub system_forth : {o : Owner} {p : Past} {K : List Frame} {w : Word} {s e : ℕ} {ts : List Piece} {m : Tree} {q : Past}
    → Completes (WantSystem o) p K (piece w s e ∷ ts) m q → Now (step_system o p K w s e) ts m q
system_forth (want_system empty_system c) = no_sides c
system_forth (want_system (system (side eqs x) xs) c) = some_sides (want_side eqs x (side_ends xs c))

-- a part in its place
pub put_back : (pl : Place) (x : Tree) (p : Past) (K : List Frame) (w : Word) (s e : ℕ) {ts : List Piece} {m : Tree} {q : Past}
    → Now (step_given (put pl x) p K w s e) ts m q → Completes (put pl x) p K (piece w s e ∷ ts) m q
put_back (Head r i) x p K w s e c = spined_back r r i x none p K w s e c
put_back (Element r rn i f es) x p K w s e c = spined_back r (rn - 1) i f (keep_last rn es x) p K w s e c

pub put_forth : (pl : Place) (x : Tree) {p : Past} {K : List Frame} {w : Word} {s e : ℕ} {ts : List Piece} {m : Tree} {q : Past}
    → Completes (put pl x) p K (piece w s e ∷ ts) m q → Now (step_given (put pl x) p K w s e) ts m q
put_forth (Head r i) x c = spined_forth c
put_forth (Element r rn i f es) x c = spined_forth c

pub give_back : (slot : Slot) (x : Tree) (u p : Past) (K : List Frame) (w : Word) (s e : ℕ) {ts : List Piece} {m : Tree} {q : Past}
    → Now (step_given (give slot x u) p K w s e) ts m q → Completes (give slot x u) p K (piece w s e ∷ ts) m q
give_back (Whole pl) x u p K w s e c = put_back pl x p K w s e c
give_back (FirstOf (PairingWord v) i pl) x u p K w s e c = exp5_back (SecondOf v i x pl) p K w s e c
give_back (FirstOf (GluingWord v) i pl) x u p K w s e c = system_back (OfGluing v i x pl) p K w s e c
give_back (SecondOf PathWord i x pl) y u p K w s e c = exp5_back (ThirdOf i x y pl) p K w s e c
give_back (SecondOf (ComposingWord v) i x pl) y u p K w s e c = system_back (OfComposing v i x y pl) p K w s e c
give_back (SecondOf TransportWord i x pl) y u p K w s e c = put_back pl _ p K w s e c
give_back (ThirdOf i x y pl) z u p K w s e c = put_back pl _ p K w s e c

pub give_forth : (slot : Slot) (x : Tree) (u : Past) {p : Past} {K : List Frame} {w : Word} {s e : ℕ} {ts : List Piece} {m : Tree} {q : Past}
    → Completes (give slot x u) p K (piece w s e ∷ ts) m q → Now (step_given (give slot x u) p K w s e) ts m q
give_forth (Whole pl) x u c = put_forth pl x c
give_forth (FirstOf (PairingWord v) i pl) x u c = exp5_forth c
give_forth (FirstOf (GluingWord v) i pl) x u c = system_forth c
give_forth (SecondOf PathWord i x pl) y u c = exp5_forth c
give_forth (SecondOf (ComposingWord v) i x pl) y u c = system_forth c
give_forth (SecondOf TransportWord i x pl) y u c = put_forth pl _ c
give_forth (ThirdOf i x y pl) z u c = put_forth pl _ c

-- after an exp5 and its projections
pub projected_back : (slot : Slot) (rn i : ℕ) (x : Tree) (hs : List Projection) (p : Past) (K : List Frame) (w : Word) (s e : ℕ) {ts : List Piece} {m : Tree} {q : Past}
    → Now (step_projected slot rn i x hs p K w s e) ts m q → Completes (Projected slot rn i x hs) p K (piece w s e ∷ ts) m q
projected_back slot rn i x hs p K (Dot h) s e (projections gs c) = projections (next_projection gs) (rw list_more at c)
projected_back slot rn i x hs p K w s e c =
    projections no_projection (rw append-nil (give_back slot (projected (from i p) x hs) p p K w s e c))

not_dot : (slot : Slot) (rn i : ℕ) (x : Tree) (hs : List Projection) (p : Past) (K : List Frame) (w : Word) (s e : ℕ) → Continues w
    → step_projected slot rn i x hs p K w s e ≡ step_given (give slot (projected (from i p) x hs) p) p K w s e
not_dot slot rn i x hs p K (Dot h) s e c = absurd c
not_dot slot rn i x hs p K w s e c = refl

pub projected_forth : {slot : Slot} {rn i : ℕ} {x : Tree} {hs : List Projection} {p : Past} {K : List Frame} {w : Word} {s e : ℕ} {ts : List Piece} {m : Tree} {q : Past}
    → Completes (Projected slot rn i x hs) p K (piece w s e ∷ ts) m q → Now (step_projected slot rn i x hs p K w s e) ts m q
projected_forth (projections (next_projection gs) c) = projections gs (rw list_more c)
projected_forth {slot} {rn} {i} {x} {hs} {p} {K} {w} {s} {e} {ts} {m} {q} (projections no_projection c) =
    let d : Completes (give slot (projected (from i p) x hs) p) p K (piece w s e ∷ ts) m q = rw append-nil at c in
    now_is ts m q (not_dot slot rn i x hs p K w s e (give_continues slot _ p d)) (give_forth slot _ p d)

-- A part of a formula stands in its frames, the formula in its place, and the tokens complete the whole.
pub data NegGiven : Place → ℕ → List Inner → ℕ → ℕ → Formula → Past → List Frame → List Piece → Tree → Past → Type 0 where
  neg_given : {pl : Place} {i r b : ℕ} {F : List Inner} {f g : Formula} {p v q : Past} {K : List Frame} {m : Tree} {ts c : List Piece}
      → NegOn F r b f p ts c g v → Completes (put pl (At (from i v) g)) v K c m q → NegGiven pl i F r b f p K ts m q

pub data ConjGiven : Place → ℕ → List Inner → ℕ → ℕ → Formula → Past → List Frame → List Piece → Tree → Past → Type 0 where
  conj_given : {pl : Place} {i r b : ℕ} {F : List Inner} {f g : Formula} {p v q : Past} {K : List Frame} {m : Tree} {ts c : List Piece}
      → ConjOn F r b f p ts c g v → Completes (put pl (At (from i v) g)) v K c m q → ConjGiven pl i F r b f p K ts m q

pub data FormulaGiven : Place → ℕ → List Inner → Formula → Past → List Frame → List Piece → Tree → Past → Type 0 where
  formula_given : {pl : Place} {i : ℕ} {F : List Inner} {f g : Formula} {p v q : Past} {K : List Frame} {m : Tree} {ts c : List Piece}
      → FormulaOn F f p ts c g v → Completes (put pl (At (from i v) g)) v K c m q → FormulaGiven pl i F f p K ts m q

-- after a formula
pub negated_given : {pl : Place} {i r j : ℕ} {F : List Inner} {f : Formula} {p q : Past} {K : List Frame} {m : Tree} {ts : List Piece}
    → FormulaGiven pl i F (Negate (from j p) (shallow_formula (r - 1) f)) p K ts m q → FormulaGiven pl i (InNegation r j ∷ F) f p K ts m q
negated_given (formula_given on c) = formula_given (formula_negated on) c

pub met_given : {pl : Place} {i r j : ℕ} {F : List Inner} {f h : Formula} {p q : Past} {K : List Frame} {m : Tree} {ts : List Piece}
    → FormulaGiven pl i F (Meet (from j p) h (shallow_formula (r - 1) f)) p K ts m q → FormulaGiven pl i (InMeet r j h ∷ F) f p K ts m q
met_given (formula_given on c) = formula_given (formula_met on) c

pub joined_given : {pl : Place} {i r j : ℕ} {F : List Inner} {f h : Formula} {p q : Past} {K : List Frame} {m : Tree} {ts : List Piece}
    → FormulaGiven pl i F (Join (from j p) h (shallow_formula (r - 1) f)) p K ts m q → FormulaGiven pl i (InJoin r j h ∷ F) f p K ts m q
joined_given (formula_given on c) = formula_given (formula_joined on) c

formula_back : (pl : Place) (i : ℕ) (F : List Inner) (f : Formula) (p : Past) (K : List Frame) (w : Word) (s e : ℕ) {ts : List Piece} {m : Tree} {q : Past}
    → Now (after_formula pl i F f p K w s e) ts m q → FormulaGiven pl i F f p K (piece w s e ∷ ts) m q
formula_back pl i [] f p K w s e c = formula_given whole (put_back pl (At (from i p) f) p K w s e c)
formula_back pl i (InNegation r j ∷ F) f p K w s e c = negated_given (formula_back pl i F (Negate (from j p) (shallow_formula (r - 1) f)) p K w s e c)
formula_back pl i (InMeet r j g ∷ F) f p K w s e c = met_given (formula_back pl i F (Meet (from j p) g (shallow_formula (r - 1) f)) p K w s e c)
formula_back pl i (InJoin r j g ∷ F) f p K w s e c = joined_given (formula_back pl i F (Join (from j p) g (shallow_formula (r - 1) f)) p K w s e c)
formula_back pl i (InParens r j ∷ F) f p K RightParen s e (have_neg on c) = formula_given (parens_close on) c
formula_back pl i (InParens r j ∷ F) f p K w s e c = absurd c

formula_forth : (pl : Place) (i : ℕ) {F : List Inner} {f g : Formula} {p v : Past} {K : List Frame} {w : Word} {s e : ℕ} {ts c : List Piece} {m : Tree} {q : Past}
    → FormulaOn F f p (piece w s e ∷ ts) c g v → Completes (put pl (At (from i v) g)) v K c m q → Now (after_formula pl i F f p K w s e) ts m q
formula_forth pl i whole c = put_forth pl _ c
formula_forth pl i (formula_negated on) c = formula_forth pl i on c
formula_forth pl i (formula_met on) c = formula_forth pl i on c
formula_forth pl i (formula_joined on) c = formula_forth pl i on c
formula_forth pl i (parens_close on) c = have_neg on c

-- what stands after a formula is no operator, and after a conj no "/\"
abbrev pub NoOperator : Word → Type 0
NoOperator And = ⊥
NoOperator Or = ⊥
NoOperator w = Unit {0}

abbrev pub NotAnd : Word → Type 0
NotAnd And = ⊥
NotAnd w = Unit {0}

continues_no_operator : (w : Word) → Continues w → NoOperator w
continues_no_operator And c = absurd c
continues_no_operator Or c = absurd c
continues_no_operator w c = tt

no_operator_not_and : (w : Word) → NoOperator w → NotAnd w
no_operator_not_and And c = absurd c
no_operator_not_and w c = tt

after_formulas : (pl : Place) (i : ℕ) {F : List Inner} {f g : Formula} {p v : Past} {K : List Frame} {w : Word} {s e : ℕ} {ts c : List Piece} {m : Tree} {q : Past}
    → FormulaOn F f p (piece w s e ∷ ts) c g v → Completes (put pl (At (from i v) g)) v K c m q → NoOperator w
after_formulas pl i {w = w} whole c = continues_no_operator w (put_continues pl _ c)
after_formulas pl i (formula_negated on) c = after_formulas pl i on c
after_formulas pl i (formula_met on) c = after_formulas pl i on c
after_formulas pl i (formula_joined on) c = after_formulas pl i on c
after_formulas pl i (parens_close on) c = tt

after_conjs : (pl : Place) (i : ℕ) {r b : ℕ} {F : List Inner} {f g : Formula} {p v : Past} {K : List Frame} {w : Word} {s e : ℕ} {ts c : List Piece} {m : Tree} {q : Past}
    → ConjOn F r b f p (piece w s e ∷ ts) c g v → Completes (put pl (At (from i v) g)) v K c m q → NotAnd w
after_conjs pl i (conj_negated on) c = after_conjs pl i on c
after_conjs pl i (conj_met on) c = after_conjs pl i on c
after_conjs pl i {w = w} (conj_ends free on) c = no_operator_not_and w (after_formulas pl i on c)
after_conjs pl i (conj_joins free h on) c = tt

-- after a conj
pub conj_negated_given : {pl : Place} {i r r' j b : ℕ} {F : List Inner} {f : Formula} {p q : Past} {K : List Frame} {m : Tree} {ts : List Piece}
    → ConjGiven pl i F r j (Negate (from j p) (shallow_formula (r - 1) f)) p K ts m q → ConjGiven pl i (InNegation r j ∷ F) r' b f p K ts m q
conj_negated_given (conj_given on c) = conj_given (conj_negated on) c

pub conj_met_given : {pl : Place} {i r r' j b : ℕ} {F : List Inner} {f h : Formula} {p q : Past} {K : List Frame} {m : Tree} {ts : List Piece}
    → ConjGiven pl i F r j (Meet (from j p) h (shallow_formula (r - 1) f)) p K ts m q → ConjGiven pl i (InMeet r j h ∷ F) r' b f p K ts m q
conj_met_given (conj_given on c) = conj_given (conj_met on) c

pub conj_ends_given : {pl : Place} {i r b : ℕ} {F : List Inner} {f : Formula} {p q : Past} {K : List Frame} {m : Tree} {ts : List Piece}
    → IsNoOperand F → FormulaGiven pl i F f p K ts m q → ConjGiven pl i F r b f p K ts m q
conj_ends_given free (formula_given on c) = conj_given (conj_ends free on) c

joins_given : {pl : Place} {i r b s e : ℕ} {F : List Inner} {f g : Formula} {p v q : Past} {K : List Frame} {m : Tree} {ts c : List Piece}
    → IsNoOperand F → FormulaBegins (InJoin r b f ∷ F) (r - 1) (skip e p) ts c g v → Completes (put pl (At (from i v) g)) v K c m q
    → ConjGiven pl i F r b f p K (piece Or s e ∷ ts) m q
joins_given free (formula_and_on h (formula_joined on)) c = conj_given (conj_joins free h on) c

or_given : {pl : Place} {i r b s e : ℕ} {F : List Inner} {f : Formula} {p q : Past} {K : List Frame} {m : Tree} {ts : List Piece}
    → IsNoOperand F → Completes (WantNeg pl i (InJoin r b f ∷ F) (r - 1)) (skip e p) K ts m q → ConjGiven pl i F r b f p K (piece Or s e ∷ ts) m q
or_given free (want_neg n on c) = joins_given free (formula_of_conj tt (conj_of tt n on)) c

conj_back : (pl : Place) (i : ℕ) (F : List Inner) (r b : ℕ) (f : Formula) (p : Past) (K : List Frame) (w : Word) (s e : ℕ) {ts : List Piece} {m : Tree} {q : Past}
    → Now (after_conj pl i F r b f p K w s e) ts m q → ConjGiven pl i F r b f p K (piece w s e ∷ ts) m q
conj_back pl i (InNegation r j ∷ F) r' b f p K w s e c = conj_negated_given (conj_back pl i F r j (Negate (from j p) (shallow_formula (r - 1) f)) p K w s e c)
conj_back pl i (InMeet r j g ∷ F) r' b f p K w s e c = conj_met_given (conj_back pl i F r j (Meet (from j p) g (shallow_formula (r - 1) f)) p K w s e c)
conj_back pl i [] r b f p K Or s e c = or_given tt c
conj_back pl i [] r b f p K w s e c = conj_ends_given tt (formula_back pl i [] f p K w s e c)
conj_back pl i (InJoin r' j g ∷ F) r b f p K Or s e c = or_given tt c
conj_back pl i (InJoin r' j g ∷ F) r b f p K w s e c = conj_ends_given tt (formula_back pl i (InJoin r' j g ∷ F) f p K w s e c)
conj_back pl i (InParens r' j ∷ F) r b f p K Or s e c = or_given tt c
conj_back pl i (InParens r' j ∷ F) r b f p K w s e c = conj_ends_given tt (formula_back pl i (InParens r' j ∷ F) f p K w s e c)

conj_is : (pl : Place) (i : ℕ) (F : List Inner) (r b : ℕ) (f : Formula) (p : Past) (K : List Frame) (w : Word) (s e : ℕ)
    → IsNoOperand F → NoOperator w → after_conj pl i F r b f p K w s e ≡ after_formula pl i F f p K w s e
conj_is pl i (InNegation r j ∷ F) r' b f p K w s e free h = absurd free
conj_is pl i (InMeet r j g ∷ F) r' b f p K w s e free h = absurd free
conj_is pl i [] r b f p K Or s e free h = absurd h
conj_is pl i [] r b f p K w s e free h = refl
conj_is pl i (InJoin r' j g ∷ F) r b f p K Or s e free h = absurd h
conj_is pl i (InJoin r' j g ∷ F) r b f p K w s e free h = refl
conj_is pl i (InParens r' j ∷ F) r b f p K Or s e free h = absurd h
conj_is pl i (InParens r' j ∷ F) r b f p K w s e free h = refl

conj_or : (pl : Place) (i : ℕ) (F : List Inner) (r b : ℕ) (f : Formula) (p : Past) (K : List Frame) (s e : ℕ)
    → IsNoOperand F → after_conj pl i F r b f p K Or s e ≡ to (WantNeg pl i (InJoin r b f ∷ F) (r - 1)) (skip e p) K
conj_or pl i (InNegation r j ∷ F) r' b f p K s e free = absurd free
conj_or pl i (InMeet r j g ∷ F) r' b f p K s e free = absurd free
conj_or pl i [] r b f p K s e free = refl
conj_or pl i (InJoin r' j g ∷ F) r b f p K s e free = refl
conj_or pl i (InParens r' j ∷ F) r b f p K s e free = refl

wants : {F : List Inner} {pl : Place} {i r : ℕ} {g : Formula} {p v q : Past} {K : List Frame} {ts c : List Piece} {m : Tree}
    → Begins F r p ts c g v → Completes (put pl (At (from i v) g)) v K c m q → Completes (WantNeg pl i F r) p K ts m q
wants (begins n on) c = want_neg n on c

conj_forth : (pl : Place) (i : ℕ) {r b : ℕ} {F : List Inner} {f g : Formula} {p v : Past} {K : List Frame} {w : Word} {s e : ℕ} {ts c : List Piece} {m : Tree} {q : Past}
    → ConjOn F r b f p (piece w s e ∷ ts) c g v → Completes (put pl (At (from i v) g)) v K c m q → Now (after_conj pl i F r b f p K w s e) ts m q
conj_forth pl i (conj_negated on) c = conj_forth pl i on c
conj_forth pl i (conj_met on) c = conj_forth pl i on c
conj_forth pl i {r} {b} {F} {f} {g} {p} {v} {K} {w} {s} {e} {ts = ts} {m = m} {q = q} (conj_ends free on) c =
    now_is ts m q (conj_is pl i F r b f p K w s e free (after_formulas pl i on c)) (formula_forth pl i on c)
conj_forth pl i {r} {b} {F} {f} {g} {p} {v} {K} {w} {s} {e} {ts = ts} {m = m} {q = q} (conj_joins free h on) c =
    now_is ts m q (conj_or pl i F r b f p K s e free) (wants (formula_begins tt h (formula_joined on)) c)

-- after a neg
pub neg_negated_given : {pl : Place} {i r r' j b : ℕ} {F : List Inner} {f : Formula} {p q : Past} {K : List Frame} {m : Tree} {ts : List Piece}
    → NegGiven pl i F r j (Negate (from j p) (shallow_formula (r - 1) f)) p K ts m q → NegGiven pl i (InNegation r j ∷ F) r' b f p K ts m q
neg_negated_given (neg_given on c) = neg_given (neg_negated on) c

pub neg_ends_given : {pl : Place} {i r b : ℕ} {F : List Inner} {f : Formula} {p q : Past} {K : List Frame} {m : Tree} {ts : List Piece}
    → IsNoNegation F → ConjGiven pl i F r b f p K ts m q → NegGiven pl i F r b f p K ts m q
neg_ends_given free (conj_given on c) = neg_given (neg_ends free on) c

meets_given : {pl : Place} {i r b s e : ℕ} {F : List Inner} {f g : Formula} {p v q : Past} {K : List Frame} {m : Tree} {ts c : List Piece}
    → IsNoNegation F → ConjBegins (InMeet r b f ∷ F) (r - 1) (skip e p) ts c g v → Completes (put pl (At (from i v) g)) v K c m q
    → NegGiven pl i F r b f p K (piece And s e ∷ ts) m q
meets_given free (conj_and_on h (conj_met on)) c = neg_given (neg_meets free h on) c
meets_given free (conj_and_on h (conj_ends no_operand on)) c = absurd no_operand
meets_given free (conj_and_on h (conj_joins no_operand x on)) c = absurd no_operand

and_given : {pl : Place} {i r b s e : ℕ} {F : List Inner} {f : Formula} {p q : Past} {K : List Frame} {m : Tree} {ts : List Piece}
    → IsNoNegation F → Completes (WantNeg pl i (InMeet r b f ∷ F) (r - 1)) (skip e p) K ts m q → NegGiven pl i F r b f p K (piece And s e ∷ ts) m q
and_given free (want_neg n on c) = meets_given free (conj_of tt n on) c

neg_back : (pl : Place) (i : ℕ) (F : List Inner) (r b : ℕ) (f : Formula) (p : Past) (K : List Frame) (w : Word) (s e : ℕ) {ts : List Piece} {m : Tree} {q : Past}
    → Now (after_neg pl i F r b f p K w s e) ts m q → NegGiven pl i F r b f p K (piece w s e ∷ ts) m q
neg_back pl i (InNegation r j ∷ F) r' b f p K w s e c = neg_negated_given (neg_back pl i F r j (Negate (from j p) (shallow_formula (r - 1) f)) p K w s e c)
neg_back pl i [] r b f p K And s e c = and_given tt c
neg_back pl i [] r b f p K w s e c = neg_ends_given tt (conj_back pl i [] r b f p K w s e c)
neg_back pl i (InMeet r' j g ∷ F) r b f p K And s e c = and_given tt c
neg_back pl i (InMeet r' j g ∷ F) r b f p K w s e c = neg_ends_given tt (conj_back pl i (InMeet r' j g ∷ F) r b f p K w s e c)
neg_back pl i (InJoin r' j g ∷ F) r b f p K And s e c = and_given tt c
neg_back pl i (InJoin r' j g ∷ F) r b f p K w s e c = neg_ends_given tt (conj_back pl i (InJoin r' j g ∷ F) r b f p K w s e c)
neg_back pl i (InParens r' j ∷ F) r b f p K And s e c = and_given tt c
neg_back pl i (InParens r' j ∷ F) r b f p K w s e c = neg_ends_given tt (conj_back pl i (InParens r' j ∷ F) r b f p K w s e c)

neg_is : (pl : Place) (i : ℕ) (F : List Inner) (r b : ℕ) (f : Formula) (p : Past) (K : List Frame) (w : Word) (s e : ℕ)
    → IsNoNegation F → NotAnd w → after_neg pl i F r b f p K w s e ≡ after_conj pl i F r b f p K w s e
neg_is pl i (InNegation r j ∷ F) r' b f p K w s e free h = absurd free
neg_is pl i [] r b f p K And s e free h = absurd h
neg_is pl i [] r b f p K w s e free h = refl
neg_is pl i (InMeet r' j g ∷ F) r b f p K And s e free h = absurd h
neg_is pl i (InMeet r' j g ∷ F) r b f p K w s e free h = refl
neg_is pl i (InJoin r' j g ∷ F) r b f p K And s e free h = absurd h
neg_is pl i (InJoin r' j g ∷ F) r b f p K w s e free h = refl
neg_is pl i (InParens r' j ∷ F) r b f p K And s e free h = absurd h
neg_is pl i (InParens r' j ∷ F) r b f p K w s e free h = refl

neg_and : (pl : Place) (i : ℕ) (F : List Inner) (r b : ℕ) (f : Formula) (p : Past) (K : List Frame) (s e : ℕ)
    → IsNoNegation F → after_neg pl i F r b f p K And s e ≡ to (WantNeg pl i (InMeet r b f ∷ F) (r - 1)) (skip e p) K
neg_and pl i (InNegation r j ∷ F) r' b f p K s e free = absurd free
neg_and pl i [] r b f p K s e free = refl
neg_and pl i (InMeet r' j g ∷ F) r b f p K s e free = refl
neg_and pl i (InJoin r' j g ∷ F) r b f p K s e free = refl
neg_and pl i (InParens r' j ∷ F) r b f p K s e free = refl

neg_forth : (pl : Place) (i : ℕ) {r b : ℕ} {F : List Inner} {f g : Formula} {p v : Past} {K : List Frame} {w : Word} {s e : ℕ} {ts c : List Piece} {m : Tree} {q : Past}
    → NegOn F r b f p (piece w s e ∷ ts) c g v → Completes (put pl (At (from i v) g)) v K c m q → Now (after_neg pl i F r b f p K w s e) ts m q
neg_forth pl i (neg_negated on) c = neg_forth pl i on c
neg_forth pl i {r} {b} {F} {f} {g} {p} {v} {K} {w} {s} {e} {ts = ts} {m = m} {q = q} (neg_ends free on) c =
    now_is ts m q (neg_is pl i F r b f p K w s e free (after_conjs pl i on c)) (conj_forth pl i on c)
neg_forth pl i {r} {b} {F} {f} {g} {p} {v} {K} {w} {s} {e} {ts = ts} {m = m} {q = q} (neg_meets free h on) c =
    now_is ts m q (neg_and pl i F r b f p K s e free) (wants (conj_begins tt h (conj_met on)) c)

-- a neg is wanted, or at hand
pub want_neg_back : (pl : Place) (i : ℕ) (F : List Inner) (r : ℕ) (p : Past) (K : List Frame) (w : Word) (s e : ℕ) {ts : List Piece} {m : Tree} {q : Past}
    → Now (step_neg pl i F r p K w s e) ts m q → Completes (WantNeg pl i F r) p K (piece w s e ∷ ts) m q
want_neg_back pl i F r p K Minus s e (want_neg n (neg_negated on) c) = want_neg (negation n) on c
want_neg_back pl i F r p K Minus s e (want_neg n (neg_ends h on) c) = absurd h
want_neg_back pl i F r p K Minus s e (want_neg n (neg_meets h x on) c) = absurd h
want_neg_back pl i F r p K LeftParen s e (want_neg n on c) = close (formula_of_conj tt (conj_of tt n on)) c
  where
    close : {pl : Place} {i r s e : ℕ} {F : List Inner} {g : Formula} {p v q : Past} {K : List Frame} {ts c : List Piece} {m : Tree}
        → FormulaBegins (InParens r s ∷ F) (r - 1) (begin r s e p) ts c g v → Completes (put pl (At (from i v) g)) v K c m q
        → Completes (WantNeg pl i F r) p K (piece LeftParen s e ∷ ts) m q
    close (formula_and_on h (parens_close on)) c = want_neg (bracketed h) on c
want_neg_back pl i F r p K (EndOf x) s e (have_neg on c) = want_neg constant_end on c
want_neg_back pl i F r p K Identifier s e (have_neg on c) = want_neg variable on c
want_neg_back pl i F r p K w s e c = absurd c

pub want_neg_forth : {pl : Place} {i : ℕ} {F : List Inner} {r : ℕ} {p : Past} {K : List Frame} {w : Word} {s e : ℕ} {ts : List Piece} {m : Tree} {q : Past}
    → Completes (WantNeg pl i F r) p K (piece w s e ∷ ts) m q → Now (step_neg pl i F r p K w s e) ts m q
want_neg_forth (want_neg (negation n) on c) = want_neg n (neg_negated on) c
want_neg_forth (want_neg constant_end on c) = have_neg on c
want_neg_forth (want_neg variable on c) = have_neg on c
want_neg_forth (want_neg (bracketed h) on c) = wants (formula_begins tt h (parens_close on)) c

pub have_neg_back : (pl : Place) (i : ℕ) (F : List Inner) (r b : ℕ) (f : Formula) (p : Past) (K : List Frame) (w : Word) (s e : ℕ) {ts : List Piece} {m : Tree} {q : Past}
    → Now (after_neg pl i F r b f p K w s e) ts m q → Completes (HaveNeg pl i F r b f) p K (piece w s e ∷ ts) m q
have_neg_back pl i F r b f p K w s e c = of_given (neg_back pl i F r b f p K w s e c)
  where
    of_given : {pl : Place} {i r b : ℕ} {F : List Inner} {f : Formula} {p q : Past} {K : List Frame} {ts : List Piece} {m : Tree}
        → NegGiven pl i F r b f p K ts m q → Completes (HaveNeg pl i F r b f) p K ts m q
    of_given (neg_given on c) = have_neg on c

pub have_neg_forth : {pl : Place} {i : ℕ} {F : List Inner} {r b : ℕ} {f : Formula} {p : Past} {K : List Frame} {w : Word} {s e : ℕ} {ts : List Piece} {m : Tree} {q : Past}
    → Completes (HaveNeg pl i F r b f) p K (piece w s e ∷ ts) m q → Now (after_neg pl i F r b f p K w s e) ts m q
have_neg_forth {pl} {i} (have_neg on c) = neg_forth pl i on c
