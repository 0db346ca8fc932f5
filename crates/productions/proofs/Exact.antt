-- Whole runs of the machine.
use Rattle.std.proofs.Common.{ℕ, ◌≡◌, ◌-◌, List, [], ◌∷◌, ◌++◌, Option, Some, None, refl, sym, ap, subst, ◌∙◌}
use Rattle.std.proofs.lemmas.List.{append-nil}
use Rattle.layout_lexer.specs.declared.token.Span.{Span}
use Rattle.syntax.specs.declared.formula.Projection.{Projection}
use Rattle.syntax.specs.Tree.{Formula, Negate, Meet, Join, Tree, Let, PathLambda, Arrow, Name, At, Trees, none}
use Rattle.productions.specs.Words.{PathWord, ComposingWord, TransportWord, PairingWord, GluingWord, Word, Piece, piece}
use Rattle.productions.specs.Grammar.{from, shallow, shallow_formula, applied, projected, no_projection, IsNeg, IsExp, exp1, IsExp1, pi, sigma, arrow, exp2, apply, IsElements, no_element, argument, at, IsExp3, exp4, project, IsExp5, IsTeles, next_tele, IsDef, no_def, IsItems, IsModule, empty_module, items, IsWholeExp, whole_exp, IsBegun, defs}
use Rattle.productions.specs.Machine.{keep_last, Place, Head, Element, room_of, Slot, Whole, FirstOf, SecondOf, ThirdOf, Owner, Use, Frame, InBracket, InTele, InArrow, InBinder, InPath, InLet, InLetBody, InSide, InType, InBody, InWhere, InModule, Inner, InNegation, InMeet, InJoin, InParens, Top, Done, WantExp4, Projected, Spined, HaveNeg, WantSystem, State, in_bracket, put, give, bind, step, finish_exp, finish_given, finish_formula, finish, and_step, run, start_module, start_exp}
use Rattle.productions.specs.declared.past.Past.{Past}
use Rattle.productions.proofs.Meaning.{NegOn, neg_negated, neg_ends, ConjOn, conj_negated, conj_met, conj_ends, FormulaOn, whole, formula_negated, formula_met, formula_joined, After, arrow_ends, binder_ends, path_ends, let_ends, bracket_closes, side_ends, body_ends, DefsOn, defs_on, TelesOn, to_lambda, to_pi, to_sigma, to_def, Completes, module_word, module_name, module_where, module_open, no_items, first_items, next_items, want_def, after_def, want_block, some_defs, done, want_exp, want_exp1, path_name, want_tele, tele_more, after_tele, opened_exp, maybe_tele, maybe_exp, want_exp4, projections, spine_ends, spine_goes, want_neg, have_neg, want_system, some_sides, want_side, Now}
use Rattle.productions.proofs.Meaning.{alone, stray_let, stray_where, stray_module}
use Rattle.productions.specs.Runs.{IsExact}
use Rattle.productions.proofs.Steps.{trees_none}
use Rattle.productions.proofs.Both.{back, forth}
use Rattle.productions.proofs.Spines.{NegGiven, ConjGiven, FormulaGiven, formula_given, negated_given, met_given, joined_given, conj_negated_given, conj_met_given, conj_ends_given, neg_negated_given, neg_ends_given}
use Rattle.productions.proofs.Viable.{Viable, viable, have_of}

none_some : {A : Type 0} {x : A} → None ≡ Some x → ⊥
none_some eq = cc

-- nothing is read of no tokens
no_exp5 : {r : ℕ} {p q : Past} {rest : List Piece} {x : Tree} → IsExp5 r p [] rest x q → ⊥
no_exp5 x = elim x [ ]

no_exp3 : {r : ℕ} {p q : Past} {rest : List Piece} {x : Tree} → IsExp3 r p [] rest x q → ⊥
no_exp3 (exp4 (project x hs)) = no_exp5 x

no_exp1 : {r : ℕ} {p q : Past} {rest : List Piece} {x : Tree} → IsExp1 r p [] rest x q → ⊥
no_exp1 (exp2 (apply x xs)) = no_exp3 x
no_exp1 (arrow (apply x xs) y) = no_exp3 x
no_exp1 (pi x xs y) = elim x [ ]
no_exp1 (sigma x xs y) = elim x [ ]

no_exp : {r : ℕ} {p q : Past} {rest : List Piece} {x : Tree} → IsExp r p [] rest x q → ⊥
no_exp (exp1 x) = no_exp1 x

no_neg : {r : ℕ} {p q : Past} {rest : List Piece} {f : Formula} → IsNeg r p [] rest f q → ⊥
no_neg x = elim x [ ]

no_def_here : {r : ℕ} {p q : Past} {rest : List Piece} {x : Tree} → IsDef r p [] rest x q → ⊥
no_def_here x = elim x [ ]

no_items_here : {p q : Past} {is : List Span} {ds : Trees} → IsItems p [] is ds q → ⊥
no_items_here (defs d ds) = no_def_here d

no_defs_on : {f r : ℕ} {ds : Trees} {p q : Past} {K : List Frame} {m : Tree} → DefsOn f r ds p K [] m q → ⊥
no_defs_on (defs_on no_def b) = elim b [ ]

no_elements : {r : ℕ} {p q : Past} {w : Word} {s e : ℕ} {a : List Piece} {es : Trees} → IsElements r p [] (piece w s e ∷ a) es q → ⊥
no_elements (argument x xs) = no_exp3 x

no_teles : {r : ℕ} {p q : Past} {w : Word} {s e : ℕ} {a : List Piece} {xs : Trees} → IsTeles r p [] (piece w s e ∷ a) xs q → ⊥
no_teles (next_tele x xs) = elim x [ ]

no_teles_on : {u : Use} {r rt : ℕ} {xs : Trees} {p q : Past} {K : List Frame} {m : Tree} → TelesOn u r rt xs p K [] m q → ⊥
no_teles_on (to_lambda xs y a) = no_teles xs
no_teles_on (to_pi xs y a) = no_teles xs
no_teles_on (to_sigma xs y a) = no_teles xs
no_teles_on (to_def xs y a) = no_teles xs

-- the end of the text
after_end : {K : List Frame} {p q : Past} {x m : Tree} → After K p x [] m q → (finish_exp x p K ≡ Some m) × (q ≡ p)
after_end alone = (refl, refl)
after_end stray_let = (refl, refl)
after_end stray_where = (refl, refl)
after_end stray_module = (refl, refl)
after_end (arrow_ends a) = after_end a
after_end (binder_ends a) = after_end a
after_end (path_ends a) = after_end a
after_end (let_ends a) = after_end a
after_end (bracket_closes xs c) = elim xs [ ]
after_end (side_ends xs c) = elim xs [ ]
after_end (body_ends on) = absurd (no_defs_on on)

spined_end : {r rn i : ℕ} {f : Tree} {es : Trees} {p q : Past} {K : List Frame} {m : Tree}
    → Completes (Spined r rn i f es) p K [] m q → (finish_exp (applied (from i p) f es) p K ≡ Some m) × (q ≡ p)
spined_end (spine_ends no_element a) = after_end (rw trees_none at a)
spined_end (spine_ends (argument x xs) a) = absurd (no_exp3 x)
spined_end (spine_goes xs x a) = absurd (no_elements xs)

put_end : (pl : Place) (x : Tree) {p q : Past} {K : List Frame} {m : Tree}
    → Completes (put pl x) p K [] m q → (finish_given (put pl x) p K ≡ Some m) × (q ≡ p)
put_end (Head r i) x c = spined_end c
put_end (Element r rn i f es) x c = spined_end c

no_exp4_end : {slot : Slot} {p q : Past} {K : List Frame} {m : Tree} → Completes (WantExp4 slot) p K [] m q → ⊥
no_exp4_end (want_exp4 (project x hs) c) = no_exp5 x

no_system_end : {o : Owner} {p q : Past} {K : List Frame} {m : Tree} → Completes (WantSystem o) p K [] m q → ⊥
no_system_end (want_system ss c) = elim ss [ ]

give_end : (slot : Slot) (x : Tree) (u : Past) {p q : Past} {K : List Frame} {m : Tree}
    → Completes (give slot x u) p K [] m q → (finish_given (give slot x u) p K ≡ Some m) × (q ≡ p)
give_end (Whole pl) x u c = put_end pl x c
give_end (FirstOf (PairingWord w) s pl) x u c = absurd (no_exp4_end c)
give_end (FirstOf (GluingWord w) s pl) x u c = absurd (no_system_end c)
give_end (SecondOf PathWord s x pl) y u c = absurd (no_exp4_end c)
give_end (SecondOf (ComposingWord w) s x pl) y u c = absurd (no_system_end c)
give_end (SecondOf TransportWord s x pl) y u c = put_end pl _ c
give_end (ThirdOf s x y pl) z u c = put_end pl _ c

projected_end : {slot : Slot} {rn i : ℕ} {x : Tree} {hs : List Projection} {p q : Past} {K : List Frame} {m : Tree}
    → Completes (Projected slot rn i x hs) p K [] m q → (finish (Projected slot rn i x hs) p K ≡ Some m) × (q ≡ p)
projected_end {slot} {rn} {i} {x} {hs} {p} {q} {K} {m} (projections no_projection c) =
    let d : Completes (give slot (projected (from i p) x hs) p) p K [] m q = rw append-nil at c in give_end slot _ p d

formula_end : (pl : Place) (i : ℕ) {F : List Inner} {f g : Formula} {p v q : Past} {c : List Piece} {K : List Frame} {m : Tree}
    → FormulaOn F f p [] c g v → Completes (put pl (At (from i v) g)) v K c m q → (finish_formula pl i F f p K ≡ Some m) × (q ≡ p)
formula_end pl i whole c = put_end pl _ c
formula_end pl i (formula_negated on) c = formula_end pl i on c
formula_end pl i (formula_met on) c = formula_end pl i on c
formula_end pl i (formula_joined on) c = formula_end pl i on c

conj_end : (pl : Place) (i : ℕ) {F : List Inner} {r b : ℕ} {f g : Formula} {p v q : Past} {c : List Piece} {K : List Frame} {m : Tree}
    → ConjOn F r b f p [] c g v → Completes (put pl (At (from i v) g)) v K c m q → (finish_formula pl i F f p K ≡ Some m) × (q ≡ p)
conj_end pl i (conj_negated on) c = conj_end pl i on c
conj_end pl i (conj_met on) c = conj_end pl i on c
conj_end pl i (conj_ends free on) c = formula_end pl i on c

neg_end : (pl : Place) (i : ℕ) {F : List Inner} {r b : ℕ} {f g : Formula} {p v q : Past} {c : List Piece} {K : List Frame} {m : Tree}
    → NegOn F r b f p [] c g v → Completes (put pl (At (from i v) g)) v K c m q → (finish_formula pl i F f p K ≡ Some m) × (q ≡ p)
neg_end pl i (neg_negated on) c = neg_end pl i on c
neg_end pl i (neg_ends free on) c = conj_end pl i on c

at_end : {top : Top} {p q : Past} {K : List Frame} {m : Tree} → Completes top p K [] m q → (finish top p K ≡ Some m) × (q ≡ p)
at_end (first_items its) = absurd (no_items_here its)
at_end (next_items its) = absurd (no_items_here its)
at_end (want_def d on) = absurd (no_def_here d)
at_end (after_def on) = absurd (no_defs_on on)
at_end (want_block b c) = elim b [ ]
at_end (some_defs d on) = absurd (no_def_here d)
at_end done = (refl, refl)
at_end (want_exp x a) = absurd (no_exp x)
at_end (want_exp1 x a) = absurd (no_exp1 x)
at_end (path_name ns x a) = elim ns [ ]
at_end (want_tele x on) = elim x [ ]
at_end (tele_more ns x on) = elim ns [ ]
at_end (after_tele on) = absurd (no_teles_on on)
at_end (opened_exp x a) = absurd (no_exp x)
at_end (maybe_tele ns x on) = elim ns [ ]
at_end {p = p} (maybe_exp {K = K} {r = r} {i = i} {pl = pl} {n = n} {d = d} c) =
    absurd (none_some (in_place pl r i K n (record { end = p.end; deep = d }) _ (projected_end c).0))
  where
    in_place : (pl : Place) (r i : ℕ) (K : List Frame) (n : Span) (p : Past) (m : Tree)
        → finish (Projected (Whole pl) (room_of pl) n.start (Name n) []) p (in_bracket r i K) ≡ Some m → None ≡ Some m
    in_place (Head a b) r i K n p m eq = eq
    in_place (Element a b x f es) r i K n p m eq = eq
at_end (want_exp4 (project x hs) c) = absurd (no_exp5 x)
at_end (projections {rn = rn} hs c) = projected_end {rn = rn} (projections hs c)
at_end (spine_ends {r = r} {rn = rn} xs a) = spined_end {r = r} {rn = rn} (spine_ends xs a)
at_end (spine_goes xs x a) = absurd (no_elements xs)
at_end (want_neg n on c) = absurd (no_neg n)
at_end (have_neg {pl = pl} {i = i} on c) = neg_end pl i on c
at_end (want_system ss c) = elim ss [ ]
at_end (some_sides (want_side gqs x a)) = elim gqs [ ]
at_end (want_side gqs x a) = elim gqs [ ]

after_ends : (x : Tree) (p : Past) (K : List Frame) (m : Tree) → finish_exp x p K ≡ Some m → After K p x [] m p
after_ends x p [] m eq = let same : x ≡ m = cc in let P : Tree → Type 0 = λ y. After [] p x [] y p in subst P same alone
after_ends x p (InLet r i ∷ K) m eq = let same : x ≡ m = cc in let P : Tree → Type 0 = λ y. After (InLet r i ∷ K) p x [] y p in subst P same stray_let
after_ends x p (InWhere f r ds n xs t b ∷ K) m eq =
    let same : x ≡ m = cc in let P : Tree → Type 0 = λ y. After (InWhere f r ds n xs t b ∷ K) p x [] y p in subst P same stray_where
after_ends x p (InModule n is ∷ K) m eq = let same : x ≡ m = cc in let P : Tree → Type 0 = λ y. After (InModule n is ∷ K) p x [] y p in subst P same stray_module
after_ends x p (InArrow r i f ∷ K) m eq = arrow_ends (after_ends (Arrow (from i p) f (shallow (r - 1) x)) p K m eq)
after_ends x p (InBinder b r i xs ∷ K) m eq = binder_ends (after_ends (bind b (from i p) xs (shallow (r - 1) x)) p K m eq)
after_ends x p (InPath r i ns ∷ K) m eq = path_ends (after_ends (PathLambda (from i p) ns (shallow (r - 1) x)) p K m eq)
after_ends x p (InLetBody r i ds ∷ K) m eq = let_ends (after_ends (Let (from i p) ds (shallow (r - 1) x)) p K m eq)
after_ends x p (InBracket slot i rc xs ∷ K) m eq = absurd (none_some eq)
after_ends x p (InTele u r rt xs ns ∷ K) m eq = absurd (none_some eq)
after_ends x p (InSide o r ss eqs ∷ K) m eq = absurd (none_some eq)
after_ends x p (InType f r ds n xs ∷ K) m eq = absurd (none_some eq)
after_ends x p (InBody f r ds n xs t ∷ K) m eq = absurd (none_some eq)

spined_ends_so : (r rn i : ℕ) (f : Tree) (es : Trees) (p : Past) (K : List Frame) (m : Tree)
    → finish_exp (applied (from i p) f es) p K ≡ Some m → Completes (Spined r rn i f es) p K [] m p
spined_ends_so r rn i f es p K m eq = spine_ends no_element (rw trees_none (after_ends (applied (from i p) f es) p K m eq))

put_ends_so : (pl : Place) (x : Tree) (p : Past) (K : List Frame) (m : Tree) → finish_given (put pl x) p K ≡ Some m → Completes (put pl x) p K [] m p
put_ends_so (Head r i) x p K m eq = spined_ends_so r r i x none p K m eq
put_ends_so (Element r rn i f es) x p K m eq = spined_ends_so r (rn - 1) i f (keep_last rn es x) p K m eq

give_ends_so : (slot : Slot) (x : Tree) (u p : Past) (K : List Frame) (m : Tree)
    → finish_given (give slot x u) p K ≡ Some m → Completes (give slot x u) p K [] m p
give_ends_so (Whole pl) x u p K m eq = put_ends_so pl x p K m eq
give_ends_so (FirstOf (PairingWord w) s pl) x u p K m eq = absurd (none_some eq)
give_ends_so (FirstOf (GluingWord w) s pl) x u p K m eq = absurd (none_some eq)
give_ends_so (SecondOf PathWord s x pl) y u p K m eq = absurd (none_some eq)
give_ends_so (SecondOf (ComposingWord w) s x pl) y u p K m eq = absurd (none_some eq)
give_ends_so (SecondOf TransportWord s x pl) y u p K m eq = put_ends_so pl _ p K m eq
give_ends_so (ThirdOf s x y pl) z u p K m eq = put_ends_so pl _ p K m eq

formula_ends_so : (pl : Place) (i : ℕ) (F : List Inner) (f : Formula) (p : Past) (K : List Frame) (m : Tree)
    → finish_formula pl i F f p K ≡ Some m → FormulaGiven pl i F f p K [] m p
formula_ends_so pl i [] f p K m eq = formula_given whole (put_ends_so pl (At (from i p) f) p K m eq)
formula_ends_so pl i (InNegation r j ∷ F) f p K m eq = negated_given (formula_ends_so pl i F (Negate (from j p) (shallow_formula (r - 1) f)) p K m eq)
formula_ends_so pl i (InMeet r j g ∷ F) f p K m eq = met_given (formula_ends_so pl i F (Meet (from j p) g (shallow_formula (r - 1) f)) p K m eq)
formula_ends_so pl i (InJoin r j g ∷ F) f p K m eq = joined_given (formula_ends_so pl i F (Join (from j p) g (shallow_formula (r - 1) f)) p K m eq)
formula_ends_so pl i (InParens r j ∷ F) f p K m eq = absurd (none_some eq)

conj_ends_so : (pl : Place) (i : ℕ) (F : List Inner) (r b : ℕ) (f : Formula) (p : Past) (K : List Frame) (m : Tree)
    → finish_formula pl i F f p K ≡ Some m → ConjGiven pl i F r b f p K [] m p
conj_ends_so pl i [] r b f p K m eq = conj_ends_given tt (formula_ends_so pl i [] f p K m eq)
conj_ends_so pl i (InNegation r' j ∷ F) r b f p K m eq = conj_negated_given (conj_ends_so pl i F r' j (Negate (from j p) (shallow_formula (r' - 1) f)) p K m eq)
conj_ends_so pl i (InMeet r' j g ∷ F) r b f p K m eq = conj_met_given (conj_ends_so pl i F r' j (Meet (from j p) g (shallow_formula (r' - 1) f)) p K m eq)
conj_ends_so pl i (InJoin r' j g ∷ F) r b f p K m eq = conj_ends_given tt (formula_ends_so pl i (InJoin r' j g ∷ F) f p K m eq)
conj_ends_so pl i (InParens r' j ∷ F) r b f p K m eq = absurd (none_some eq)

neg_ends_so : (pl : Place) (i : ℕ) (F : List Inner) (r b : ℕ) (f : Formula) (p : Past) (K : List Frame) (m : Tree)
    → finish_formula pl i F f p K ≡ Some m → NegGiven pl i F r b f p K [] m p
neg_ends_so pl i (InNegation r' j ∷ F) r b f p K m eq = neg_negated_given (neg_ends_so pl i F r' j (Negate (from j p) (shallow_formula (r' - 1) f)) p K m eq)
neg_ends_so pl i [] r b f p K m eq = neg_ends_given tt (conj_ends_so pl i [] r b f p K m eq)
neg_ends_so pl i (InMeet r' j g ∷ F) r b f p K m eq = neg_ends_given tt (conj_ends_so pl i (InMeet r' j g ∷ F) r b f p K m eq)
neg_ends_so pl i (InJoin r' j g ∷ F) r b f p K m eq = neg_ends_given tt (conj_ends_so pl i (InJoin r' j g ∷ F) r b f p K m eq)
neg_ends_so pl i (InParens r' j ∷ F) r b f p K m eq = absurd (none_some eq)

ends_so : (top : Top) (p : Past) (K : List Frame) (m : Tree) → finish top p K ≡ Some m → Completes top p K [] m p
ends_so (Projected slot rn i x hs) p K m eq =
    projections no_projection (rw append-nil (give_ends_so slot (projected (from i p) x hs) p p K m eq))
ends_so (Spined r rn i f es) p K m eq = spined_ends_so r rn i f es p K m eq
ends_so (HaveNeg pl i F r b f) p K m eq = have_of (neg_ends_so pl i F r b f p K m eq)
ends_so (Done x) p K m eq = let same : x ≡ m = cc in let P : Tree → Type 0 = λ y. Completes (Done x) p K [] y p in subst P same done
ends_so top p K m eq = absurd (none_some eq)

-- whole runs
run_forth : (o : Option State) (past rest : List Piece) (m : Tree) (q : Past) → Now o (past ++ rest) m q → Now (run o past) rest m q
run_forth o [] rest m q c = c
run_forth None (t ∷ ts) rest m q c = absurd c
run_forth (Some s) (piece w i e ∷ ts) rest m q c = run_forth (step s.top s.past s.stack w i e) ts rest m q (forth c)

run_back : (o : Option State) (past rest : List Piece) (m : Tree) (q : Past) → Now (run o past) rest m q → Now o (past ++ rest) m q
run_back o [] rest m q c = c
run_back None (t ∷ ts) rest m q c = run_back None ts rest m q c
run_back (Some s) (piece w i e ∷ ts) rest m q c = back s.top s.past s.stack w i e (run_back (step s.top s.past s.stack w i e) ts rest m q c)

pub run_more : (o : Option State) (ts : List Piece) (t : Piece) → run o (ts ++ t ∷ []) ≡ and_step (run o ts) t
run_more o [] t = refl
run_more o (u ∷ ts) t = run_more (and_step o u) ts t

-- a kind of text, with the state in which it is begun
record Text (IsText : List Piece → Tree → Past → Type 0) (start : Option State) : Type 0 where
  into : (ts : List Piece) (m : Tree) (q : Past) → IsText ts m q → Now start ts m q
  out : (ts : List Piece) (m : Tree) (q : Past) → Now start ts m q → IsText ts m q

module_into : (ts : List Piece) (m : Tree) (q : Past) → IsModule ts m q → Now start_module ts m q
module_into ts m q empty_module = module_word (module_name (module_where (module_open no_items)))
module_into ts m q (items its) = module_word (module_name (module_where (module_open (first_items its))))

module_out : (ts : List Piece) (m : Tree) (q : Past) → Now start_module ts m q → IsModule ts m q
module_out ts m q (module_word (module_name (module_where (module_open no_items)))) = empty_module
module_out ts m q (module_word (module_name (module_where (module_open (first_items its))))) = items its

module_text : Text IsModule start_module
module_text = record { into = module_into; out = module_out }

exp_into : (ts : List Piece) (m : Tree) (q : Past) → IsWholeExp ts m q → Now start_exp ts m q
exp_into ts m q (whole_exp x) = want_exp x alone

exp_out : (ts : List Piece) (m : Tree) (q : Past) → Now start_exp ts m q → IsWholeExp ts m q
exp_out ts m q (want_exp x alone) = whole_exp x

exp_text : Text IsWholeExp start_exp
exp_text = record { into = exp_into; out = exp_out }

whole_run : {IsText : List Piece → Tree → Past → Type 0} {start : Option State} → Text IsText start → (ts : List Piece) (m : Tree) (q : Past)
    → IsText ts m q → Now (run start ts) [] m q
whole_run {IsText} {start} text ts m q is =
    run_forth start ts [] m q (let P : List Piece → Type 0 = λ us. Now start us m q in subst P (sym (append-nil ts)) (text.into ts m q is))

is_text : {IsText : List Piece → Tree → Past → Type 0} {start : Option State} → Text IsText start → (ts : List Piece) (s : State) (m : Tree)
    → run start ts ≡ Some s → finish s.top s.past s.stack ≡ Some m → IsText ts m s.past
is_text {IsText} {start} text ts s m ran eq =
    let R : Option State → Type 0 = λ o. Now o [] m s.past in
    let c : Now (run start ts) [] m s.past = subst R (sym ran) (ends_so s.top s.past s.stack m eq) in
    let P : List Piece → Type 0 = λ us. Now start us m s.past in
    text.out ts m s.past (subst P (append-nil ts) (run_back start ts [] m s.past c))

at_state : {IsText : List Piece → Tree → Past → Type 0} {start : Option State} → Text IsText start → (ts : List Piece) (s : State) (n : Tree) (q : Past)
    → run start ts ≡ Some s → IsText ts n q → Completes s.top s.past s.stack [] n q
at_state text ts s n q ran is = let R : Option State → Type 0 = λ o. Now o [] n q in subst R ran (whole_run text ts n q is)

is_only : {IsText : List Piece → Tree → Past → Type 0} {start : Option State} → Text IsText start → (ts : List Piece) (s : State) (m n : Tree) (q : Past)
    → run start ts ≡ Some s → finish s.top s.past s.stack ≡ Some m → IsText ts n q → (n ≡ m) × (q ≡ s.past)
is_only text ts s m n q ran eq is =
    let f = at_end (at_state text ts s n q ran is) in
    (let g : finish s.top s.past s.stack ≡ Some n = f.0 in cc, f.1)

state_viable : {IsText : List Piece → Tree → Past → Type 0} {start : Option State} → Text IsText start → (ts : List Piece) (s : State)
    → run start ts ≡ Some s → Viable (λ rest m q. IsText (ts ++ rest) m q)
state_viable {IsText} {start} text ts s ran =
    let v = viable s.top s.past s.stack in
    let R : Option State → Type 0 = λ o. Now o v.0 v.1 v.2 in
    (v.0, v.1, v.2, text.out (ts ++ v.0) v.1 v.2 (run_back start ts v.0 v.1 v.2 (subst R (sym ran) v.3)))

token_wrong : {IsText : List Piece → Tree → Past → Type 0} {start : Option State} → Text IsText start → (before : List Piece) (s : State) (t : Piece)
    → run start before ≡ Some s → and_step (Some s) t ≡ None → IsBegun IsText before × (IsBegun IsText (before ++ t ∷ []) → ⊥)
token_wrong {IsText} {start} text before s t ran eq = (
  state_viable text before s ran,
  λ b.
      let c : Now (run start (before ++ t ∷ [])) b.0 b.1 b.2 =
      run_forth start (before ++ t ∷ []) b.0 b.1 b.2 (text.into ((before ++ t ∷ []) ++ b.0) b.1 b.2 b.3) in
      let stuck : run start (before ++ t ∷ []) ≡ None = run_more start before t ∙ ap (λ o. and_step o t) ran ∙ eq in
      let R : Option State → Type 0 = λ o. Now o b.0 b.1 b.2 in subst R stuck c,
)

end_wrong : {IsText : List Piece → Tree → Past → Type 0} {start : Option State} → Text IsText start → (ts : List Piece) (s : State)
    → run start ts ≡ Some s → finish s.top s.past s.stack ≡ None → IsBegun IsText ts × ((m : Tree) (q : Past) → IsText ts m q → ⊥)
end_wrong text ts s ran eq =
    (state_viable text ts s ran, λ m q is. none_some (sym eq ∙ (at_end (at_state text ts s m q ran is)).0))

text_exact : {IsText : List Piece → Tree → Past → Type 0} {start : Option State} → Text IsText start → IsExact IsText start
text_exact text = record { reads = is_text text; only = is_only text; stops = token_wrong text; stops_at_end = end_wrong text }

pub module_exact : IsExact IsModule start_module
module_exact = text_exact module_text

pub exp_exact : IsExact IsWholeExp start_exp
exp_exact = text_exact exp_text
