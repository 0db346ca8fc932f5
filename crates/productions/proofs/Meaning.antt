-- What the parser's states mean: which tokens complete them, and to what.
use Rattle.std.proofs.Common.{ℕ, ◌-◌, List, [], ◌∷◌, ◌++◌, Option, Some, None}
use Rattle.layout_lexer.specs.declared.token.Span.{Span}
use Rattle.syntax.specs.declared.formula.End.{End}
use Rattle.syntax.specs.declared.formula.Equation.{Equation}
use Rattle.syntax.specs.declared.formula.Projection.{Projection}
use Rattle.syntax.specs.Tree.{Formula, Negate, Meet, Join, Tree, Let, Lambda, PathLambda, Pi, Sigma, Arrow, Name, Brackets, At, Tele, Side, Def, Module, Trees, none, and}
use Rattle.productions.specs.Words.{Open, Next, Close, RightParen, RightBracket, Colon, Equals, Greater, To, Star, And, Or, EndOf, ModuleWord, WhereWord, InWord, Identifier, Piece, piece, span}
use Rattle.productions.specs.Grammar.{begin, skip, start_of, from, kept, shallow, shallow_formula, applied, projected, equation, IsNames, IsProjections, IsFormula, IsConj, IsNeg, IsEquations, IsExp, IsExp1, IsElements, IsExp4, IsComponents, IsTele, IsTeles, IsSystem, IsSides, IsBlock, IsDef, IsDefs, IsItems}
use Rattle.productions.specs.Machine.{keep_last, Place, room_of, Slot, Whole, place_of, Owner, owner_room, Use, ForLambda, ForProduct, ForDef, Binder, bind, Frame, InBracket, InTele, InArrow, InBinder, InPath, InLet, InLetBody, InSide, InType, InBody, InWhere, InModule, Inner, InNegation, InMeet, InJoin, InParens, IsNoNegation, IsNoOperand, Top, WantModule, WantModuleName, WantModuleWhere, WantModuleOpen, FirstItem, WantImport, AfterImport, NextItem, WantDef, AfterDef, WantBlock, BlockStart, WantIn, Done, WantExp, WantExp1, WantPathName, PathName, WantTele, TeleName, TeleMore, AfterTele, Opened, Maybe, WantExp4, Projected, Spined, WantNeg, HaveNeg, WantSystem, SystemStart, WantSide, EquationName, EquationSign, EquationEnd, EquationClose, State, in_bracket, put, give, owned}
use Rattle.productions.specs.declared.past.Past.{Past}

-- A part of a formula stands in these frames, and the tokens up to the rest complete it to the formula.
mutual
  -- a neg
  pub data NegOn : List Inner → ℕ → ℕ → Formula → Past → List Piece → List Piece → Formula → Past → Type 0 where
    neg_negated : {F : List Inner} {r s j b : ℕ} {f g : Formula} {p q : Past} {ts rest : List Piece}
        → NegOn F r j (Negate (from j p) (shallow_formula (r - 1) f)) p ts rest g q
        → NegOn (InNegation r j ∷ F) s b f p ts rest g q
    neg_ends : {F : List Inner} {r b : ℕ} {f g : Formula} {p q : Past} {ts rest : List Piece}
        → IsNoNegation F → ConjOn F r b f p ts rest g q → NegOn F r b f p ts rest g q
    neg_meets : {F : List Inner} {r b s e : ℕ} {f g h : Formula} {p u q : Past} {ts a rest : List Piece}
        → IsNoNegation F → IsConj (r - 1) (skip e p) ts a h u
        → ConjOn F r b (Meet (from b u) f (shallow_formula (r - 1) h)) u a rest g q
        → NegOn F r b f p (piece And s e ∷ ts) rest g q

  -- a conj
  pub data ConjOn : List Inner → ℕ → ℕ → Formula → Past → List Piece → List Piece → Formula → Past → Type 0 where
    conj_negated : {F : List Inner} {r s j b : ℕ} {f g : Formula} {p q : Past} {ts rest : List Piece}
        → ConjOn F r j (Negate (from j p) (shallow_formula (r - 1) f)) p ts rest g q
        → ConjOn (InNegation r j ∷ F) s b f p ts rest g q
    conj_met : {F : List Inner} {r s j b : ℕ} {f g h : Formula} {p q : Past} {ts rest : List Piece}
        → ConjOn F r j (Meet (from j p) h (shallow_formula (r - 1) f)) p ts rest g q
        → ConjOn (InMeet r j h ∷ F) s b f p ts rest g q
    conj_ends : {F : List Inner} {r b : ℕ} {f g : Formula} {p q : Past} {ts rest : List Piece}
        → IsNoOperand F → FormulaOn F f p ts rest g q → ConjOn F r b f p ts rest g q
    conj_joins : {F : List Inner} {r b s e : ℕ} {f g h : Formula} {p u q : Past} {ts a rest : List Piece}
        → IsNoOperand F → IsFormula (r - 1) (skip e p) ts a h u
        → FormulaOn F (Join (from b u) f (shallow_formula (r - 1) h)) u a rest g q
        → ConjOn F r b f p (piece Or s e ∷ ts) rest g q

  -- a formula
  pub data FormulaOn : List Inner → Formula → Past → List Piece → List Piece → Formula → Past → Type 0 where
    whole : {f : Formula} {p : Past} {ts : List Piece} → FormulaOn [] f p ts ts f p
    formula_negated : {F : List Inner} {r j : ℕ} {f g : Formula} {p q : Past} {ts rest : List Piece}
        → FormulaOn F (Negate (from j p) (shallow_formula (r - 1) f)) p ts rest g q
        → FormulaOn (InNegation r j ∷ F) f p ts rest g q
    formula_met : {F : List Inner} {r j : ℕ} {f g h : Formula} {p q : Past} {ts rest : List Piece}
        → FormulaOn F (Meet (from j p) h (shallow_formula (r - 1) f)) p ts rest g q
        → FormulaOn (InMeet r j h ∷ F) f p ts rest g q
    formula_joined : {F : List Inner} {r j : ℕ} {f g h : Formula} {p q : Past} {ts rest : List Piece}
        → FormulaOn F (Join (from j p) h (shallow_formula (r - 1) f)) p ts rest g q
        → FormulaOn (InJoin r j h ∷ F) f p ts rest g q
    parens_close : {F : List Inner} {r j s e : ℕ} {f g : Formula} {p q : Past} {ts rest : List Piece}
        → NegOn F r j (shallow_formula (r - 1) f) (skip e p) ts rest g q
        → FormulaOn (InParens r j ∷ F) f p (piece RightParen s e ∷ ts) rest g q

-- frames that no block stands right in; no text leads there
abbrev pub IsStrayBlock : List Frame → Type 0
IsStrayBlock (InLet r s ∷ K) = ⊥
IsStrayBlock (InWhere f r ds n xs t b ∷ K) = ⊥
IsStrayBlock (InModule n is ∷ K) = ⊥
IsStrayBlock K = Unit {0}

mutual
  -- An expression stands in the stack, and these tokens after it complete it to the module.
  pub data After : List Frame → Past → Tree → List Piece → Tree → Past → Type 0 where
    alone : {p : Past} {x : Tree} → After [] p x [] x p
    -- no expression stands right in these three, and no text leads there
    stray_let : {K : List Frame} {r i : ℕ} {p : Past} {x : Tree} → After (InLet r i ∷ K) p x [] x p
    stray_where : {K : List Frame} {f r : ℕ} {n : Span} {ds xs : Trees} {t b : Tree} {p : Past} {x : Tree} → After (InWhere f r ds n xs t b ∷ K) p x [] x p
    stray_module : {K : List Frame} {n : Span} {is : List Span} {p : Past} {x : Tree} → After (InModule n is ∷ K) p x [] x p
    arrow_ends : {K : List Frame} {r i : ℕ} {p q : Past} {f x m : Tree} {ts : List Piece}
        → After K p (Arrow (from i p) f (shallow (r - 1) x)) ts m q → After (InArrow r i f ∷ K) p x ts m q
    binder_ends : {K : List Frame} {b : Binder} {r i : ℕ} {p q : Past} {x m : Tree} {xs : Trees} {ts : List Piece}
        → After K p (bind b (from i p) xs (shallow (r - 1) x)) ts m q → After (InBinder b r i xs ∷ K) p x ts m q
    path_ends : {K : List Frame} {r i : ℕ} {p q : Past} {x m : Tree} {ns : List Span} {ts : List Piece}
        → After K p (PathLambda (from i p) ns (shallow (r - 1) x)) ts m q → After (InPath r i ns ∷ K) p x ts m q
    let_ends : {K : List Frame} {r i : ℕ} {p q : Past} {x m : Tree} {ds : Trees} {ts : List Piece}
        → After K p (Let (from i p) ds (shallow (r - 1) x)) ts m q → After (InLetBody r i ds ∷ K) p x ts m q
    bracket_closes : {K : List Frame} {slot : Slot} {i rc s e : ℕ} {p u q : Past} {x m : Tree} {xs ys : Trees} {ts a : List Piece}
        → IsComponents rc p ts (piece RightParen s e ∷ a) ys u
        → Completes (Projected slot (room_of (place_of slot)) i (Brackets (span i e) (and xs (kept rc x ys))) []) (skip e u) K a m q
        → After (InBracket slot i rc xs ∷ K) p x ts m q
    tele_closes : {K : List Frame} {u : Use} {r rt s e : ℕ} {p q : Past} {x m : Tree} {xs : Trees} {ns : List Span} {ts : List Piece}
        → TelesOn u r (rt - 1) (keep_last rt xs (Tele ns (shallow (rt - 1) x))) (skip e p) K ts m q
        → After (InTele u r rt xs ns ∷ K) p x (piece RightParen s e ∷ ts) m q
    side_ends : {K : List Frame} {o : Owner} {r s e : ℕ} {p u q : Past} {x m : Tree} {ss ys : Trees} {eqs : List Equation} {ts a : List Piece}
        → IsSides r p ts (piece RightBracket s e ∷ a) ys u
        → Completes (owned o (and ss (kept r (Side eqs (shallow (r - 1) x)) ys)) (skip e u)) (skip e u) K a m q
        → After (InSide o r ss eqs ∷ K) p x ts m q
    type_ends : {K : List Frame} {f r s e : ℕ} {p u q : Past} {n : Span} {x b m : Tree} {ds xs : Trees} {ts a : List Piece}
        → IsExp r (skip e p) ts a b u → After (InBody f r ds n xs x ∷ K) u b a m q
        → After (InType f r ds n xs ∷ K) p x (piece Equals s e ∷ ts) m q
    body_ends : {K : List Frame} {f r : ℕ} {p q : Past} {n : Span} {x t m : Tree} {ds xs : Trees} {ts : List Piece}
        → DefsOn f r (keep_last r ds (Def n xs t x none)) p K ts m q → After (InBody f r ds n xs t ∷ K) p x ts m q
    body_where : {K : List Frame} {f r s e : ℕ} {p u q : Past} {n : Span} {x t m : Tree} {ds xs ls : Trees} {ts a : List Piece}
        → IsBlock (r - 1) (skip e p) ts a ls u → DefsOn f r (keep_last r ds (Def n xs t x ls)) u K a m q
        → After (InBody f r ds n xs t ∷ K) p x (piece WhereWord s e ∷ ts) m q

  -- the same for definitions of a block so far
  pub data DefsOn : ℕ → ℕ → Trees → Past → List Frame → List Piece → Tree → Past → Type 0 where
    defs_on : {K : List Frame} {f r : ℕ} {p u q : Past} {m : Tree} {ds others : Trees} {ts a : List Piece}
        → IsDefs f r p ts a others u → AfterBlock (and ds others) u K a m q → DefsOn f r ds p K ts m q

  -- all definitions of a block are there
  pub data AfterBlock : Trees → Past → List Frame → List Piece → Tree → Past → Type 0 where
    block_closes : {K : List Frame} {s e : ℕ} {p q : Past} {m : Tree} {ds : Trees} {ts : List Piece}
        → BlockOn ds (skip e p) K ts m q → AfterBlock ds p K (piece Close s e ∷ ts) m q

  -- a block
  pub data BlockOn : Trees → Past → List Frame → List Piece → Tree → Past → Type 0 where
    let_block : {K : List Frame} {r i s e : ℕ} {p u q : Past} {x m : Tree} {ds : Trees} {ts a : List Piece}
        → IsExp (r - 1) (skip e p) ts a x u → After K u (Let (from i u) ds (shallow (r - 1) x)) a m q
        → BlockOn ds p (InLet r i ∷ K) (piece InWord s e ∷ ts) m q
    where_block : {K : List Frame} {f r : ℕ} {p q : Past} {n : Span} {t b m : Tree} {ds xs ls : Trees} {ts : List Piece}
        → DefsOn f r (keep_last r ds (Def n xs t b ls)) p K ts m q → BlockOn ls p (InWhere f r ds n xs t b ∷ K) ts m q
    stray_block : {K : List Frame} {p : Past} {ds : Trees} → IsStrayBlock K → BlockOn ds p K [] (Module (span 0 0) [] ds) p
    module_block : {K : List Frame} {p : Past} {n : Span} {is : List Span} {ds : Trees} → BlockOn ds p (InModule n is ∷ K) [] (Module n is ds) p

  -- teles so far
  pub data TelesOn : Use → ℕ → ℕ → Trees → Past → List Frame → List Piece → Tree → Past → Type 0 where
    to_lambda : {K : List Frame} {r rt i s e : ℕ} {p u v q : Past} {xs ys : Trees} {x m : Tree} {ts a c : List Piece}
        → IsTeles rt p ts (piece To s e ∷ a) ys u → IsExp (r - 1) (skip e u) a c x v
        → After K v (Lambda (from i v) (and xs ys) (shallow (r - 1) x)) c m q → TelesOn (ForLambda i) r rt xs p K ts m q
    to_pi : {K : List Frame} {r rt i s e : ℕ} {p u v q : Past} {xs ys : Trees} {x m : Tree} {ts a c : List Piece}
        → IsTeles rt p ts (piece To s e ∷ a) ys u → IsExp1 (r - 1) (skip e u) a c x v
        → After K v (Pi (from i v) (and xs ys) (shallow (r - 1) x)) c m q → TelesOn (ForProduct i) r rt xs p K ts m q
    to_sigma : {K : List Frame} {r rt i s e : ℕ} {p u v q : Past} {xs ys : Trees} {x m : Tree} {ts a c : List Piece}
        → IsTeles rt p ts (piece Star s e ∷ a) ys u → IsExp1 (r - 1) (skip e u) a c x v
        → After K v (Sigma (from i v) (and xs ys) (shallow (r - 1) x)) c m q → TelesOn (ForProduct i) r rt xs p K ts m q
    to_def : {K : List Frame} {r rt f s e : ℕ} {p u v q : Past} {n : Span} {ds xs ys : Trees} {t m : Tree} {ts a c : List Piece}
        → IsTeles rt p ts (piece Colon s e ∷ a) ys u → IsExp r (skip e u) a c t v
        → After (InType f r ds n (and xs ys) ∷ K) v t c m q → TelesOn (ForDef f ds n) r rt xs p K ts m q

  -- These tokens complete the state to the module.
  pub data Completes : Top → Past → List Frame → List Piece → Tree → Past → Type 0 where
    module_word : {K : List Frame} {s e : ℕ} {p q : Past} {m : Tree} {ts : List Piece}
        → Completes WantModuleName (skip e p) K ts m q → Completes WantModule p K (piece ModuleWord s e ∷ ts) m q
    module_name : {K : List Frame} {s e : ℕ} {p q : Past} {m : Tree} {ts : List Piece}
        → Completes (WantModuleWhere (span s e)) (skip e p) K ts m q → Completes WantModuleName p K (piece Identifier s e ∷ ts) m q
    module_where : {K : List Frame} {s e : ℕ} {p q : Past} {n : Span} {m : Tree} {ts : List Piece}
        → Completes (WantModuleOpen n) (skip e p) K ts m q → Completes (WantModuleWhere n) p K (piece WhereWord s e ∷ ts) m q
    module_open : {K : List Frame} {s e : ℕ} {p q : Past} {n : Span} {m : Tree} {ts : List Piece}
        → Completes (FirstItem n) (skip e p) K ts m q → Completes (WantModuleOpen n) p K (piece Open s e ∷ ts) m q
    no_items : {K : List Frame} {s e : ℕ} {p : Past} {n : Span}
        → Completes (FirstItem n) p K (piece Close s e ∷ []) (Module n [] none) (skip e p)
    first_items : {K : List Frame} {p q : Past} {n : Span} {is : List Span} {ds : Trees} {ts : List Piece}
        → IsItems p ts is ds q → Completes (FirstItem n) p K ts (Module n is ds) q
    next_items : {K : List Frame} {p q : Past} {n : Span} {is js : List Span} {ds : Trees} {ts : List Piece}
        → IsItems p ts js ds q → Completes (NextItem n is) p K ts (Module n (is ++ js) ds) q
    want_import : {K : List Frame} {s e : ℕ} {p q : Past} {n : Span} {is : List Span} {m : Tree} {ts : List Piece}
        → Completes (AfterImport n (is ++ span s e ∷ [])) (skip e p) K ts m q → Completes (WantImport n is) p K (piece Identifier s e ∷ ts) m q
    more_imports : {K : List Frame} {s e : ℕ} {p q : Past} {n : Span} {is : List Span} {m : Tree} {ts : List Piece}
        → Completes (NextItem n is) (skip e p) K ts m q → Completes (AfterImport n is) p K (piece Next s e ∷ ts) m q
    no_more_imports : {K : List Frame} {s e : ℕ} {p : Past} {n : Span} {is : List Span}
        → Completes (AfterImport n is) p K (piece Close s e ∷ []) (Module n is none) (skip e p)
    want_def : {K : List Frame} {f r : ℕ} {p u q : Past} {x m : Tree} {ds : Trees} {ts a : List Piece}
        → IsDef r p ts a x u → DefsOn f r (keep_last r ds x) u K a m q → Completes (WantDef f r ds) p K ts m q
    after_def : {K : List Frame} {f r : ℕ} {p q : Past} {m : Tree} {ds : Trees} {ts : List Piece}
        → DefsOn f r ds p K ts m q → Completes (AfterDef f r ds) p K ts m q
    want_block : {K : List Frame} {r : ℕ} {p u q : Past} {m : Tree} {ds : Trees} {ts a : List Piece}
        → IsBlock r p ts a ds u → BlockOn ds u K a m q → Completes (WantBlock r) p K ts m q
    no_defs : {K : List Frame} {r s e : ℕ} {p q : Past} {m : Tree} {ts : List Piece}
        → BlockOn none (skip e p) K ts m q → Completes (BlockStart r) p K (piece Close s e ∷ ts) m q
    some_defs : {K : List Frame} {r : ℕ} {p u q : Past} {x m : Tree} {ts a : List Piece}
        → IsDef r p ts a x u → DefsOn 1 r (keep_last r none x) u K a m q → Completes (BlockStart r) p K ts m q
    want_in : {K : List Frame} {r i s e : ℕ} {p u q : Past} {x m : Tree} {ds : Trees} {ts a : List Piece}
        → IsExp (r - 1) (skip e p) ts a x u → After K u (Let (from i u) ds (shallow (r - 1) x)) a m q
        → Completes (WantIn r i ds) p K (piece InWord s e ∷ ts) m q
    done : {K : List Frame} {p : Past} {m : Tree} → Completes (Done m) p K [] m p
    want_exp : {K : List Frame} {r : ℕ} {p u q : Past} {x m : Tree} {ts a : List Piece}
        → IsExp r p ts a x u → After K u x a m q → Completes (WantExp r) p K ts m q
    want_exp1 : {K : List Frame} {r : ℕ} {p u q : Past} {x m : Tree} {ts a : List Piece}
        → IsExp1 r p ts a x u → After K u x a m q → Completes (WantExp1 r) p K ts m q
    want_path_name : {K : List Frame} {r i s e k l : ℕ} {p u v q : Past} {ns : List Span} {x m : Tree} {ts a c : List Piece}
        → IsNames (r - 1) (begin r s e p) ts (piece Greater k l ∷ a) ns u → IsExp (r - 1) (skip l u) a c x v
        → After K v (PathLambda (from i v) (span s e ∷ ns) (shallow (r - 1) x)) c m q
        → Completes (WantPathName r i) p K (piece Identifier s e ∷ ts) m q
    path_name : {K : List Frame} {r i rn k l : ℕ} {p u v q : Past} {ns ms : List Span} {x m : Tree} {ts a c : List Piece}
        → IsNames rn p ts (piece Greater k l ∷ a) ms u → IsExp (r - 1) (skip l u) a c x v
        → After K v (PathLambda (from i v) (ns ++ ms) (shallow (r - 1) x)) c m q
        → Completes (PathName r i ns rn) p K ts m q
    want_tele : {K : List Frame} {r i : ℕ} {p u q : Past} {x m : Tree} {ts a : List Piece}
        → IsTele r p ts a x u → TelesOn (ForLambda i) r (r - 1) (keep_last r none x) u K a m q → Completes (WantTele r i) p K ts m q
    tele_name : {K : List Frame} {w : Use} {r rt s e k l y z : ℕ} {p u v q : Past} {xs : Trees} {ns : List Span} {x m : Tree} {ts a c : List Piece}
        → IsNames (rt - 1) (begin rt s e p) ts (piece Colon k l ∷ a) ns u → IsExp (rt - 1) (skip l u) a (piece RightParen y z ∷ c) x v
        → TelesOn w r (rt - 1) (keep_last rt xs (Tele (span s e ∷ ns) (shallow (rt - 1) x))) (skip z v) K c m q
        → Completes (TeleName w r rt xs) p K (piece Identifier s e ∷ ts) m q
    tele_more : {K : List Frame} {w : Use} {r rt rn k l y z : ℕ} {p u v q : Past} {xs : Trees} {ns ms : List Span} {x m : Tree} {ts a c : List Piece}
        → IsNames rn p ts (piece Colon k l ∷ a) ms u → IsExp (rt - 1) (skip l u) a (piece RightParen y z ∷ c) x v
        → TelesOn w r (rt - 1) (keep_last rt xs (Tele (ns ++ ms) (shallow (rt - 1) x))) (skip z v) K c m q
        → Completes (TeleMore w r rt xs ns rn) p K ts m q
    after_tele : {K : List Frame} {w : Use} {r rt : ℕ} {p q : Past} {xs : Trees} {m : Tree} {ts : List Piece}
        → TelesOn w r rt xs p K ts m q → Completes (AfterTele w r rt xs) p K ts m q
    opened_exp : {K : List Frame} {r i : ℕ} {p u q : Past} {x m : Tree} {ts a : List Piece}
        → IsExp (r - 1) p ts a x u → After (in_bracket r i K) u x a m q → Completes (Opened r i) p K ts m q
    opened_tele : {K : List Frame} {r i s e k l y z : ℕ} {p u v q : Past} {ns : List Span} {x m : Tree} {ts a c : List Piece}
        → IsNames (r - 1) (begin r s e p) ts (piece Colon k l ∷ a) ns u → IsExp (r - 1) (skip l u) a (piece RightParen y z ∷ c) x v
        → TelesOn (ForProduct i) r (r - 1) (keep_last r none (Tele (span s e ∷ ns) (shallow (r - 1) x))) (skip z v) K c m q
        → Completes (Opened r i) p K (piece Identifier s e ∷ ts) m q
    maybe_tele : {K : List Frame} {r i rn k l y z : ℕ} {pl : Place} {n : Span} {d : Option ℕ} {p u v q : Past} {ns ms : List Span} {x m : Tree} {ts a c : List Piece}
        → IsNames rn p ts (piece Colon k l ∷ a) ms u → IsExp (r - 1) (skip l u) a (piece RightParen y z ∷ c) x v
        → TelesOn (ForProduct i) r (r - 1) (keep_last r none (Tele (ns ++ ms) (shallow (r - 1) x))) (skip z v) K c m q
        → Completes (Maybe r i ns rn pl n d) p K ts m q
    maybe_exp : {K : List Frame} {r i rn : ℕ} {pl : Place} {n : Span} {d : Option ℕ} {p q : Past} {ns : List Span} {m : Tree} {ts : List Piece}
        → Completes (Projected (Whole pl) (room_of pl) n.start (Name n) []) (record { end = p.end; deep = d }) (in_bracket r i K) ts m q
        → Completes (Maybe r i ns rn pl n d) p K ts m q
    want_exp4 : {K : List Frame} {slot : Slot} {p u q : Past} {x m : Tree} {ts a : List Piece}
        → IsExp4 (room_of (place_of slot)) p ts a x u → Completes (give slot x u) u K a m q → Completes (WantExp4 slot) p K ts m q
    projections : {K : List Frame} {slot : Slot} {rn i : ℕ} {p u q : Past} {x m : Tree} {hs gs : List Projection} {ts a : List Piece}
        → IsProjections rn p ts a gs u → Completes (give slot (projected (from i u) x (hs ++ gs)) u) u K a m q
        → Completes (Projected slot rn i x hs) p K ts m q
    spine_ends : {K : List Frame} {r rn i : ℕ} {p u q : Past} {f m : Tree} {es xs : Trees} {ts a : List Piece}
        → IsElements rn p ts a xs u → After K u (applied (from i u) f (and es xs)) a m q → Completes (Spined r rn i f es) p K ts m q
    spine_goes : {K : List Frame} {r rn i s e : ℕ} {p u v q : Past} {f x m : Tree} {es xs : Trees} {ts a c : List Piece}
        → IsElements rn p ts (piece To s e ∷ a) xs u → IsExp1 (r - 1) (skip e u) a c x v
        → After K v (Arrow (from i v) (applied (from i u) f (and es xs)) (shallow (r - 1) x)) c m q
        → Completes (Spined r rn i f es) p K ts m q
    want_neg : {K : List Frame} {pl : Place} {i r : ℕ} {F : List Inner} {p u v q : Past} {f g : Formula} {m : Tree} {ts a c : List Piece}
        → IsNeg r p ts a f u → NegOn F r (start_of ts) f u a c g v → Completes (put pl (At (from i v) g)) v K c m q
        → Completes (WantNeg pl i F r) p K ts m q
    have_neg : {K : List Frame} {pl : Place} {i r b : ℕ} {F : List Inner} {p v q : Past} {f g : Formula} {m : Tree} {ts c : List Piece}
        → NegOn F r b f p ts c g v → Completes (put pl (At (from i v) g)) v K c m q → Completes (HaveNeg pl i F r b f) p K ts m q
    want_system : {K : List Frame} {o : Owner} {p u q : Past} {ss : Trees} {m : Tree} {ts a : List Piece}
        → IsSystem (owner_room o) p ts a ss u → Completes (owned o ss u) u K a m q → Completes (WantSystem o) p K ts m q
    no_sides : {K : List Frame} {o : Owner} {s e : ℕ} {p q : Past} {m : Tree} {ts : List Piece}
        → Completes (owned o none (skip e p)) (skip e p) K ts m q → Completes (SystemStart o) p K (piece RightBracket s e ∷ ts) m q
    some_sides : {K : List Frame} {o : Owner} {p q : Past} {m : Tree} {ts : List Piece}
        → Completes (WantSide o (owner_room o) none []) p K ts m q → Completes (SystemStart o) p K ts m q
    want_side : {K : List Frame} {o : Owner} {r s e : ℕ} {p u v q : Past} {ss : Trees} {eqs gqs : List Equation} {x m : Tree} {ts a c : List Piece}
        → IsEquations r p ts (piece To s e ∷ a) gqs u → IsExp (r - 1) (begin r s e u) a c x v
        → After (InSide o r ss (eqs ++ gqs) ∷ K) v x c m q → Completes (WantSide o r ss eqs) p K ts m q
    equation_name : {K : List Frame} {o : Owner} {r s e : ℕ} {p q : Past} {ss : Trees} {eqs : List Equation} {m : Tree} {ts : List Piece}
        → Completes (EquationSign o r ss eqs (span s e)) (skip e p) K ts m q → Completes (EquationName o r ss eqs) p K (piece Identifier s e ∷ ts) m q
    equation_sign : {K : List Frame} {o : Owner} {r s e : ℕ} {n : Span} {p q : Past} {ss : Trees} {eqs : List Equation} {m : Tree} {ts : List Piece}
        → Completes (EquationEnd o r ss eqs n) (skip e p) K ts m q → Completes (EquationSign o r ss eqs n) p K (piece Equals s e ∷ ts) m q
    equation_end : {K : List Frame} {o : Owner} {x : End} {r s e : ℕ} {n : Span} {p q : Past} {ss : Trees} {eqs : List Equation} {m : Tree} {ts : List Piece}
        → Completes (EquationClose o r ss (eqs ++ equation n x ∷ [])) (skip e p) K ts m q
        → Completes (EquationEnd o r ss eqs n) p K (piece (EndOf x) s e ∷ ts) m q
    equation_close : {K : List Frame} {o : Owner} {r s e : ℕ} {p q : Past} {ss : Trees} {eqs : List Equation} {m : Tree} {ts : List Piece}
        → Completes (WantSide o r ss eqs) (skip e p) K ts m q → Completes (EquationClose o r ss eqs) p K (piece RightParen s e ∷ ts) m q

-- the same for a state that there may be
abbrev pub Now : Option State → List Piece → Tree → Past → Type 0
Now None ts m q = ⊥
Now (Some s) ts m q = Completes s.top s.past s.stack ts m q
