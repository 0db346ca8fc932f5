-- Each step keeps what completes.
use Rattle.std.proofs.Common.{ℕ, zero, suc, ◌≡◌, ◌-◌, List, [], ◌∷◌, ◌++◌, refl, ap, ◌∙◌, append_assoc}
use Rattle.syntax.specs.Tree.{Tree, Let, PathLambda, Arrow, Def, Trees, none, more, and}
use Rattle.productions.specs.Words.{PathWord, ComposingWord, TransportWord, PairingWord, GluingWord, Word, Next, Close, LeftParen, RightParen, RightBracket, Comma, Equals, And, Or, Dot, WhereWord, Form, UniverseWord, Identifier, Piece, piece}
use Rattle.productions.specs.Grammar.{skip, from, kept, shallow, no_element, argument, at, IsExp3, path_type, comp_or_fill, transport, glue, exp4, project, universe, name, brackets, no_component, next_component, empty_system, system, no_side, next_side, side, no_def, next_def}
use Rattle.productions.specs.Machine.{keep_last, Place, Head, Element, room_of, Slot, Whole, FirstOf, SecondOf, ThirdOf, Owner, Frame, InBracket, InTele, InArrow, InBinder, InPath, InLet, InLetBody, InSide, InType, InBody, InWhere, InModule, WantExp4, Spined, WantSystem, put, give, bind, close_block, deliver, step_exp5, step_exp3}
use Rattle.productions.specs.declared.past.Past.{Past}
use Rattle.productions.proofs.Meaning.{After, arrow_ends, binder_ends, path_ends, let_ends, bracket_closes, tele_closes, side_ends, type_ends, body_ends, body_where, defs_on, AfterBlock, block_closes, BlockOn, let_block, where_block, stray_block, module_block, Completes, want_def, after_def, want_block, want_in, done, want_exp, after_tele, want_exp4, projections, spine_ends, spine_goes, want_system, want_side, Now}

-- lists: one more element
trees_assoc : (xs ys zs : Trees) → and (and xs ys) zs ≡ and xs (and ys zs)
trees_assoc none ys zs = refl
trees_assoc (more x xs) ys zs = ap (more x) (trees_assoc xs ys zs)

pub trees_none : (xs : Trees) → and xs none ≡ xs
trees_none none = refl
trees_none (more x xs) = ap (more x) (trees_none xs)

pub kept_one : (r : ℕ) (x : Tree) (ys : Trees) → and (kept r x none) ys ≡ kept r x ys
kept_one zero x ys = refl
kept_one (suc r) x ys = refl

pub keep_more : (r : ℕ) (xs : Trees) (x : Tree) (ys : Trees) → and (and xs (kept r x none)) ys ≡ and xs (kept r x ys)
keep_more r xs x ys = trees_assoc xs (kept r x none) ys ∙ ap (and xs) (kept_one r x ys)

pub list_more : {A : Type 0} (xs : List A) (x : A) (ys : List A) → (xs ++ x ∷ []) ++ ys ≡ xs ++ x ∷ ys
list_more xs x ys = append_assoc xs (x ∷ []) ys

-- what may stand after a whole expression
abbrev pub Follows : Word → Type 0
Follows RightParen = Unit {0}
Follows RightBracket = Unit {0}
Follows Comma = Unit {0}
Follows Equals = Unit {0}
Follows Next = Unit {0}
Follows Close = Unit {0}
Follows WhereWord = Unit {0}
Follows w = ⊥

pub follows : {x : Tree} {p q : Past} {K : List Frame} {w : Word} {s e : ℕ} {ts : List Piece} {m : Tree}
    → After K p x (piece w s e ∷ ts) m q → Follows w
follows (arrow_ends a) = follows a
follows (binder_ends a) = follows a
follows (path_ends a) = follows a
follows (let_ends a) = follows a
follows (bracket_closes no_component c) = tt
follows (bracket_closes (next_component x xs) c) = tt
follows (tele_closes c) = tt
follows (side_ends no_side c) = tt
follows (side_ends (next_side x xs) c) = tt
follows (type_ends x a) = tt
follows (body_ends (defs_on no_def (block_closes b))) = tt
follows (body_ends (defs_on (next_def x xs) b)) = tt
follows (body_where b c) = tt

-- what may stand after an exp4
abbrev pub Continues : Word → Type 0
Continues (Dot h) = ⊥
Continues And = ⊥
Continues Or = ⊥
Continues w = Unit {0}

pub follows_continues : (w : Word) → Follows w → Continues w
follows_continues (Dot h) f = absurd f
follows_continues And f = absurd f
follows_continues Or f = absurd f
follows_continues w f = tt

-- what an exp3 begins with
abbrev pub Starts : Word → Type 0
Starts Identifier = Unit {0}
Starts UniverseWord = Unit {0}
Starts LeftParen = Unit {0}
Starts (Form w) = Unit {0}
Starts w = ⊥

pub exp3_starts : {r s e : ℕ} {p q : Past} {w : Word} {ts rest : List Piece} {x : Tree} → IsExp3 r p (piece w s e ∷ ts) rest x q → Starts w
exp3_starts (path_type x y z) = tt
exp3_starts (comp_or_fill x y ss) = tt
exp3_starts (transport x y) = tt
exp3_starts (glue x ss) = tt
exp3_starts (exp4 (project universe hs)) = tt
exp3_starts (exp4 (project name hs)) = tt
exp3_starts (exp4 (project (brackets x xs) hs)) = tt

pub starts_continue : (w : Word) → Starts w → Continues w
starts_continue (Dot h) f = absurd f
starts_continue And f = absurd f
starts_continue Or f = absurd f
starts_continue w f = tt

pub spined_continues : {r rn i s e : ℕ} {f m : Tree} {es : Trees} {p q : Past} {K : List Frame} {w : Word} {ts : List Piece}
    → Completes (Spined r rn i f es) p K (piece w s e ∷ ts) m q → Continues w
spined_continues {w = w} (spine_ends no_element a) = follows_continues w (follows a)
spined_continues {w = w} (spine_ends (argument x xs) a) = starts_continue w (exp3_starts x)
spined_continues (spine_ends (at f xs) a) = tt
spined_continues (spine_goes no_element x a) = tt
spined_continues {w = w} (spine_goes (argument y xs) x a) = starts_continue w (exp3_starts y)
spined_continues (spine_goes (at f xs) x a) = tt

pub put_continues : (pl : Place) (x : Tree) {m : Tree} {s e : ℕ} {p q : Past} {K : List Frame} {w : Word} {ts : List Piece}
    → Completes (put pl x) p K (piece w s e ∷ ts) m q → Continues w
put_continues (Head r s) x c = spined_continues c
put_continues (Element r rn s f es) x c = spined_continues c

want_exp4_continues : {slot : Slot} {m : Tree} {s e : ℕ} {p q : Past} {K : List Frame} {w : Word} {ts : List Piece}
    → Completes (WantExp4 slot) p K (piece w s e ∷ ts) m q → Continues w
want_exp4_continues {w = w} (want_exp4 x c) = starts_continue w (exp3_starts (exp4 x))

want_system_continues : {o : Owner} {m : Tree} {s e : ℕ} {p q : Past} {K : List Frame} {w : Word} {ts : List Piece}
    → Completes (WantSystem o) p K (piece w s e ∷ ts) m q → Continues w
want_system_continues (want_system empty_system c) = tt
want_system_continues (want_system (system x xs) c) = tt

pub give_continues : (slot : Slot) (x : Tree) (u : Past) {m : Tree} {s e : ℕ} {p q : Past} {K : List Frame} {w : Word} {ts : List Piece}
    → Completes (give slot x u) p K (piece w s e ∷ ts) m q → Continues w
give_continues (Whole pl) x u c = put_continues pl x c
give_continues (FirstOf (PairingWord w) s pl) x u c = want_exp4_continues c
give_continues (FirstOf (GluingWord w) s pl) x u c = want_system_continues c
give_continues (SecondOf PathWord s x pl) y u c = want_exp4_continues c
give_continues (SecondOf (ComposingWord w) s x pl) y u c = want_system_continues c
give_continues (SecondOf TransportWord s x pl) y u c = put_continues pl _ c
give_continues (ThirdOf s x y pl) z u c = put_continues pl _ c

-- a block's end
pub close_back : (ds : Trees) (p : Past) (K : List Frame) (s e : ℕ) {ts : List Piece} {m : Tree} {q : Past}
    → Now (close_block ds p K e) ts m q → AfterBlock ds p K (piece Close s e ∷ ts) m q
close_back ds p (InLet r i ∷ K) s e (want_in x a) = block_closes (let_block x a)
close_back ds p (InWhere f r es n xs t b ∷ K) s e (after_def on) = block_closes (where_block on)
close_back ds p (InModule n is ∷ K) s e done = block_closes module_block
close_back ds p [] s e done = block_closes (stray_block tt)
close_back ds p (InBracket slot i rc xs ∷ K) s e done = block_closes (stray_block tt)
close_back ds p (InTele u r rt xs ns ∷ K) s e done = block_closes (stray_block tt)
close_back ds p (InArrow r i f ∷ K) s e done = block_closes (stray_block tt)
close_back ds p (InBinder b r i xs ∷ K) s e done = block_closes (stray_block tt)
close_back ds p (InPath r i ns ∷ K) s e done = block_closes (stray_block tt)
close_back ds p (InLetBody r i es ∷ K) s e done = block_closes (stray_block tt)
close_back ds p (InSide o r ss eqs ∷ K) s e done = block_closes (stray_block tt)
close_back ds p (InType f r es n xs ∷ K) s e done = block_closes (stray_block tt)
close_back ds p (InBody f r es n xs t ∷ K) s e done = block_closes (stray_block tt)

pub block_forth : (ds : Trees) (p : Past) (K : List Frame) (e : ℕ) {ts : List Piece} {m : Tree} {q : Past}
    → BlockOn ds (skip e p) K ts m q → Now (close_block ds p K e) ts m q
block_forth ds p K e (let_block x a) = want_in x a
block_forth ds p K e (where_block on) = after_def on
block_forth ds p K e module_block = done
block_forth ds p [] e (stray_block h) = done
block_forth ds p (InBracket slot i rc xs ∷ K) e (stray_block h) = done
block_forth ds p (InTele u r rt xs ns ∷ K) e (stray_block h) = done
block_forth ds p (InArrow r i f ∷ K) e (stray_block h) = done
block_forth ds p (InBinder b r i xs ∷ K) e (stray_block h) = done
block_forth ds p (InPath r i ns ∷ K) e (stray_block h) = done
block_forth ds p (InLetBody r i es ∷ K) e (stray_block h) = done
block_forth ds p (InSide o r ss eqs ∷ K) e (stray_block h) = done
block_forth ds p (InType f r es n xs ∷ K) e (stray_block h) = done
block_forth ds p (InBody f r es n xs t ∷ K) e (stray_block h) = done
block_forth ds p (InLet r i ∷ K) e (stray_block h) = absurd h
block_forth ds p (InWhere f r es n xs t b ∷ K) e (stray_block h) = absurd h
block_forth ds p (InModule n is ∷ K) e (stray_block h) = absurd h

-- deliver
pub deliver_back : (x : Tree) (p : Past) (K : List Frame) (w : Word) (s e : ℕ) {ts : List Piece} {m : Tree} {q : Past}
    → Now (deliver x p K w s e) ts m q → After K p x (piece w s e ∷ ts) m q
deliver_back x p [] w s e c = absurd c
deliver_back x p (InArrow r i f ∷ K) w s e c = arrow_ends (deliver_back (Arrow (from i p) f (shallow (r - 1) x)) p K w s e c)
deliver_back x p (InBinder b r i xs ∷ K) w s e c = binder_ends (deliver_back (bind b (from i p) xs (shallow (r - 1) x)) p K w s e c)
deliver_back x p (InPath r i ns ∷ K) w s e c = path_ends (deliver_back (PathLambda (from i p) ns (shallow (r - 1) x)) p K w s e c)
deliver_back x p (InLetBody r i ds ∷ K) w s e c = let_ends (deliver_back (Let (from i p) ds (shallow (r - 1) x)) p K w s e c)
deliver_back x p (InBracket slot i rc xs ∷ K) Comma s e (want_exp y (bracket_closes ys c)) = bracket_closes (next_component y ys) (rw keep_more at c)
deliver_back x p (InBracket slot i rc xs ∷ K) RightParen s e c = bracket_closes no_component c
deliver_back x p (InTele u r rt xs ns ∷ K) RightParen s e (after_tele c) = tele_closes c
deliver_back x p (InSide o r ss eqs ∷ K) Comma s e (want_side gqs y (side_ends ys c)) = side_ends (next_side (side gqs y) ys) (rw keep_more at c)
deliver_back x p (InSide o r ss eqs ∷ K) RightBracket s e c = side_ends no_side c
deliver_back x p (InType f r ds n xs ∷ K) Equals s e (want_exp b a) = type_ends b a
deliver_back x p (InBody f r ds n xs t ∷ K) Next s e (want_def d (defs_on ds' b)) = body_ends (defs_on (next_def d ds') (rw keep_more at b))
deliver_back x p (InBody f r ds n xs t ∷ K) WhereWord s e (want_block b (where_block on)) = body_where b on
deliver_back x p (InBody f r ds n xs t ∷ K) WhereWord s e (want_block b (stray_block h)) = absurd h
deliver_back x p (InBody f r ds n xs t ∷ K) Close s e c =
    body_ends (defs_on no_def (rw trees_none (close_back (keep_last r ds (Def n xs t x none)) p K s e c)))
deliver_back x p (frame ∷ K) w s e c = absurd c

pub deliver_forth : {x : Tree} {p : Past} {K : List Frame} {w : Word} {s e : ℕ} {ts : List Piece} {m : Tree} {q : Past}
    → After K p x (piece w s e ∷ ts) m q → Now (deliver x p K w s e) ts m q
deliver_forth (arrow_ends a) = deliver_forth a
deliver_forth (binder_ends a) = deliver_forth a
deliver_forth (path_ends a) = deliver_forth a
deliver_forth (let_ends a) = deliver_forth a
deliver_forth (bracket_closes no_component c) = c
deliver_forth (bracket_closes (next_component y ys) c) = want_exp y (bracket_closes ys (rw keep_more c))
deliver_forth (tele_closes c) = after_tele c
deliver_forth (side_ends no_side c) = c
deliver_forth (side_ends (next_side (side gqs y) ys) c) = want_side gqs y (side_ends ys (rw keep_more c))
deliver_forth (type_ends b a) = want_exp b a
deliver_forth (body_ends (defs_on (next_def d ds') b)) = want_def d (defs_on ds' (rw keep_more b))
deliver_forth {x = x} {p = p} {e = e} (body_ends {K = K} {f = f} {r = r} {n = n} {t = t} {ds = ds} {xs = xs} (defs_on no_def (block_closes b))) =
    block_forth (keep_last r ds (Def n xs t x none)) p K e (rw trees_none at b)
deliver_forth (body_where b on) = want_block b (where_block on)

-- the start of an exp5
pub exp5_back : (slot : Slot) (p : Past) (K : List Frame) (w : Word) (s e : ℕ) {ts : List Piece} {m : Tree} {q : Past}
    → Now (step_exp5 slot p K w s e) ts m q → Completes (WantExp4 slot) p K (piece w s e ∷ ts) m q
exp5_back slot p K Identifier s e (projections hs c) = want_exp4 (project name hs) c
exp5_back slot p K UniverseWord s e (projections hs c) = want_exp4 (project universe hs) c
exp5_back slot p K LeftParen s e (want_exp x (bracket_closes xs (projections hs c))) = want_exp4 (project (brackets x xs) hs) c
exp5_back slot p K w s e c = absurd c

pub exp5_forth : {slot : Slot} {p : Past} {K : List Frame} {w : Word} {s e : ℕ} {ts : List Piece} {m : Tree} {q : Past}
    → Completes (WantExp4 slot) p K (piece w s e ∷ ts) m q → Now (step_exp5 slot p K w s e) ts m q
exp5_forth (want_exp4 (project name hs) c) = projections hs c
exp5_forth (want_exp4 (project universe hs) c) = projections hs c
exp5_forth (want_exp4 (project (brackets x xs) hs) c) = want_exp x (bracket_closes xs (projections hs c))

-- an exp3 begins in its place
pub data Exp3On : Place → Past → List Frame → List Piece → Tree → Past → Type 0 where
  exp3_on : {K : List Frame} {pl : Place} {p u q : Past} {x m : Tree} {ts a : List Piece}
      → IsExp3 (room_of pl) p ts a x u → Completes (put pl x) u K a m q → Exp3On pl p K ts m q

pub of_exp4 : {pl : Place} {p : Past} {K : List Frame} {ts : List Piece} {m : Tree} {q : Past}
    → Completes (WantExp4 (Whole pl)) p K ts m q → Exp3On pl p K ts m q
of_exp4 (want_exp4 x c) = exp3_on (exp4 x) c

pub exp3_back : (pl : Place) (p : Past) (K : List Frame) (w : Word) (s e : ℕ) {ts : List Piece} {m : Tree} {q : Past}
    → Now (step_exp3 pl p K w s e) ts m q → Exp3On pl p K (piece w s e ∷ ts) m q
exp3_back pl p K (Form (PairingWord PathWord)) s e (want_exp4 x (want_exp4 y (want_exp4 z c))) = exp3_on (path_type x y z) c
exp3_back pl p K (Form (PairingWord (ComposingWord w))) s e (want_exp4 x (want_exp4 y (want_system ss c))) = exp3_on (comp_or_fill x y ss) c
exp3_back pl p K (Form (PairingWord TransportWord)) s e (want_exp4 x (want_exp4 y c)) = exp3_on (transport x y) c
exp3_back pl p K (Form (GluingWord w)) s e (want_exp4 x (want_system ss c)) = exp3_on (glue x ss) c
exp3_back pl p K w s e c = of_exp4 (exp5_back (Whole pl) p K w s e c)

pub exp3_forth : {pl : Place} {p : Past} {K : List Frame} {w : Word} {s e : ℕ} {ts : List Piece} {m : Tree} {q : Past}
    → Exp3On pl p K (piece w s e ∷ ts) m q → Now (step_exp3 pl p K w s e) ts m q
exp3_forth (exp3_on (path_type x y z) c) = want_exp4 x (want_exp4 y (want_exp4 z c))
exp3_forth (exp3_on (comp_or_fill x y ss) c) = want_exp4 x (want_exp4 y (want_system ss c))
exp3_forth (exp3_on (transport x y) c) = want_exp4 x (want_exp4 y c)
exp3_forth (exp3_on (glue x ss) c) = want_exp4 x (want_system ss c)
exp3_forth (exp3_on (exp4 (project name hs)) c) = projections hs c
exp3_forth (exp3_on (exp4 (project universe hs)) c) = projections hs c
exp3_forth (exp3_on (exp4 (project (brackets x xs) hs)) c) = want_exp x (bracket_closes xs (projections hs c))
