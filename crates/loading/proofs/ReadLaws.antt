-- Tokens are read in one way, or have one fault.
use Rattle.std.proofs.Common.{◌≡◌, ◌≢◌, ℕ, List, [], ◌∷◌, ◌++◌, refl, sym, ◌∙◌, ap, subst, append_assoc}
use Rattle.syntax.specs.Tree.{Tree}
use Rattle.productions.specs.Words.{Word, Piece, piece}
use Rattle.productions.specs.Grammar.{IsBegun, IsWrongAt, wrong_token, wrong_end}
use Rattle.productions.specs.declared.past.Past.{Past}
use Rattle.grammar.specs.declared.reading.ReadFault.{ReadFault}
use Rattle.grammar.specs.declared.reading.ReadFault.TheVariants.{RefusedForm, Unexpected, TooDeep, Memory}
use Rattle.grammar.specs.Faults.{IsRead, IsFault}

abbrev pub Kind : Type 1
Kind = List Piece → Tree → Past → Type 0

-- what begins a text begins with what begins it
begun_before : (IsText : Kind) (xs ys zs : List Piece) → zs ≡ xs ++ ys → IsBegun IsText zs → IsBegun IsText xs
begun_before IsText xs ys zs is b =
    (ys ++ b.0, b.1, b.2, subst (λ ts. IsText ts b.1 b.2) (ap (λ ts. ts ++ b.0) is ∙ append_assoc xs ys b.0) b.3)

-- a text begins with each of its beginnings
whole_before : (IsText : Kind) (xs ys zs : List Piece) (m : Tree) (q : Past) → zs ≡ xs ++ ys → IsText zs m q → IsBegun IsText xs
whole_before IsText xs ys zs m q is t = (ys, m, q, subst (λ ts. IsText ts m q) is t)

-- of two places of a list the first token is the same, or one place is before the other
data Order (a b : List Piece) (t u : Piece) : Type 0 where
  same : t ≡ u → Order a b t u
  first : (zs : List Piece) → b ≡ (a ++ t ∷ []) ++ zs → Order a b t u
  second : (zs : List Piece) → a ≡ (b ++ u ∷ []) ++ zs → Order a b t u

order : (a b : List Piece) (t u : Piece) (xs ys : List Piece) → a ++ t ∷ xs ≡ b ++ u ∷ ys → Order a b t u
order [] [] t u xs ys e = let s : t ≡ u = cc in same s
order [] (v ∷ b) t u xs ys e = let s : v ≡ t = cc in first b (ap (λ w. w ∷ b) s)
order (v ∷ a) [] t u xs ys e = let s : v ≡ u = cc in second a (ap (λ w. w ∷ a) s)
order (v ∷ a) (w ∷ b) t u xs ys e =
    let h : v ≡ w = cc in
    let rest : a ++ t ∷ xs ≡ b ++ u ∷ ys = cc in
    longer v w a b t u h (order a b t u xs ys rest)
  where
    longer : (v w : Piece) (a b : List Piece) (t u : Piece) → v ≡ w → Order a b t u → Order (v ∷ a) (w ∷ b) t u
    longer v w a b t u h (same e) = same e
    longer v w a b t u h (first zs e) = first zs (ap (λ x. x ∷ b) (sym h) ∙ ap (λ xs. v ∷ xs) e)
    longer v w a b t u h (second zs e) = second zs (ap (λ x. x ∷ a) h ∙ ap (λ xs. w ∷ xs) e)

start_at : Piece → ℕ
start_at (piece w s e) = s

tokens_one : (IsText : Kind) (w w' : Word) (s s' e e' : ℕ) (before after before' after' : List Piece)
    → before ++ piece w s e ∷ after ≡ before' ++ piece w' s' e' ∷ after'
    → IsBegun IsText before → (IsBegun IsText (before ++ piece w s e ∷ []) → ⊥)
    → IsBegun IsText before' → (IsBegun IsText (before' ++ piece w' s' e' ∷ []) → ⊥) → s ≡ s'
unfolding start_at
tokens_one IsText w w' s s' e e' before after before' after' is b n b' n' = go (order before before' (piece w s e) (piece w' s' e') after after' is)
  where
    go : Order before before' (piece w s e) (piece w' s' e') → s ≡ s'
    go (same e) = ap start_at e
    go (first zs e) = absurd (n (begun_before IsText _ zs before' e b'))
    go (second zs e) = absurd (n' (begun_before IsText _ zs before e b))

split_more : (before after ts : List Piece) (t : Piece) → ts ≡ before ++ t ∷ after → ts ≡ (before ++ t ∷ []) ++ after
split_more before after ts t is = is ∙ sym (append_assoc before (t ∷ []) after)

pub wrong_one : (IsText : Kind) (size : ℕ) (ts : List Piece) (p q : ℕ) → IsWrongAt IsText size ts p → IsWrongAt IsText size ts q → p ≡ q
wrong_one IsText size ts p q (wrong_token w e before after is b n) (wrong_token w' e' before' after' is' b' n') =
    tokens_one IsText w w' p q e e' before after before' after' (sym is ∙ is') b n b' n'
wrong_one IsText size ts p _ (wrong_token w e before after is b n) (wrong_end b' n') = absurd (n (begun_before IsText _ after ts (split_more before after ts _ is) b'))
wrong_one IsText size ts _ q (wrong_end b n) (wrong_token w' e' before' after' is' b' n') = absurd (n' (begun_before IsText _ after' ts (split_more before' after' ts _ is') b))
wrong_one IsText size ts _ _ (wrong_end b n) (wrong_end b' n') = refl

pub wrong_none : (IsText : Kind) (size : ℕ) (ts : List Piece) (p : ℕ) (m : Tree) (q : Past) → IsWrongAt IsText size ts p → IsText ts m q → ⊥
wrong_none IsText size ts p m q (wrong_token w e before after is b n) t = n (whole_before IsText _ after ts m q (split_more before after ts _ is) t)
wrong_none IsText size ts _ m q (wrong_end b n) t = n m q t

pub fault_one : (IsText : Kind) (size : ℕ) (ts : List Piece) (f g : ReadFault) → IsFault IsText size ts f → IsFault IsText size ts g → f ≢ Memory → g ≢ Memory → f ≡ g
fault_one IsText size ts (RefusedForm p) (RefusedForm q) a b k l = let e : p ≡ q = cc in ap RefusedForm e
fault_one IsText size ts (RefusedForm p) (Unexpected q) a b k l = let e = b.0 in cc
fault_one IsText size ts (RefusedForm p) (TooDeep q) a b k l = let e = b.0 in cc
fault_one IsText size ts (Unexpected p) (RefusedForm q) a b k l = let e = a.0 in cc
fault_one IsText size ts (Unexpected p) (Unexpected q) a b k l = ap Unexpected (wrong_one IsText size ts p q a.1 b.1)
fault_one IsText size ts (Unexpected p) (TooDeep q) a b k l = absurd (wrong_none IsText size ts p b.1.tree b.1.past a.1 b.1.is)
fault_one IsText size ts (TooDeep p) (RefusedForm q) a b k l = let e = a.0 in cc
fault_one IsText size ts (TooDeep p) (Unexpected q) a b k l = absurd (wrong_none IsText size ts q a.1.tree a.1.past b.1 a.1.is)
fault_one IsText size ts (TooDeep p) (TooDeep q) a b k l =
    let here = a.1.always b.1.tree b.1.past b.1.is in
    let there = b.1.deep in
    let e : p ≡ q = cc in
    ap TooDeep e
fault_one IsText size ts Memory g a b k l = absurd (k refl)
fault_one IsText size ts (RefusedForm p) Memory a b k l = absurd (l refl)
fault_one IsText size ts (Unexpected p) Memory a b k l = absurd (l refl)
fault_one IsText size ts (TooDeep p) Memory a b k l = absurd (l refl)

pub read_or_fault : (IsText : Kind) (size : ℕ) (ts : List Piece) (m : Tree) (f : ReadFault) → IsRead IsText ts m → IsFault IsText size ts f → f ≢ Memory → ⊥
read_or_fault IsText size ts m (RefusedForm p) r a k = let e = r.allowed in cc
read_or_fault IsText size ts m (Unexpected p) r a k = wrong_none IsText size ts p m r.past a.1 r.is
read_or_fault IsText size ts m (TooDeep p) r a k = let here = a.1.always m r.past r.is in let there = r.shallow in cc
read_or_fault IsText size ts m Memory r a k = k refl
