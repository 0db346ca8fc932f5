-- Pieces, by what they begin with.
use Rattle.std.proofs.Common.{◌≡◌, ℕ, zero, suc, ◌<◌, ◌≤◌, Bool, true, false, cond, ◌&&◌, ◌||◌, ◌==◌, List, [], ◌∷◌, length, take, refl, sym, ◌∙◌, ap, subst, arith, Some, None, Option, is_some, true≢false, lit<, le_refl}
use Rattle.std.proofs.lemmas.Bool.{eqb-true}
use Rattle.std.specs.List.{list_all, prefix_len}
use Rattle.layout_lexer.specs.declared.token.Kind.{Kind}
use Rattle.layout_lexer.specs.Words.{signs}
use Rattle.layout_lexer.specs.Places.{first_of}
use Rattle.layout_lexer.specs.Pieces.{starts_name, continues_name, name_rest, word_kind, spelled_in, kind_of, is_space, is_one_space, stays_on_line, is_line_comment, ends_with_close, is_block_comment, is_piece, piece_len}
use Rattle.layout_lexer.specs.Scanning.{begins_as, sign_of_two, close_len}
use Rattle.layout_lexer.proofs.Runs.{list_all-within, list_all-beyond, prefix_len-le}
use Rattle.layout_lexer.proofs.Longest.{piece_len-is}
use Rattle.layout_lexer.proofs.Starts.{starts_name-ascii, differs, no_sign, no_long_sign}
use Rattle.layout_lexer.proofs.Comments.{Closes, closes, never_closes}

abbrev any_of : Bool → Bool → Bool → Option Kind → Bool
any_of space line block kind = space || line || block || is_some kind

is_piece-by : (text : List ℕ) (space line block : Bool) (kind : Option Kind) → is_one_space text ≡ space → is_line_comment text ≡ line → is_block_comment text ≡ block → kind_of text ≡ kind → is_piece text ≡ any_of space line block kind
is_piece-by text space line block kind e f g h =
    ap (λ s. any_of s (is_line_comment text) (is_block_comment text) (kind_of text)) e
    ∙ ap (λ l. any_of space l (is_block_comment text) (kind_of text)) f
    ∙ ap (λ b. any_of space line b (kind_of text)) g
    ∙ ap (λ k. any_of space line block k) h

or-true : (b : Bool) → (b || true) ≡ true
or-true true = refl
or-true false = refl

or-false : (b : Bool) → (b || false) ≡ b
or-false true = refl
or-false false = refl

pub kind_of-sign : (c : ℕ) (cs : List ℕ) → starts_name c ≡ false → kind_of (c ∷ cs) ≡ spelled_in signs (c ∷ cs)
kind_of-sign c cs e =
    ap (λ b. cond (b && list_all continues_name cs) (Some (word_kind (c ∷ cs))) (spelled_in signs (c ∷ cs))) e

kind_of-name : (c : ℕ) (cs : List ℕ) (all : Bool) → starts_name c ≡ true → list_all continues_name cs ≡ all → kind_of (c ∷ cs) ≡ cond all (Some (word_kind (c ∷ cs))) None
kind_of-name c cs all e f =
    ap (λ b. cond (b && list_all continues_name cs) (Some (word_kind (c ∷ cs))) (spelled_in signs (c ∷ cs))) e
    ∙ ap (λ b. cond b (Some (word_kind (c ∷ cs))) (spelled_in signs (c ∷ cs))) f
    ∙ ap (λ k. cond all (Some (word_kind (c ∷ cs))) k) (no_sign c cs e)

-- `-` and `{` begin no name
minus : starts_name 45 ≡ false
minus = starts_name-ascii 45 (lit< tt)

brace : starts_name 123 ≡ false
brace = starts_name-ascii 123 (lit< tt)

-- names

name_passes : (c : ℕ) (cs : List ℕ) → starts_name c ≡ true → list_all continues_name cs ≡ true → is_piece (c ∷ cs) ≡ true
name_passes c cs starts all =
    ap (λ k. any_of (is_one_space (c ∷ cs)) (is_line_comment (c ∷ cs)) (is_block_comment (c ∷ cs)) k) (kind_of-name c cs true starts all)
    ∙ or-true _

no_name_passes : (c d : ℕ) (ds : List ℕ) → starts_name c ≡ true → list_all continues_name (d ∷ ds) ≡ false → is_piece (c ∷ d ∷ ds) ≡ false
no_name_passes c d ds starts all =
    is_piece-by (c ∷ d ∷ ds) false false false None refl
    (ap (λ b. (b && d == 45) && list_all stays_on_line (c ∷ d ∷ ds)) (differs c 45 starts minus))
    (ap (λ b. (b && d == 45) && ends_with_close ds) (differs c 123 starts brace))
    (kind_of-name c (d ∷ ds) false starts all)

past_name : (c : ℕ) (cs : List ℕ) → starts_name c ≡ true → (m : ℕ) → suc (name_rest cs) < m → m ≤ suc (length cs) → is_piece (take m (c ∷ cs)) ≡ false
past_name c cs starts zero above within = absurd (omega arith)
past_name c cs starts (suc zero) above within = absurd (omega arith)
past_name c [] starts (suc (suc m)) above within = absurd (omega arith)
past_name c (d ∷ ds) starts (suc (suc m)) above within =
    no_name_passes c d (take m ds) starts (list_all-beyond continues_name (d ∷ ds) (suc m) (omega arith) (omega arith))

pub name_len : (c : ℕ) (cs : List ℕ) → starts_name c ≡ true → piece_len (c ∷ cs) ≡ suc (name_rest cs)
name_len c cs starts =
    piece_len-is (suc (name_rest cs)) (c ∷ cs) (omega (arith, prefix_len-le continues_name cs))
    (λ _. name_passes c (take (name_rest cs) cs) starts (list_all-within continues_name cs (name_rest cs) (le_refl _)))
    (past_name c cs starts)

pub name_token : (c : ℕ) (cs : List ℕ) → starts_name c ≡ true → kind_of (take (suc (name_rest cs)) (c ∷ cs)) ≡ Some (word_kind (c ∷ take (name_rest cs) cs))
name_token c cs starts =
    kind_of-name c (take (name_rest cs) cs) true starts (list_all-within continues_name cs (name_rest cs) (le_refl _))

-- space

space_case : (P : ℕ → Type 0) (c : ℕ) → is_space c ≡ true → P 32 → P 9 → P 13 → P 10 → P c
space_case P c h a b d e = by (c == 32) (c == 9) (c == 13) (c == 10) refl refl refl refl h
  where
    by : (p q r s : Bool) → (c == 32) ≡ p → (c == 9) ≡ q → (c == 13) ≡ r → (c == 10) ≡ s → (((p || q) || r) || s) ≡ true → P c
    by true q r s x y z w h = subst P (sym (eqb-true c 32 x)) a
    by false true r s x y z w h = subst P (sym (eqb-true c 9 y)) b
    by false false true s x y z w h = subst P (sym (eqb-true c 13 z)) d
    by false false false true x y z w h = subst P (sym (eqb-true c 10 w)) e
    by false false false false x y z w h = absurd (true≢false (sym h))

record IsSpace (c : ℕ) : Type 0 where
  alone : is_piece (c ∷ []) ≡ true
  kind : kind_of (c ∷ []) ≡ None
  longer : (d : ℕ) (ds : List ℕ) → is_piece (c ∷ d ∷ ds) ≡ false

space : (c : ℕ) → is_space c ≡ true → IsSpace c
space c h =
    space_case IsSpace c h
    (record {
      alone = refl;
      kind = kind_of-sign 32 [] (starts_name-ascii 32 (lit< tt));
      longer = λ d ds. is_piece-by (32 ∷ d ∷ ds) false false false None refl refl refl (kind_of-sign 32 (d ∷ ds) (starts_name-ascii 32 (lit< tt)));
    })
    (record {
      alone = refl;
      kind = kind_of-sign 9 [] (starts_name-ascii 9 (lit< tt));
      longer = λ d ds. is_piece-by (9 ∷ d ∷ ds) false false false None refl refl refl (kind_of-sign 9 (d ∷ ds) (starts_name-ascii 9 (lit< tt)));
    })
    (record {
      alone = refl;
      kind = kind_of-sign 13 [] (starts_name-ascii 13 (lit< tt));
      longer = λ d ds. is_piece-by (13 ∷ d ∷ ds) false false false None refl refl refl (kind_of-sign 13 (d ∷ ds) (starts_name-ascii 13 (lit< tt)));
    })
    (record {
      alone = refl;
      kind = kind_of-sign 10 [] (starts_name-ascii 10 (lit< tt));
      longer = λ d ds. is_piece-by (10 ∷ d ∷ ds) false false false None refl refl refl (kind_of-sign 10 (d ∷ ds) (starts_name-ascii 10 (lit< tt)));
    })

past_space : (c : ℕ) → IsSpace c → (cs : List ℕ) (m : ℕ) → 1 < m → m ≤ suc (length cs) → is_piece (take m (c ∷ cs)) ≡ false
past_space c s cs zero above within = absurd (omega arith)
past_space c s cs (suc zero) above within = absurd (omega arith)
past_space c s [] (suc (suc m)) above within = absurd (omega arith)
past_space c s (d ∷ ds) (suc (suc m)) above within = s.longer d (take m ds)

pub space_len : (c : ℕ) (cs : List ℕ) → is_space c ≡ true → piece_len (c ∷ cs) ≡ 1
space_len c cs h =
    let s : IsSpace c = space c h in
    piece_len-is 1 (c ∷ cs) (omega arith) (λ _. s.alone) (past_space c s cs)

pub space_token : (c : ℕ) → is_space c ≡ true → kind_of (c ∷ []) ≡ None
space_token c h = (space c h).kind

-- comments to the end of a line

line_passes : (w : List ℕ) → is_piece (45 ∷ 45 ∷ w) ≡ list_all stays_on_line w
line_passes w =
    is_piece-by (45 ∷ 45 ∷ w) false (list_all stays_on_line w) false None refl refl refl (kind_of-sign 45 (45 ∷ w) minus)
    ∙ or-false _ ∙ or-false _

past_line : (v : List ℕ) (m : ℕ) → suc (prefix_len stays_on_line (45 ∷ v)) < m → m ≤ suc (suc (length v)) → is_piece (take m (45 ∷ 45 ∷ v)) ≡ false
past_line v zero above within = absurd (omega arith)
past_line v (suc zero) above within = absurd (omega arith)
past_line v (suc (suc m)) above within =
    line_passes (take m v) ∙ list_all-beyond stays_on_line v m (omega arith) (omega arith)

pub line_len : (v : List ℕ) → piece_len (45 ∷ 45 ∷ v) ≡ suc (prefix_len stays_on_line (45 ∷ v))
line_len v =
    let n = prefix_len stays_on_line v in
    let two : suc (prefix_len stays_on_line (45 ∷ v)) ≡ suc (suc n) = omega arith in
    piece_len-is (suc (prefix_len stays_on_line (45 ∷ v))) (45 ∷ 45 ∷ v) (omega (arith, prefix_len-le stays_on_line v))
    (λ _. ap (λ m. is_piece (take m (45 ∷ 45 ∷ v))) two ∙ line_passes (take n v) ∙ list_all-within stays_on_line v n (le_refl _))
    (past_line v)

-- comments to a `-}`

block_passes : (w : List ℕ) → is_piece (123 ∷ 45 ∷ w) ≡ ends_with_close w
block_passes w =
    is_piece-by (123 ∷ 45 ∷ w) false false (ends_with_close w) None refl refl refl (kind_of-sign 123 (45 ∷ w) brace) ∙ or-false _

past_block : (v : List ℕ) (n : ℕ) → Closes v n → (m : ℕ) → suc (suc n) < m → m ≤ suc (suc (length v)) → is_piece (take m (123 ∷ 45 ∷ v)) ≡ false
past_block v n closes zero above within = absurd (omega arith)
past_block v n closes (suc zero) above within = absurd (omega arith)
past_block v n closes (suc (suc m)) above within = block_passes (take m v) ∙ closes.alone m (omega arith) (omega arith)

pub block_len : (v : List ℕ) (n : ℕ) → close_len v ≡ Some n → piece_len (123 ∷ 45 ∷ v) ≡ suc (suc n)
block_len v n h =
    let closed : Closes v n = closes v n h in
    piece_len-is (suc (suc n)) (123 ∷ 45 ∷ v) (omega (arith, closed.within)) (λ _. block_passes (take n v) ∙ closed.here)
    (past_block v n closed)

no_block : (v : List ℕ) → close_len v ≡ None → (m : ℕ) → 0 < m → m ≤ suc (suc (length v)) → is_piece (take m (123 ∷ 45 ∷ v)) ≡ false
no_block v h zero above within = absurd (omega arith)
no_block v h (suc zero) above within =
    is_piece-by (123 ∷ []) false false false None refl refl refl (kind_of-sign 123 [] brace)
no_block v h (suc (suc m)) above within = block_passes (take m v) ∙ never_closes v h m

pub open_len : (v : List ℕ) → close_len v ≡ None → piece_len (123 ∷ 45 ∷ v) ≡ 0
open_len v h = piece_len-is 0 (123 ∷ 45 ∷ v) (omega arith) (λ pos. absurd (omega arith)) (no_block v h)

-- no comment is a token
pub line_token : (v : List ℕ) → kind_of (take (suc (prefix_len stays_on_line (45 ∷ v))) (45 ∷ 45 ∷ v)) ≡ None
line_token v =
    let n = prefix_len stays_on_line v in
    let two : suc (prefix_len stays_on_line (45 ∷ v)) ≡ suc (suc n) = omega arith in
    ap (λ m. kind_of (take m (45 ∷ 45 ∷ v))) two ∙ kind_of-sign 45 (45 ∷ take n v) minus

pub block_token : (w : List ℕ) → kind_of (123 ∷ 45 ∷ w) ≡ None
block_token w = kind_of-sign 123 (45 ∷ w) brace

-- signs

module _ (a : ℕ) (no_name : starts_name a ≡ false) (no_space : is_space a ≡ false) where
  one_passes : is_piece (a ∷ []) ≡ is_some (spelled_in signs (a ∷ []))
  one_passes = is_piece-by (a ∷ []) false false false (spelled_in signs (a ∷ [])) no_space refl refl (kind_of-sign a [] no_name)

  module _ (d : ℕ) (no_line : (a == 45 && d == 45) ≡ false) (no_block : (a == 123 && d == 45) ≡ false) where
    two_pass : (w : List ℕ) → is_piece (a ∷ d ∷ w) ≡ is_some (spelled_in signs (a ∷ d ∷ w))
    two_pass w =
        is_piece-by (a ∷ d ∷ w) false false false (spelled_in signs (a ∷ d ∷ w)) refl
        (ap (λ b. b && list_all stays_on_line (a ∷ d ∷ w)) no_line)
        (ap (λ b. b && ends_with_close w) no_block)
        (kind_of-sign a (d ∷ w) no_name)

    past_two : (ds : List ℕ) (m : ℕ) → 2 < m → m ≤ suc (suc (length ds)) → is_piece (take m (a ∷ d ∷ ds)) ≡ false
    past_two ds zero above within = absurd (omega arith)
    past_two ds (suc zero) above within = absurd (omega arith)
    past_two ds (suc (suc zero)) above within = absurd (omega arith)
    past_two [] (suc (suc (suc m))) above within = absurd (omega arith)
    past_two (e ∷ es) (suc (suc (suc m))) above within =
        two_pass (e ∷ take m es) ∙ ap is_some (no_long_sign a d e (take m es))

    pub two_len : (ds : List ℕ) (kind : Kind) → spelled_in signs (a ∷ d ∷ []) ≡ Some kind → piece_len (a ∷ d ∷ ds) ≡ 2
    two_len ds kind h = piece_len-is 2 (a ∷ d ∷ ds) (omega arith) (λ _. two_pass [] ∙ ap is_some h) (past_two ds)

    past_one : (ds : List ℕ) → spelled_in signs (a ∷ d ∷ []) ≡ None → (m : ℕ) → 1 < m → m ≤ suc (suc (length ds)) → is_piece (take m (a ∷ d ∷ ds)) ≡ false
    past_one ds h zero above within = absurd (omega arith)
    past_one ds h (suc zero) above within = absurd (omega arith)
    past_one ds h (suc (suc zero)) above within = two_pass [] ∙ ap is_some h
    past_one ds h (suc (suc (suc m))) above within = past_two ds (suc (suc (suc m))) (omega arith) within

  -- no longer prefix is a piece
  pub past_sign : (rest : List ℕ) → begins_as 45 45 a (first_of rest) ≡ false → begins_as 123 45 a (first_of rest) ≡ false → sign_of_two a (first_of rest) ≡ None → (m : ℕ) → 1 < m → m ≤ suc (length rest) → is_piece (take m (a ∷ rest)) ≡ false
  past_sign [] no_line no_block none zero above within = absurd (omega arith)
  past_sign [] no_line no_block none (suc zero) above within = absurd (omega arith)
  past_sign [] no_line no_block none (suc (suc m)) above within = absurd (omega arith)
  past_sign (d ∷ ds) no_line no_block none m above within = past_one d no_line no_block ds none m above within

  pub one_len : (rest : List ℕ) → begins_as 45 45 a (first_of rest) ≡ false → begins_as 123 45 a (first_of rest) ≡ false → sign_of_two a (first_of rest) ≡ None → (kind : Kind) → spelled_in signs (a ∷ []) ≡ Some kind → piece_len (a ∷ rest) ≡ 1
  one_len rest no_line no_block none kind h =
      piece_len-is 1 (a ∷ rest) (omega arith) (λ _. one_passes ∙ ap is_some h) (past_sign rest no_line no_block none)

  past_none : (rest : List ℕ) → begins_as 45 45 a (first_of rest) ≡ false → begins_as 123 45 a (first_of rest) ≡ false → sign_of_two a (first_of rest) ≡ None → spelled_in signs (a ∷ []) ≡ None → (m : ℕ) → 0 < m → m ≤ suc (length rest) → is_piece (take m (a ∷ rest)) ≡ false
  past_none rest no_line no_block none h zero above within = absurd (omega arith)
  past_none rest no_line no_block none h (suc zero) above within = one_passes ∙ ap is_some h
  past_none rest no_line no_block none h (suc (suc m)) above within = past_sign rest no_line no_block none (suc (suc m)) (omega arith) within

  pub none_len : (rest : List ℕ) → begins_as 45 45 a (first_of rest) ≡ false → begins_as 123 45 a (first_of rest) ≡ false → sign_of_two a (first_of rest) ≡ None → spelled_in signs (a ∷ []) ≡ None → piece_len (a ∷ rest) ≡ 0
  none_len rest no_line no_block none h =
      piece_len-is 0 (a ∷ rest) (omega arith) (λ pos. absurd (omega arith)) (past_none rest no_line no_block none h)
