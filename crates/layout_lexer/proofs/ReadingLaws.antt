-- What was read, and where the reader then stands.
use Rattle.std.proofs.Common.{◌≡◌, ℕ, suc, ◌+◌, ◌-◌, ◌≤◌, ◌≢◌, Bool, true, false, cond, not, ◌&&◌, ◌||◌, ◌==◌, List, [], ◌∷◌, ◌++◌, length, take, refl, sym, ◌∙◌, ap, ap₂, subst, arith, Some, None, Option, option_map, true≢false, length-append, take-append-drop}
use Rattle.std.proofs.Math.Seq.{take-append_seam}
use Rattle.std.proofs.lemmas.Bool.{eqb-true}
use Rattle.std.proofs.lemmas.Str.{encodes-append, encodes-chars}
use Rattle.std.specs.Char.{len_utf8}
use Rattle.std.specs.List.{prefix_len}
use Rattle.std.specs.Str.{chars, IsUtf8, encode_utf8_all}
use Rattle.layout_lexer.specs.declared.fault.LexFault.{LexFault}
use Rattle.layout_lexer.specs.declared.fault.LexFault.TheVariants.{BadByte, OpenComment}
use Rattle.layout_lexer.specs.declared.token.Kind.{Kind}
use Rattle.layout_lexer.specs.declared.pieces.Piece.TheVariants as piece
use Rattle.layout_lexer.specs.Words.{signs}
use Rattle.layout_lexer.specs.Places.{Reading, moved, first_of, step, IsStep, CharRead, column_after, is_newline}
use Rattle.layout_lexer.specs.Pieces.{starts_name, name_rest, word_kind, spelled_in, kind_of, is_space, begins, opens_comment, stays_on_line, piece_len}
use Rattle.layout_lexer.specs.Scanning.{PieceIs, fault_at, begins_as, sign_of_two, one_sign, close_len, closed}
use Rattle.layout_lexer.proofs.Movement.{reading, moved-step, moved-rest}
use Rattle.layout_lexer.proofs.PieceLaws.{kind_of-sign, name_len, name_token, space_len, space_token, line_len, line_token, block_len, block_token, open_len, two_len, one_len, none_len}

pub or-true : (b : Bool) → (b || true) ≡ true
or-true true = refl
or-true false = refl

pub or-false : (b : Bool) → (b || false) ≡ b
or-false true = refl
or-false false = refl

-- the reader after a character
pub stepped : (old : Reading) (at column : ℕ) (fresh : Bool) (c : ℕ) (cs : List ℕ) → at ≡ old.place.at + len_utf8 c → column ≡ column_after c old.place.column → fresh ≡ (old.fresh || is_newline c) → reading (record { at = at; column = column }) fresh cs ≡ step old c cs
stepped old at column fresh c cs e f g =
    ap (λ n. reading (record { at = n; column = column }) fresh cs) e
    ∙ ap (λ n. reading (record { at = old.place.at + len_utf8 c; column = n }) fresh cs) f
    ∙ ap (λ b. reading (record { at = old.place.at + len_utf8 c; column = column_after c old.place.column }) b cs) g

pub stays : (c : ℕ) → c ≢ 10 → stays_on_line c ≡ true
stays c h = by (c == 10) refl
  where
    by : (b : Bool) → (c == 10) ≡ b → not b ≡ true
    by false e = refl
    by true e = absurd (h (eqb-true c 10 e))

-- the bytes before the rest of a text
pub between : (text rest read : List ℕ) → IsUtf8 text → IsUtf8 rest → chars text ≡ read ++ chars rest → text ≡ encode_utf8_all read ++ rest
between text rest read u v h =
    sym (encodes-chars text u) ∙ ap encode_utf8_all h ∙ encodes-append read (chars rest)
    ∙ ap (λ r. encode_utf8_all read ++ r) (encodes-chars rest v)

pub between_le : (text rest read : List ℕ) → text ≡ read ++ rest → length rest ≤ length text
between_le text rest read e = omega (arith, ap (λ t. length t) e ∙ length-append read rest)

pub between_take : (text rest read : List ℕ) → text ≡ read ++ rest → take (length text - length rest) text ≡ read
between_take text rest read e =
    let size : length text - length rest ≡ length read = omega (arith, ap (λ t. length t) e ∙ length-append read rest) in
    ap₂ take size e ∙ take-append_seam read rest

-- the character that was looked at is read
pub next_step : (old new : Reading) (c : ℕ) (r : Option ℕ) → first_of old.rest ≡ Some c → CharRead old new r → IsStep old c new
next_step old new c None first h =
    let none : first_of old.rest ≡ None = ap first_of h.0 in
    absurd (cc)
next_step old new c (Some d) first h =
    let some : first_of old.rest ≡ Some d = ap first_of h.0 in
    let same : d ≡ c = cc in
    subst (λ x. IsStep old x new) same h

-- a name is what was read of a text
pub name_split : (text after : List ℕ) (c : ℕ) (n : ℕ) (old new : Reading) → text ≡ c ∷ old.rest → new ≡ moved n old → after ≡ new.rest → text ≡ (c ∷ take n old.rest) ++ after
name_split text after c n old new e m a =
    e ∙ ap (λ r. c ∷ r) (sym (take-append-drop n old.rest))
    ∙ ap (λ r. (c ∷ take n old.rest) ++ r) (sym (a ∙ ap (λ (r : Reading). r.rest) m ∙ moved-rest n old.place old.fresh old.rest))

pub is_gap : (old new : Reading) (text : List ℕ) (n : ℕ) → old.rest ≡ text → piece_len text ≡ suc n → kind_of (take (suc n) text) ≡ None → new ≡ moved (suc n) old → PieceIs old new piece.Gap
is_gap old new text n e len none s =
    let size : piece_len old.rest ≡ suc n = ap piece_len e ∙ len in
    (omega arith, ap (λ m. kind_of (take m old.rest)) size ∙ ap (λ t. kind_of (take (suc n) t)) e ∙ none, s ∙ ap (λ m. moved m old) (sym size))

pub is_token : (old new : Reading) (text : List ℕ) (n : ℕ) (kind : Kind) → old.rest ≡ text → piece_len text ≡ suc n → kind_of (take (suc n) text) ≡ Some kind → new ≡ moved (suc n) old → PieceIs old new (piece.Token kind)
is_token old new text n kind e len some s =
    let size : piece_len old.rest ≡ suc n = ap piece_len e ∙ len in
    (omega arith, ap (λ m. kind_of (take m old.rest)) size ∙ ap (λ t. kind_of (take (suc n) t)) e ∙ some, s ∙ ap (λ m. moved m old) (sym size))

pub is_fault : (old new : Reading) (c : ℕ) (cs : List ℕ) (fault : LexFault) → old.rest ≡ c ∷ cs → piece_len (c ∷ cs) ≡ 0 → fault ≡ fault_at old.place (c ∷ cs) → PieceIs old new (piece.Fault fault)
is_fault old new c cs fault e len f =
    let some : length old.rest ≡ suc (length cs) = ap (λ t. length t) e in
    (omega arith, ap piece_len e ∙ len, f ∙ ap (fault_at old.place) (sym e))

pub read_name : (old mid new : Reading) (c : ℕ) → IsStep old c mid → starts_name c ≡ true → new ≡ moved (name_rest mid.rest) mid → PieceIs old new (piece.Token (word_kind (c ∷ take (name_rest mid.rest) mid.rest)))
read_name old mid new c s starts m =
    is_token old new (c ∷ mid.rest) (name_rest mid.rest) _ s.0 (name_len c mid.rest starts) (name_token c mid.rest starts)
    (m ∙ sym (moved-step (name_rest mid.rest) old c mid.rest s.0 ∙ ap (moved (name_rest mid.rest)) (sym s.1)))

pub read_space : (old new : Reading) (c : ℕ) → IsStep old c new → is_space c ≡ true → PieceIs old new piece.Gap
read_space old new c s h =
    is_gap old new (c ∷ new.rest) 0 s.0 (space_len c new.rest h) (space_token c h) (s.1 ∙ sym (moved-step 0 old c new.rest s.0))

pub first_is : (cs : List ℕ) (a b c : ℕ) → begins_as a b c (first_of cs) ≡ true → (c ≡ a) × ((rest : List ℕ) × (cs ≡ b ∷ rest))
first_is [] a b c h = absurd (true≢false (sym h))
first_is (d ∷ ds) a b c h = by (c == a) (d == b) refl refl h
  where
    by : (p q : Bool) → (c == a) ≡ p → (d == b) ≡ q → (p && q) ≡ true → (c ≡ a) × ((rest : List ℕ) × (d ∷ ds ≡ b ∷ rest))
    by true true e f h = (eqb-true c a e, (ds, ap (λ x. x ∷ ds) (eqb-true d b f)))
    by true false e f h = absurd (true≢false (sym h))
    by false q e f h = absurd (true≢false (sym h))

pub read_line : (old mid new : Reading) (c : ℕ) → IsStep old c mid → begins_as 45 45 c (first_of mid.rest) ≡ true → new ≡ moved (prefix_len stays_on_line mid.rest) mid → PieceIs old new piece.Gap
read_line old mid new c s h m =
    let two = first_is mid.rest 45 45 c h in
    let v = two.1.0 in
    let n = prefix_len stays_on_line (45 ∷ v) in
    let text : old.rest ≡ 45 ∷ 45 ∷ v = s.0 ∙ ap (λ x. x ∷ mid.rest) two.0 ∙ ap (λ t. 45 ∷ t) two.1.1 in
    is_gap old new (45 ∷ 45 ∷ v) n text (line_len v) (line_token v)
    (m ∙ ap (λ t. moved (prefix_len stays_on_line t) mid) two.1.1 ∙ sym (moved-step n old c mid.rest s.0 ∙ ap (moved n) (sym s.1)))

begins_next : (a b c : ℕ) (rest : List ℕ) → begins a b (c ∷ rest) ≡ begins_as a b c (first_of rest)
begins_next a b c [] = refl
begins_next a b c (d ∷ ds) = refl

block_text : (old cur mid : Reading) (c : ℕ) → IsStep old c cur → begins_as 123 45 c (first_of cur.rest) ≡ true → IsStep cur 45 mid → old.rest ≡ 123 ∷ 45 ∷ mid.rest
block_text old cur mid c s h t =
    s.0 ∙ ap (λ x. x ∷ cur.rest) (first_is cur.rest 123 45 c h).0 ∙ ap (λ r. 123 ∷ r) t.0

pub second_comes : (cur : Reading) (a b c : ℕ) → begins_as a b c (first_of cur.rest) ≡ true → first_of cur.rest ≡ Some b
second_comes cur a b c h = ap first_of (first_is cur.rest a b c h).1.1

pub read_block : (old cur mid new : Reading) (c : ℕ) → IsStep old c cur → begins_as 123 45 c (first_of cur.rest) ≡ true → IsStep cur 45 mid → closed mid ≡ Some new → PieceIs old new piece.Gap
read_block old cur mid new c s h t e = by (close_len mid.rest) refl e
  where
    by : (len : Option ℕ) → close_len mid.rest ≡ len → option_map (λ n. moved n mid) len ≡ Some new → PieceIs old new piece.Gap
    by None f g = absurd (cc)
    by (Some k) f g =
        let there : moved k mid ≡ new = cc in
        let moves : moved (suc (suc k)) old ≡ new =
        moved-step (suc k) old c cur.rest s.0 ∙ ap (moved (suc k)) (sym s.1) ∙ moved-step k cur 45 mid.rest t.0 ∙ ap (moved k) (sym t.1) ∙ there in
        is_gap old new (123 ∷ 45 ∷ mid.rest) (suc k) (block_text old cur mid c s h t) (block_len mid.rest k f) (block_token (take k mid.rest)) (sym moves)

pub read_open : (old cur mid new : Reading) (c at : ℕ) → IsStep old c cur → begins_as 123 45 c (first_of cur.rest) ≡ true → IsStep cur 45 mid → closed mid ≡ None → old.place.at ≡ at → PieceIs old new (piece.Fault (OpenComment at))
read_open old cur mid new c at s h t e a = by (close_len mid.rest) refl e
  where
    by : (len : Option ℕ) → close_len mid.rest ≡ len → option_map (λ n. moved n mid) len ≡ None → PieceIs old new (piece.Fault (OpenComment at))
    by None f g =
        is_fault old new 123 (45 ∷ mid.rest) (OpenComment at) (block_text old cur mid c s h t) (open_len mid.rest f) (ap OpenComment (sym a))
    by (Some k) f g = absurd (cc)

module _ (old cur : Reading) (a : ℕ) (no_name : starts_name a ≡ false) (no_space : is_space a ≡ false) (s : IsStep old a cur) (no_line : begins_as 45 45 a (first_of cur.rest) ≡ false) (no_block : begins_as 123 45 a (first_of cur.rest) ≡ false) where
  pub read_two : (new : Reading) (r : Option ℕ) (kind : Kind) → sign_of_two a (first_of cur.rest) ≡ Some kind → CharRead cur new r → PieceIs old new (piece.Token kind)
  read_two new r kind h m = by (first_of cur.rest) refl h
    where
      by : (first : Option ℕ) → first_of cur.rest ≡ first → sign_of_two a first ≡ Some kind → PieceIs old new (piece.Token kind)
      by None e h = absurd (cc)
      by (Some d) e h =
          let t : IsStep cur d new = next_step cur new d r e m in
          let line : (a == 45 && d == 45) ≡ false = sym (ap (begins_as 45 45 a) e) ∙ no_line in
          let block : (a == 123 && d == 45) ≡ false = sym (ap (begins_as 123 45 a) e) ∙ no_block in
          let moves : moved 2 old ≡ new =
          moved-step 1 old a cur.rest s.0 ∙ ap (moved 1) (sym s.1) ∙ moved-step 0 cur d new.rest t.0 ∙ sym t.1 in
          is_token old new (a ∷ d ∷ new.rest) 1 kind (s.0 ∙ ap (λ x. a ∷ x) t.0)
          (two_len a no_name no_space d line block new.rest kind h) (kind_of-sign a (d ∷ []) no_name ∙ h) (sym moves)

  pub read_one : (at : ℕ) → old.place.at ≡ at → sign_of_two a (first_of cur.rest) ≡ None → PieceIs old cur (one_sign a at)
  read_one at e none = by (spelled_in signs (a ∷ [])) refl
    where
      by : (sign : Option Kind) → spelled_in signs (a ∷ []) ≡ sign → PieceIs old cur (elim sign [ None ↦ piece.Fault (BadByte at) | Some kind ↦ piece.Token kind ])
      by None f =
          let opens : opens_comment (a ∷ cur.rest) ≡ false = begins_next 123 45 a cur.rest ∙ no_block in
          is_fault old cur a cur.rest (BadByte at) s.0 (none_len a no_name no_space cur.rest no_line no_block none f)
          (ap BadByte (sym e) ∙ sym (ap (λ b. cond b (OpenComment old.place.at) (BadByte old.place.at)) opens))
      by (Some kind) f =
          is_token old cur (a ∷ cur.rest) 0 kind s.0 (one_len a no_name no_space cur.rest no_line no_block none kind f)
          (kind_of-sign a [] no_name ∙ f) (s.1 ∙ sym (moved-step 0 old a cur.rest s.0))
