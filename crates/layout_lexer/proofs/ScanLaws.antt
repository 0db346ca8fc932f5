-- Tokens that are read one by one.
use Rattle.std.proofs.Common.{◌≡◌, ℕ, zero, suc, ◌-◌, ◌<◌, ◌≤◌, Bool, false, cond, ◌||◌, List, [], ◌∷◌, length, take, drop, refl, sym, ◌∙◌, ap, arith, Some, None, is_some, Ok, Err, length-drop}
use Rattle.std.specs.List.{list_any}
use Rattle.layout_lexer.specs.declared.fault.LexFault.{LexFault}
use Rattle.layout_lexer.specs.declared.token.Kind.{Kind}
use Rattle.layout_lexer.specs.declared.scanner.Plain.{Plain}
use Rattle.layout_lexer.specs.declared.pieces.Piece.TheVariants as piece
use Rattle.layout_lexer.specs.Places.{Place, Reading, past, past_all, is_newline, moved}
use Rattle.layout_lexer.specs.Pieces.{kind_of, piece_len}
use Rattle.layout_lexer.specs.Scanning.{onto, onto_kind, plain, fresh_after, with_piece, scanned, tokens_left, end_of, PieceIs, TokenRead}
use Rattle.layout_lexer.proofs.Movement.{reading, moved-rest, moved-place, moved-fresh, moved-end}

-- the rest of a piece is passed
pub scanned-skip : (n : ℕ) (fresh : Bool) (place : Place) (cs : List ℕ) → scanned fresh place n cs ≡ scanned fresh (past_all (take n cs) place) 0 (drop n cs)
scanned-skip zero fresh place cs = refl
scanned-skip (suc n) fresh place [] = refl
scanned-skip (suc n) fresh place (c ∷ cs) = scanned-skip n fresh (past c place) cs

-- a piece of n + 1 characters
at_piece : (n : ℕ) (fresh : Bool) (place : Place) (c : ℕ) (cs : List ℕ) → piece_len (c ∷ cs) ≡ suc n → scanned fresh place 0 (c ∷ cs) ≡ with_piece fresh place (c ∷ cs) (c ∷ take n cs) (scanned (fresh_after fresh (c ∷ take n cs)) (past c place) n cs)
at_piece n fresh place c cs h =
    let less : suc n - 1 ≡ n = omega arith in
    ap (λ m. with_piece fresh place (c ∷ cs) (take m (c ∷ cs)) (scanned (fresh_after fresh (take m (c ∷ cs))) (past c place) (m - 1) cs)) h
    ∙ ap (λ m. with_piece fresh place (c ∷ cs) (c ∷ take n cs) (scanned (fresh_after fresh (c ∷ take n cs)) (past c place) m cs)) less

tokens_left-moved : (n : ℕ) (place : Place) (fresh : Bool) (cs : List ℕ) → tokens_left (moved n (reading place fresh cs)) ≡ scanned (fresh || list_any is_newline (take n cs)) (past_all (take n cs) place) 0 (drop n cs)
tokens_left-moved n place fresh cs =
    let m = moved n (reading place fresh cs) in
    ap (λ f. scanned f m.place 0 m.rest) (moved-fresh n place fresh cs)
    ∙ ap (λ p. scanned (fresh || list_any is_newline (take n cs)) p 0 m.rest) (moved-place n place fresh cs)
    ∙ ap (λ r. scanned (fresh || list_any is_newline (take n cs)) (past_all (take n cs) place) 0 r) (moved-rest n place fresh cs)

-- what a piece leaves: the end of the text, and less to read
pub record Leaves (old new : Reading) : Type 0 where
  pub end : end_of new ≡ end_of old
  pub less : length new.rest < length old.rest

leaves : (n : ℕ) (place : Place) (fresh : Bool) (c : ℕ) (cs : List ℕ) (new : Reading) → new ≡ moved (suc n) (reading place fresh (c ∷ cs)) → Leaves (reading place fresh (c ∷ cs)) new
leaves n place fresh c cs new h = record {
  end = ap end_of h ∙ moved-end (suc n) place fresh (c ∷ cs);
  less =
      let rest : new.rest ≡ drop n cs = ap (λ (r : Reading). r.rest) h ∙ moved-rest (suc n) place fresh (c ∷ cs) in
      omega (arith, ap (λ r. length r) rest, length-drop n cs);
}

module _ (place : Place) (fresh : Bool) (new : Reading) where
  -- after space or a comment
  gap_at : (text : List ℕ) → PieceIs (reading place fresh text) new piece.Gap → (tokens_left new ≡ tokens_left (reading place fresh text)) × Leaves (reading place fresh text) new
  gap_at [] h = absurd (omega (arith, h.0))
  gap_at (c ∷ cs) h =
      let n = piece_len (c ∷ cs) - 1 in
      let size : piece_len (c ∷ cs) ≡ suc n = omega (arith, h.0) in
      let none : kind_of (c ∷ take n cs) ≡ None = sym (ap (λ m. kind_of (take m (c ∷ cs))) size) ∙ h.1 in
      let there : new ≡ moved (suc n) (reading place fresh (c ∷ cs)) = h.2 ∙ ap (λ m. moved m (reading place fresh (c ∷ cs))) size in
      let line : Bool = fresh || list_any is_newline (c ∷ take n cs) in
      let rest : scanned fresh place 0 (c ∷ cs) ≡ scanned line (past_all (take n cs) (past c place)) 0 (drop n cs) =
      at_piece n fresh place c cs size
      ∙ ap (λ k. onto_kind fresh place (past_all (c ∷ take n cs) place) k (scanned (cond (is_some k) false line) (past c place) n cs)) none
      ∙ scanned-skip n line (past c place) cs in
      (ap tokens_left there ∙ tokens_left-moved (suc n) place fresh (c ∷ cs) ∙ sym rest, leaves n place fresh c cs new there)

  token_at : (text : List ℕ) (kind : Kind) → PieceIs (reading place fresh text) new (piece.Token kind) → (scanned fresh place 0 text ≡ onto (plain fresh kind place new.place) (scanned false new.place 0 new.rest)) × Leaves (reading place fresh text) new
  token_at [] kind h = absurd (omega (arith, h.0))
  token_at (c ∷ cs) kind h =
      let n = piece_len (c ∷ cs) - 1 in
      let size : piece_len (c ∷ cs) ≡ suc n = omega (arith, h.0) in
      let some : kind_of (c ∷ take n cs) ≡ Some kind = sym (ap (λ m. kind_of (take m (c ∷ cs))) size) ∙ h.1 in
      let there : new ≡ moved (suc n) (reading place fresh (c ∷ cs)) = h.2 ∙ ap (λ m. moved m (reading place fresh (c ∷ cs))) size in
      let line : Bool = fresh || list_any is_newline (c ∷ take n cs) in
      let end : new.place ≡ past_all (take n cs) (past c place) = ap (λ (r : Reading). r.place) there ∙ moved-place (suc n) place fresh (c ∷ cs) in
      let left : new.rest ≡ drop n cs = ap (λ (r : Reading). r.rest) there ∙ moved-rest (suc n) place fresh (c ∷ cs) in
      let rest : scanned fresh place 0 (c ∷ cs) ≡ onto (plain fresh kind place (past_all (take n cs) (past c place))) (scanned false (past_all (take n cs) (past c place)) 0 (drop n cs)) =
      at_piece n fresh place c cs size
      ∙ ap (λ k. onto_kind fresh place (past_all (c ∷ take n cs) place) k (scanned (cond (is_some k) false line) (past c place) n cs)) some
      ∙ ap (onto (plain fresh kind place (past_all (take n cs) (past c place)))) (scanned-skip n false (past c place) cs) in
      (rest ∙ sym (ap (λ p. onto (plain fresh kind place p) (scanned false p 0 new.rest)) end ∙ ap (λ r. onto (plain fresh kind place (past_all (take n cs) (past c place))) (scanned false (past_all (take n cs) (past c place)) 0 r)) left), leaves n place fresh c cs new there)

  fault_at_place : (text : List ℕ) (fault : LexFault) → PieceIs (reading place fresh text) new (piece.Fault fault) → scanned fresh place 0 text ≡ Err fault
  fault_at_place [] fault h = absurd (omega (arith, h.0))
  fault_at_place (c ∷ cs) fault h =
      ap (λ m. with_piece fresh place (c ∷ cs) (take m (c ∷ cs)) (scanned (fresh_after fresh (take m (c ∷ cs))) (past c place) (m - 1) cs)) h.1
      ∙ ap Err (sym h.2)

pub gap_left : (old new : Reading) → PieceIs old new piece.Gap → (tokens_left new ≡ tokens_left old) × Leaves old new
gap_left old new h = gap_at old.place old.fresh new old.rest h

pub token_left : (old new : Reading) (kind : Kind) → PieceIs old new (piece.Token kind) → (tokens_left old ≡ onto (plain old.fresh kind old.place new.place) (scanned false new.place 0 new.rest)) × Leaves old new
token_left old new kind h = token_at old.place old.fresh new old.rest kind h

pub fault_left : (old new : Reading) (fault : LexFault) → PieceIs old new (piece.Fault fault) → tokens_left old ≡ Err fault
fault_left old new fault h = fault_at_place old.place old.fresh new old.rest fault h

pub nothing_left : (old : Reading) → old.rest ≡ [] → (tokens_left old ≡ Ok []) × (old.place ≡ end_of old)
nothing_left old h =
    (ap (λ r. scanned old.fresh old.place 0 r) h, sym (ap (λ r. past_all r old.place) h))

-- a token is read after space and comments, and the line has a token then
pub token_read : (first old cur noted : Reading) (kind : Kind) (start end column : ℕ) (fresh : Bool) → tokens_left old ≡ tokens_left first → end_of old ≡ end_of first → length old.rest ≤ length first.rest → PieceIs old cur (piece.Token kind) → noted ≡ reading cur.place false cur.rest → start ≡ old.place.at → end ≡ noted.place.at → column ≡ old.place.column → fresh ≡ old.fresh → TokenRead first noted (Some (record { token = record { kind = kind; start = start; end = end; column = column }; first = fresh }))
token_read first old cur noted kind start end column fresh t e l h n at to col line =
    let made : ℕ → ℕ → ℕ → Bool → Plain = λ a b c f. record { token = record { kind = kind; start = a; end = b; column = c }; first = f } in
    let read = token_left old cur kind h in
    let token : plain old.fresh kind old.place cur.place ≡ made start end column fresh =
    sym (ap (λ a. made a end column fresh) at ∙ ap (λ b. made old.place.at b column fresh) (to ∙ ap (λ (r : Reading). r.place.at) n) ∙ ap (λ c. made old.place.at cur.place.at c fresh) col ∙ ap (made old.place.at cur.place.at old.place.column) line) in
    (sym t ∙ read.0 ∙ ap (λ p. onto p (scanned false cur.place 0 cur.rest)) token ∙ ap (λ r. onto (made start end column fresh) (tokens_left r)) (sym n), ap end_of n ∙ read.1.end ∙ e, omega (arith, read.1.less, ap (λ (r : Reading). length r.rest) n))
