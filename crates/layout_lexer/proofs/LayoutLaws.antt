-- Marks that are appended one by one.
use Rattle.std.proofs.Common.{◌≡◌, ℕ, suc, ◌+◌, ◌<◌, Bool, true, false, cond, not, ◌&&◌, ◌||◌, ◌==◌, nat_lt, List, [], ◌∷◌, ◌++◌, map, length, drop, replicate, refl, sym, ◌∙◌, ap, arith, Some, None, Option, append_assoc, append-nil, lt-ltb, count_by}
use Rattle.std.specs.List.{list_any, position_or_len}
use Rattle.std.proofs.lemmas.List.{map-append}
use Rattle.std.proofs.lemmas.List.Sums.{sum_by-cons}
use Rattle.layout_lexer.specs.declared.blocks.Block.{Block}
use Rattle.layout_lexer.specs.declared.layout.Layout.{Layout}
use Rattle.layout_lexer.specs.declared.token.Kind.{Kind}
use Rattle.layout_lexer.specs.declared.token.Kind.TheVariants.{Next, Close}
use Rattle.layout_lexer.specs.declared.scanner.Plain.{Plain}
use Rattle.layout_lexer.specs.declared.token.Token.{Token}
use Rattle.layout_lexer.specs.Places.{Place}
use Rattle.layout_lexer.specs.Layouts.{BlockEnded, top, mark, marked, ending, let_depth, right_of, empty_block, finished, ended_by_in, is_in, start_of, line_begun, blocks_ended}

-- some block is of `let` where their count is not 0
pub any_counted : {X : Type 0} (p : X → Bool) (xs : List X) → nat_lt 0 (count_by p xs) ≡ list_any p xs
any_counted p [] = refl
any_counted p (x ∷ xs) = rw (sum_by-cons) (by (p x) (any_counted p xs))
  where
    by : (b : Bool) → nat_lt 0 (count_by p xs) ≡ list_any p xs → nat_lt 0 (cond b 1 0 + count_by p xs) ≡ (b || list_any p xs)
    by true rest = lt-ltb 0 (1 + count_by p xs) (omega arith)
    by false rest = let same : 0 + count_by p xs ≡ count_by p xs = omega arith in ap (nat_lt 0) same ∙ rest

-- marks after marks
pub marked-marked : (s : Layout) (place : Place) (some more : List Kind) (blocks left : List Block) → marked (marked s place some blocks) place more left ≡ marked s place (some ++ more) left
marked-marked s place some more blocks left =
    let tokens : (s.tokens ++ map (mark place) some) ++ map (mark place) more ≡ s.tokens ++ map (mark place) (some ++ more) =
    append_assoc s.tokens (map (mark place) some) (map (mark place) more) ∙ ap (λ m. s.tokens ++ m) (sym (map-append (mark place) some more)) in
    ap (λ (t : List Token). let r : Layout = record { tokens = t; blocks = left; opener = s.opener } in r) tokens

-- one block, and n more
pub ending-step : (n : ℕ) (s new : Layout) (place : Place) (b : Block) (bs : List Block) → s.blocks ≡ b ∷ bs → new ≡ marked s place (Close ∷ []) bs → ending (suc n) s place ≡ ending n new place
ending-step n s new place b bs e h =
    ap (λ blocks. marked s place (Close ∷ replicate n Close) (drop (suc n) blocks)) e
    ∙ sym (marked-marked s place (Close ∷ []) (replicate n Close) bs (drop n bs))
    ∙ ap (λ t. ending n t place) (sym h)

let_depth-suc : (b : Block) (bs : List Block) → b.by_let ≡ false → list_any (λ x. x.by_let) (b ∷ bs) ≡ true → let_depth (b ∷ bs) ≡ suc (let_depth bs)
let_depth-suc b bs h any =
    let n = position_or_len (λ (x : Block). x.by_let) bs in
    let rest : list_any (λ x. x.by_let) bs ≡ true = sym (ap (λ t. t || list_any (λ (x : Block). x.by_let) bs) h) ∙ any in
    let here : let_depth (b ∷ bs) ≡ (1 + n) + 1 =
    ap (λ t. cond t (position_or_len (λ (x : Block). x.by_let) (b ∷ bs) + 1) 0) any ∙ ap (λ t. cond (not t) (1 + n) 0 + 1) h in
    let there : let_depth bs ≡ n + 1 = ap (λ t. cond t (n + 1) 0) rest in
    omega arith

let_depth-one : (b : Block) (bs : List Block) → b.by_let ≡ true → let_depth (b ∷ bs) ≡ 1
let_depth-one b bs h =
    ap (λ t. cond (t || list_any (λ (x : Block). x.by_let) bs) (cond (not t) (1 + position_or_len (λ (x : Block). x.by_let) bs) 0 + 1) 0) h

-- the block of `let` ends
pub let_ends : (s new : Layout) (place : Place) (b : Block) (bs : List Block) → s.blocks ≡ b ∷ bs → new ≡ marked s place (Close ∷ []) bs → b.by_let ≡ true → ending (let_depth s.blocks) s place ≡ new
let_ends s new place b bs e h by_let =
    ap (λ n. ending n s place) (ap let_depth e ∙ let_depth-one b bs by_let)
    ∙ ap (λ blocks. marked s place (Close ∷ []) (drop 1 blocks)) e ∙ sym h

-- another block ends
pub let_waits : (s new : Layout) (place : Place) (b : Block) (bs : List Block) → s.blocks ≡ b ∷ bs → new ≡ marked s place (Close ∷ []) bs → b.by_let ≡ false → list_any (λ x. x.by_let) s.blocks ≡ true → (list_any (λ x. x.by_let) new.blocks ≡ true) × (ending (let_depth new.blocks) new place ≡ ending (let_depth s.blocks) s place)
let_waits s new place b bs e h by_let any =
    let within : list_any (λ x. x.by_let) (b ∷ bs) ≡ true = sym (ap (list_any (λ (x : Block). x.by_let)) e) ∙ any in
    let rest : list_any (λ x. x.by_let) bs ≡ true = sym (ap (λ t. t || list_any (λ (x : Block). x.by_let) bs) by_let) ∙ within in
    let left : new.blocks ≡ bs = ap (λ (t : Layout). t.blocks) h in
    (ap (list_any (λ (x : Block). x.by_let)) left ∙ rest, sym (ap (λ n. ending n s place) (ap let_depth e ∙ let_depth-suc b bs by_let within) ∙ ending-step (let_depth bs) s new place b bs e h ∙ ap (λ blocks. ending (let_depth blocks) new place) (sym left)))

-- a block ends that a token stands left of
pub right_step : (s new : Layout) (place : Place) (column : ℕ) (bs : List Block) (r : Option Block) → column < top s.blocks → BlockEnded s.blocks bs r → new ≡ marked s place (Close ∷ []) bs → ending (right_of column new.blocks) new place ≡ ending (right_of column s.blocks) s place
right_step s new place column bs None h m e =
    let none : top s.blocks ≡ 0 = ap top m.0 in
    absurd (omega arith)
right_step s new place column bs (Some b) h m e =
    let here : top s.blocks ≡ b.column = ap top m in
    let passes : nat_lt column b.column ≡ true = lt-ltb column b.column (omega arith) in
    let left : new.blocks ≡ bs = ap (λ (t : Layout). t.blocks) e in
    let run : right_of column s.blocks ≡ suc (right_of column bs) =
    ap (right_of column) m ∙ ap (λ t. cond t (1 + right_of column bs) 0) passes ∙ omega arith in
    sym (ap (λ n. ending n s place) run ∙ ending-step (right_of column bs) s new place b bs m e ∙ ap (λ blocks. ending (right_of column blocks) new place) (sym left))

-- the last marks of a text
pub finish_begins : (s new : Layout) (place : Place) → new ≡ marked s place (empty_block s.opener) s.blocks → finished s place ≡ (ending (length new.blocks) new place).tokens
finish_begins s new place h =
    let n = length s.blocks in
    sym (ap (λ (t : Layout). (ending (length t.blocks) t place).tokens) h ∙ ap (λ (t : Layout). t.tokens) (marked-marked s place (empty_block s.opener) (replicate n Close) s.blocks []))

pub finish_step : (s new : Layout) (place : Place) (b : Block) (bs : List Block) → s.blocks ≡ b ∷ bs → new ≡ marked s place (Close ∷ []) bs → (ending (length s.blocks) s place).tokens ≡ (ending (length new.blocks) new place).tokens
finish_step s new place b bs e h =
    let left : new.blocks ≡ bs = ap (λ (t : Layout). t.blocks) h in
    ap (λ blocks. (ending (length blocks) s place).tokens) e ∙ ap (λ (t : Layout). t.tokens) (ending-step (length bs) s new place b bs e h)
    ∙ ap (λ blocks. (ending (length blocks) new place).tokens) (sym left)

pub fewer : (s new : Layout) (place : Place) (b : Block) (bs : List Block) → s.blocks ≡ b ∷ bs → new ≡ marked s place (Close ∷ []) bs → length new.blocks < length s.blocks
fewer s new place b bs e h =
    let left : length new.blocks ≡ length bs = ap (λ (t : Layout). length t.blocks) h in
    let all : length s.blocks ≡ suc (length bs) = ap (λ (t : List Block). length t) e in
    omega arith

-- The marks before a token that begins no block.

module _ (s e new : Layout) (t : Plain) (empty : e ≡ marked s (start_of t.token) (empty_block s.opener) s.blocks) where
  abbrev how_many : Bool → Bool → ℕ
  how_many in_ first = cond in_ (ended_by_in s.opener s.blocks) (cond first (right_of t.token.column s.blocks) 0)

  abbrev what : Bool → Bool → Layout
  what in_ first =
      marked s (start_of t.token)
      (empty_block s.opener ++ replicate (how_many in_ first) Close
      ++ cond (first && not in_ && top (drop (how_many in_ first) s.blocks) == t.token.column) (Next ∷ []) [])
      (drop (how_many in_ first) s.blocks)

  end_in_by : (first : Bool) → ending (ended_by_in s.opener s.blocks) (marked s (start_of t.token) (empty_block s.opener) s.blocks) (start_of t.token) ≡ what true first
  end_in_by true =
      let n = ended_by_in s.opener s.blocks in
      marked-marked s (start_of t.token) (empty_block s.opener) (replicate n Close) s.blocks (drop n s.blocks)
      ∙ ap (λ marks. marked s (start_of t.token) marks (drop n s.blocks)) (sym (append-nil (empty_block s.opener ++ replicate n Close)))
  end_in_by false =
      let n = ended_by_in s.opener s.blocks in
      marked-marked s (start_of t.token) (empty_block s.opener) (replicate n Close) s.blocks (drop n s.blocks)
      ∙ ap (λ marks. marked s (start_of t.token) marks (drop n s.blocks)) (sym (append-nil (empty_block s.opener ++ replicate n Close)))

  -- at `in`
  pub end_in : is_in t.token.kind ≡ true → new ≡ ending (ended_by_in e.opener e.blocks) e (start_of t.token) → new ≡ blocks_ended s t
  end_in in_ h =
      h ∙ ap (λ (x : Layout). ending (ended_by_in x.opener x.blocks) x (start_of t.token)) empty ∙ end_in_by t.first
      ∙ sym (ap (λ b. what b t.first) in_)

  -- at the first token of a line
  pub end_line : is_in t.token.kind ≡ false → t.first ≡ true → new ≡ line_begun e t.token → new ≡ blocks_ended s t
  end_line in_ first h =
      let n = right_of t.token.column s.blocks in
      let item : List Kind = cond (top (drop n s.blocks) == t.token.column) (Next ∷ []) [] in
      h ∙ ap (λ (x : Layout). line_begun x t.token) empty
      ∙ marked-marked s (start_of t.token) (empty_block s.opener) (replicate n Close ++ item) s.blocks (drop n s.blocks)
      ∙ ap (λ marks. marked s (start_of t.token) marks (drop n s.blocks)) (sym (append_assoc (empty_block s.opener) (replicate n Close) item))
      ∙ sym (ap (λ b. what b t.first) in_ ∙ ap (what false) first)

  -- at another token
  pub end_nothing : is_in t.token.kind ≡ false → t.first ≡ false → e ≡ blocks_ended s t
  end_nothing in_ first =
      empty
      ∙ ap (λ marks. marked s (start_of t.token) marks s.blocks) (sym (append-nil (empty_block s.opener ++ []) ∙ append-nil (empty_block s.opener)))
      ∙ sym (ap (λ b. what b t.first) in_ ∙ ap (what false) first)
