-- Layout: where the marks `{`, `;` and `}` stand between the tokens of a text.
use Rattle.std.specs.Prelude.{◌≡◌, ℕ, Option, Some, None, Bool, true, false, not, ◌&&◌, ◌+◌, ◌==◌}
use Rattle.std.specs.Prelude.{nat_lt, List, [], ◌∷◌, ◌++◌, map, length, drop, replicate}
use Rattle.std.specs.Prelude.{if◌then◌else◌}
use Rattle.std.specs.List.{prefix_len, position_or_len, list_any}
use Rattle.layout_lexer.specs.declared.token.Kind.{Kind}
use Rattle.layout_lexer.specs.declared.token.Kind.TheVariants.{Open, Next, Close, Where, Let, In}
use Rattle.layout_lexer.specs.declared.token.Token.{Token}
use Rattle.layout_lexer.specs.declared.scanner.Plain.{Plain}
use Rattle.layout_lexer.specs.declared.blocks.Block.{Block}
use Rattle.layout_lexer.specs.declared.layout.Layout.{Layout}
use Rattle.layout_lexer.specs.declared.layout.Opener.{Opener}
use Rattle.layout_lexer.specs.declared.layout.Opener.TheVariants as opener
use Rattle.layout_lexer.specs.Places.{Place}

-- `where` and `let` ask for a block
abbrev pub opener_of : Kind → Opener
opener_of Where = opener.ByWhere
opener_of Let = opener.ByLet
opener_of _ = opener.Nothing

abbrev pub asks : Opener → Bool
asks opener.Nothing = false
asks _ = true

abbrev pub is_let : Opener → Bool
is_let opener.ByLet = true
is_let _ = false

abbrev pub is_in : Kind → Bool
is_in In = true
is_in _ = false

-- the column of the block on top, 0 where there is none
abbrev pub top : List Block → ℕ
top [] = 0
top (block ∷ blocks) = block.column

-- after `where` or `let`, the token begins a block
abbrev pub begins_block : Opener → List Block → Plain → Bool
begins_block opener blocks t =
    asks opener && nat_lt (top blocks) t.token.column && not (is_in t.token.kind)

-- how many blocks are right of a column
abbrev pub right_of : ℕ → List Block → ℕ
right_of column blocks = prefix_len (λ b. nat_lt column b.column) blocks

-- how many blocks there are up to and with the nearest that `let` opened, 0 where there is none
abbrev pub let_depth : List Block → ℕ
let_depth blocks =
    if list_any (λ b. b.by_let) blocks then position_or_len (λ b. b.by_let) blocks + 1 else 0

-- how many blocks end at `in`, after an opener or none; an empty block of `let` has ended already
abbrev pub ended_by_in : Opener → List Block → ℕ
ended_by_in opener blocks = if is_let opener then 0 else let_depth blocks

-- how many blocks end before a token that begins none: at `in`, and at the first token of a line
abbrev pub ended : Opener → List Block → Plain → ℕ
ended opener blocks t =
    if is_in t.token.kind then ended_by_in opener blocks
    else (if t.first then right_of t.token.column blocks else 0)

-- the token begins an item of the block on top
abbrev pub begins_item : List Block → Plain → Bool
begins_item blocks t = t.first && not (is_in t.token.kind) && top blocks == t.token.column

-- the marks of an empty block
abbrev pub empty_block : Opener → List Kind
empty_block opener = if asks opener then Open ∷ Close ∷ [] else []

-- the marks before a token that begins no block
abbrev pub ending_marks : Opener → List Block → Plain → List Kind
ending_marks opener blocks t =
    empty_block opener ++ replicate (ended opener blocks t) Close
    ++ (if begins_item (drop (ended opener blocks t) blocks) t then Next ∷ [] else [])

abbrev pub marks_before : Opener → List Block → Plain → List Kind
marks_before opener blocks t =
    if begins_block opener blocks t then Open ∷ [] else ending_marks opener blocks t

abbrev pub blocks_after : Opener → List Block → Plain → List Block
blocks_after opener blocks t =
    if begins_block opener blocks t then record {
      column = t.token.column;
      by_let = is_let opener;
    } ∷ blocks
    else drop (ended opener blocks t) blocks

-- a mark at a place
abbrev pub mark : Place → Kind → Token
mark place kind = record { kind = kind; start = place.at; end = place.at; column = place.column }

abbrev pub start_of : Token → Place
start_of token = record { at = token.start; column = token.column }

-- the tokens with their marks, after an opener or none, within these blocks, in a text that ends
-- there
abbrev pub laid_out : Opener → List Block → Place → List Plain → List Token
laid_out opener blocks end [] =
    map (mark end) (empty_block opener ++ replicate (length blocks) Close)
laid_out opener blocks end (t ∷ ts) =
    map (mark (start_of t.token)) (marks_before opener blocks t)
    ++ t.token ∷ laid_out (opener_of t.token.kind) (blocks_after opener blocks t) end ts

-- the innermost block ended, if there was one
abbrev pub BlockEnded : List Block → List Block → Option Block → Type 0
BlockEnded old new None = (old ≡ []) × (new ≡ [])
BlockEnded old new (Some block) = old ≡ block ∷ new

-- what is laid out so far, with more marks at a place, within these blocks
abbrev pub marked : Layout → Place → List Kind → List Block → Layout
marked layout place marks blocks =
    record {
      tokens = layout.tokens ++ map (mark place) marks;
      blocks = blocks;
      opener = layout.opener;
    }

-- the same, with the n innermost blocks ended
abbrev pub ending : ℕ → Layout → Place → Layout
ending n layout place = marked layout place (replicate n Close) (drop n layout.blocks)

-- the same, at the first token of a line
abbrev pub line_begun : Layout → Token → Layout
line_begun layout token =
    let left = drop (right_of token.column layout.blocks) layout.blocks in
    marked layout (start_of token)
    (replicate (right_of token.column layout.blocks) Close ++
    (if top left == token.column then Next ∷ [] else [])) left

-- the same, before a token that begins no block
abbrev pub blocks_ended : Layout → Plain → Layout
blocks_ended layout t =
    marked layout (start_of t.token) (ending_marks layout.opener layout.blocks t)
    (drop (ended layout.opener layout.blocks t) layout.blocks)

-- a token is appended, with the marks before it
abbrev pub appended : Layout → Plain → Layout
appended layout t = record {
  tokens = layout.tokens ++
      map (mark (start_of t.token)) (marks_before layout.opener layout.blocks t) ++ t.token ∷ [];
  blocks = blocks_after layout.opener layout.blocks t;
  opener = opener_of t.token.kind;
}

-- with the marks at the end of the text
abbrev pub finished : Layout → Place → List Token
finished layout end =
    layout.tokens ++
    map (mark end) (empty_block layout.opener ++ replicate (length layout.blocks) Close)
