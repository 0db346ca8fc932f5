-- How rows stand in chunks of words.
use Rattle.std.specs.Prelude.{◌≡◌, ℕ, ◌+◌, ◌-◌, ◌*◌, ◌^◌, ◌<◌, ◌≤◌, ◌⊎◌, min, List}
use Rattle.std.specs.Prelude.{[], length, map, slice_index_or, slice_range, Vec}
use Rattle.std.specs.List.{All, AllPairs}
use Rattle.std.specs.Vec.{vec_capacity}
use Rattle.std.specs.declared.alloc.Global.{Global}
use Rattle.region.specs.declared.storage.Place.{Place}

abbrev pub Chunk : Type 0
Chunk = Vec ℕ Global

-- how many words a chunk has
abbrev pub chunk_words : ℕ
chunk_words = 4096

-- the words of each chunk
abbrev pub words_in : List Chunk → List (List ℕ)
words_in chunks = map (λ c. c.items) chunks

-- the words of one chunk
abbrev pub words_of : List (List ℕ) → ℕ → List ℕ
words_of words chunk = slice_index_or words chunk []

abbrev pub row_at : List (List ℕ) → Place → List ℕ
row_at words p = slice_range (words_of words p.chunk) p.start (p.start + p.length)

abbrev pub rows_at : List Chunk → List Place → List (List ℕ)
rows_at chunks places = map (row_at (words_in chunks)) places

-- the row stands in a chunk up to the current one, within the words that are written there
pub record IsWritten (words : List (List ℕ)) (current : ℕ) (p : Place) : Type 0 where
  pub early : p.chunk ≤ current
  pub within : p.start + p.length ≤ length (words_of words p.chunk)

-- one row ends before the other begins
abbrev pub IsBefore : Place → Place → Type 0
IsBefore p q = (p.chunk < q.chunk) ⊎ ((p.chunk ≡ q.chunk) × (p.start + p.length ≤ q.start))

-- a chunk that has room for all its words, of which as many are written as it has, or fewer
pub record IsChunk (c : Chunk) : Type 0 where
  pub room : chunk_words ≤ vec_capacity c
  pub whole : length c.items ≤ chunk_words

-- as many chunks as places can tell apart, or fewer
pub record AreChunks (chunks : List Chunk) : Type 0 where
  pub few : length chunks ≤ 2 ^ 32
  pub each : All IsChunk chunks

-- the rows stand one after another in chunks up to the current one
pub record IsLaidOut (chunks : List Chunk) (current : ℕ) (places : List Place) : Type 0 where
  pub are : AreChunks chunks
  pub chosen : current < length chunks
  pub written : All (IsWritten (words_in chunks) current) places
  pub ordered : AllPairs IsBefore places

-- the words of the first n chunks stay, and no chunk goes
pub record KeepsChunks (n : ℕ) (old new : List Chunk) : Type 0 where
  pub same : (c : ℕ) → c < n → words_of (words_in new) c ≡ words_of (words_in old) c
  pub more : length old ≤ length new
  pub are : AreChunks new

-- the chunk for so many words: the current one where they fit, or else the next one, which is empty
pub record IsChunkFor (old new : List Chunk) (current size at : ℕ) : Type 0 where
  pub within : at < length new
  pub fits : length (words_of (words_in new) at) + size ≤ chunk_words
  pub which :
      ((at ≡ current) × (length new ≡ length old))
      ⊎ ((at ≡ current + 1) × (words_of (words_in new) at ≡ []) ×
      (chunk_words < length (words_of (words_in old) current) + size))

-- words that surely have room: half of each chunk after the current one, and of that one what is
-- left up to half of it. A row that doesn't fit in what is left of a chunk goes into the next, and
-- what is left is lost
abbrev pub spare_in : List Chunk → ℕ → ℕ
spare_in chunks current =
    2048 * (length chunks - (current + 1)) +
    min 2048 (chunk_words - length (words_of (words_in chunks) current))
