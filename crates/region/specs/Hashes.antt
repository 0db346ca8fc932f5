-- The hash of a row: products over its words by turns, then over their number.
use Rattle.std.specs.Prelude.{ℕ, ◌*◌, ◌/◌, ◌%◌, ◌^◌, List, length, fold, bit_xor}
use Rattle.region.specs.declared.hash.State.{State}
use Rattle.region.specs.declared.hash.TheConstants.{START, OF_WORD, OF_COUNT, OF_STATES}

-- the two halves of a product of 128 bits
unfoldable pub folded : ℕ → ℕ → ℕ
folded left right = bit_xor (left * right / 2 ^ 64) (left * right % 2 ^ 64)

-- the state after one more word
unfoldable pub added : State → ℕ → State
added s word = record {
  next = s.other;
  other = folded (bit_xor s.next word) OF_WORD;
}

-- the words of the row, then their number, and then both states
unfoldable pub hash_of : List ℕ → ℕ
hash_of row =
    let s = fold added START row in
    folded (bit_xor (folded (bit_xor s.next (length row)) OF_COUNT) s.other) OF_STATES
