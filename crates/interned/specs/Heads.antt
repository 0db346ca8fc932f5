-- The head of a row of words.
use Rattle.std.specs.Prelude.{◌≡◌, ℕ, List, [], ◌∷◌, Option, Some, None, slice_get}
use Rattle.interned.specs.declared.heads.Head.{Head}
use Rattle.interned.specs.declared.heads.TheConstants.{HEADS}

-- what the first word says
abbrev pub head_coded : List ℕ → Option Head
head_coded [] = None
head_coded (word ∷ cells) = slice_get HEADS word

-- the words are a head and these cells
pub record IsHeaded (head : Head) (cells words : List ℕ) : Type 0 where
  pub word : ℕ
  pub is : words ≡ word ∷ cells
  pub says : slice_get HEADS word ≡ Some head
