-- Heads and their words.
use Rattle.std.proofs.Common.{◌≡◌, ℕ, zero, suc, ◌+◌, ◌<◌, List, [], ◌∷◌, refl, Some, IsSome}
use Rattle.std.specs.Prelude.{slice_get, slice_index_or}
use Rattle.std.proofs.lemmas.Option.{slice_get_within}
use Rattle.trees.specs.declared.op.Op.{Op}
use Rattle.trees.specs.declared.op.Op.TheVariants.{I0}
use Rattle.trees.specs.contracts.op.Op.{the_type}
use Rattle.rows.proofs.MeaningLaws.{is_some-value}
use denote.Enum.Declared.{tag_of}
use Rattle.interned.specs.declared.heads.TheConstants.{HEADS}
use Rattle.interned.specs.declared.heads.Head.{Head}
use Rattle.interned.specs.declared.heads.Head.TheVariants as head
use Rattle.interned.specs.Heads.{head_coded}

-- Of each operator by computation: the first line makes the second run through the others.
pub operator_at : (op : Op) → slice_get HEADS (9 + tag_of the_type op) ≡ Some (head.Make op)
operator_at I0 = refl
operator_at _ = refl

pub head-within : (words : List ℕ) → IsSome (head_coded words) → slice_index_or words 0 0 < 42
head-within [] some = cc
head-within (word ∷ cells) some = let x = is_some-value (slice_get HEADS word) some in slice_get_within HEADS word x.0 x.1

there : {X : Type 0} (xs : List X) (k : ℕ) (d : X) → IsSome (slice_get xs k) → slice_get xs k ≡ Some (slice_index_or xs k d)
there [] k d some = cc
there (x ∷ xs) zero d some = refl
there (x ∷ xs) (suc k) d some = there xs k d some

pub head-read : (words : List ℕ) (d : Head) → IsSome (head_coded words) → head_coded words ≡ Some (slice_index_or HEADS (slice_index_or words 0 0) d)
head-read [] d some = cc
head-read (word ∷ cells) d some = there HEADS word d some
