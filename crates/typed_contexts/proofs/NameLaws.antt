-- Which indices are those of names.
use Rattle.std.proofs.Common.{◌≡◌, ◌-◌, ◌<◌, ◌≤◌, ℕ, zero, suc, Bool, true, false, refl, ◌∙◌, subst, arith}
use Rattle.trees.specs.Judgements.{Context, Nil, WithVar, WithName, WithFace}
use Rattle.conditions.specs.Sides.{is_name}
use Rattle.book.specs.Contents.{Contents}
use Rattle.book.specs.declared.kernel.NodeId.{NodeId}
use Rattle.typed_contexts.specs.Contexts.{depth_of, outside, at_depth}
use Rattle.typed_contexts.specs.Places.{IsEntry, IsLevel}
use Rattle.typed_contexts.specs.declared.place.Entry.{Entry}
use Rattle.typed_contexts.specs.declared.place.Entry.TheVariants as entry
use Rattle.typed_contexts.specs.declared.place.Level.{Level}
use Rattle.typed_contexts.proofs.VariableLaws.{ends-with}

-- there is none past the depth
pub is_name-deep : (k : ℕ) (H : Context) → depth_of H ≤ k → is_name H k ≡ false
is_name-deep k Nil deep = refl
is_name-deep zero (WithVar H A) deep = absurd (omega arith)
is_name-deep (suc k) (WithVar H A) deep = is_name-deep k H (omega arith)
is_name-deep zero (WithName H) deep = absurd (omega arith)
is_name-deep (suc k) (WithName H) deep = is_name-deep k H (omega arith)
is_name-deep k (WithFace H p) deep = is_name-deep k H deep

is_name-outside : (k : ℕ) (H : Context) → is_name H k ≡ is_name (outside k H) 0
is_name-outside zero H = refl
is_name-outside (suc k) Nil = refl
is_name-outside (suc k) (WithVar H A) = is_name-outside k H
is_name-outside (suc k) (WithName H) = is_name-outside k H
is_name-outside (suc k) (WithFace H p) = is_name-outside (suc k) H

abbrev is_entry : Entry → Bool
is_entry (entry.Variable ty) = false
is_entry entry.Name = true

of_entry : (b : Contents) (e : Entry) (G : Context) → IsEntry b e G → is_name G 0 ≡ is_entry e
of_entry b (entry.Variable ty) (WithVar H A) is = refl
of_entry b entry.Name (WithName H) is = refl
of_entry b (entry.Variable ty) Nil is = absurd is
of_entry b (entry.Variable ty) (WithName H) is = absurd is
of_entry b (entry.Variable ty) (WithFace H p) is = absurd is
of_entry b entry.Name Nil is = absurd is
of_entry b entry.Name (WithVar H A) is = absurd is
of_entry b entry.Name (WithFace H p) is = absurd is

level_name : (b : Contents) (level : Level) (n k : ℕ) (H : Context) → n ≡ depth_of H → k < n → IsLevel b level (at_depth (n - k) H) → is_name H k ≡ is_entry level.entry
level_name b level n k H e low is =
    is_name-outside k H ∙ of_entry b level.entry (outside k H) (subst (IsEntry b level.entry) (ends-with n k H e low) is.entry_is)

pub no_name : (b : Contents) (level : Level) (ty : NodeId) (n k : ℕ) (H : Context) → n ≡ depth_of H → k < n → level.entry ≡ entry.Variable ty → IsLevel b level (at_depth (n - k) H) → is_name H k ≡ false
no_name b level ty n k H e low same is = level_name b level n k H e low is ∙ rw same refl

pub a_name : (b : Contents) (level : Level) (n k : ℕ) (H : Context) → n ≡ depth_of H → k < n → level.entry ≡ entry.Name → IsLevel b level (at_depth (n - k) H) → is_name H k ≡ true
a_name b level n k H e low same is = level_name b level n k H e low is ∙ rw same refl
