-- What the last entries of two contexts leave to compare.
use Rattle.std.specs.Prelude.{◌≡◌, ◌<◌, ℕ}
use Rattle.trees.specs.Things.{Meanings}
use Rattle.rows.specs.Views.{IsTree, IsContext}
use Rattle.compare.specs.declared.entries.LastEntries.{LastEntries}
use Rattle.compare.specs.declared.entries.LastEntries.TheVariants.{Empty, Trees, Names, Other}

-- the contexts of two rows are equal where those of two others are, and something more holds
pub record Next (f : Meanings) (l r g h : ℕ) (extra : Type 0) : Type 0 where
  pub left_is : IsContext (f g)
  pub right_is : IsContext (f h)
  pub left_earlier : g < l
  pub down : f l ≡ f r → (f g ≡ f h) × extra
  pub up : f g ≡ f h → extra → f l ≡ f r

-- trees of two entries that are left to compare
pub record NextTrees (f : Meanings) (l r g h a b : ℕ) : Type 0 where
  pub next : Next f l r g h (f a ≡ f b)
  pub left_tree : IsTree (f a)
  pub right_tree : IsTree (f b)

abbrev pub EntriesAre : Meanings → ℕ → ℕ → LastEntries → Type 0
EntriesAre f l r Empty = f l ≡ f r
EntriesAre f l r (Trees g h a b) = NextTrees f l r g.0 h.0 a.0 b.0
EntriesAre f l r (Names g h) = Next f l r g.0 h.0 (Unit {0})
EntriesAre f l r Other = f l ≡ f r → ⊥
