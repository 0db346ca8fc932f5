-- A row of a book over rows of a file that mean what its names do.
use Rattle.std.proofs.Common.{◌≡◌, ℕ, ◌<◌, List, [], ◌∷◌, length, map, sym, ◌∙◌, ap, ap₂, arith, Option, Some, IsSome}
use Rattle.std.specs.Prelude.{slice_index_or, option_and_then}
use Rattle.std.specs.List.{All}
use Rattle.std.proofs.lemmas.List.Elements.{All-head, All-tail}
use Rattle.trees.specs.Things.{Thing, Meanings, both, consed, made, meanings}
use Rattle.trees.proofs.Meanings.{meanings-cons}
use Rattle.rows.proofs.OptionLaws.{one-some, both-some}
use Rattle.rows.proofs.MeaningLaws.{is_some-value}
use Rattle.trees.specs.declared.op.Op.{Op}
use Rattle.deriv_file.specs.declared.row.Row.{Row}
use Rattle.book_writer.specs.Means.{lines_mean, ArePlaced}

module _ (f : Meanings) (rows : List Row) (places : List ℕ) (are : ArePlaced f rows places) (next : ℕ) (all : next ≡ length places) where
  abbrev pub at : ℕ → ℕ
  at k = slice_index_or places k 0

  abbrev pub IsEarlier : ℕ → Type 0
  IsEarlier k = k < next

  copied : (k : ℕ) (x : Thing) → k < next → f k ≡ Some x → lines_mean rows (at k) ≡ Some x
  copied k x lt e = are.each k x (omega (arith, all)) e

  -- of two names
  pub both-copied : (h : Thing → Thing → Option Thing) (j k : ℕ) (o : Option Thing) → IsSome o → o ≡ both h (f j) (f k) → All IsEarlier (j ∷ k ∷ []) → both h (lines_mean rows (at j)) (lines_mean rows (at k)) ≡ o
  both-copied h j k o some is early =
      let x = is_some-value o some in
      let b = both-some h (f j) (f k) x.0 (sym is ∙ x.1) in
      ap₂ (both h) (copied j b.first (All-head IsEarlier j (k ∷ []) early) b.first_is) (copied k b.second (All-head IsEarlier k [] (All-tail IsEarlier j (k ∷ []) early)) b.second_is)
      ∙ b.whole ∙ sym x.1

  -- of one name
  pub one-copied : (h : Thing → Option Thing) (k : ℕ) (o : Option Thing) → IsSome o → o ≡ option_and_then h (f k) → All IsEarlier (k ∷ []) → option_and_then h (lines_mean rows (at k)) ≡ o
  one-copied h k o some is early =
      let x = is_some-value o some in
      let b = one-some h (f k) x.0 (sym is ∙ x.1) in
      ap (option_and_then h) (copied k b.first (All-head IsEarlier k [] early) b.first_is) ∙ b.whole ∙ sym x.1

  all-copied : (ks : List ℕ) (xs : List Thing) → meanings f ks ≡ Some xs → All IsEarlier ks → meanings (lines_mean rows) (map at ks) ≡ Some xs
  all-copied [] xs e early = e
  all-copied (k ∷ ks) xs e early =
      let m = meanings-cons f k ks xs e in
      ap₂ (both consed) (copied k m.first (All-head IsEarlier k ks early) m.first_is) (all-copied ks m.rest m.rest_is (All-tail IsEarlier k ks early))
      ∙ ap Some (sym m.whole)

  -- of the kids of an operator
  pub kids-copied : (op : Op) (ks : List ℕ) (o : Option Thing) → IsSome o → o ≡ option_and_then (made op) (meanings f ks) → All IsEarlier ks → option_and_then (made op) (meanings (lines_mean rows) (map at ks)) ≡ o
  kids-copied op ks o some is early =
      let x = is_some-value o some in
      let b = one-some (made op) (meanings f ks) x.0 (sym is ∙ x.1) in
      ap (option_and_then (made op)) (all-copied ks b.first b.first_is early) ∙ b.whole ∙ sym x.1
