-- Lemmas on what a loop of writes leaves.
use Rattle.std.proofs.Common.{◌≡◌, ℕ, ◌<◌, Bool, false, List, [], ◌∷◌, ◌++◌, length, length-append, arith, take, drop, None, Some, Option, Result, Ok, Err, IsErr, ap, sym, ◌∙◌, append_assoc}
use Rattle.std.proofs.lemmas.List.{take-append-drop}
use Rattle.std.proofs.Math.Seq.{take-append_seam}
use Rattle.std.specs.Prelude.{◌==◌}
use Rattle.std.specs.Io.KnownBytes.{Appends, Keeps}
use Rattle.host_io.specs.Seen.{SeenSink}
use Rattle.dialogue.specs.declared.writing.WriteFault.{WriteFault}
use Rattle.dialogue.specs.Writes.{CutOff, Wrote}

-- two pieces, one after the other, are one
pub appends_both : (old mid new : Option (List ℕ)) (xs ys : List ℕ) → Appends old mid xs → Appends mid new ys → Appends old new (xs ++ ys)
appends_both None mid new xs ys first second = tt
appends_both (Some a) None new xs ys first second = absurd first
appends_both (Some a) (Some b) None xs ys first second = absurd second
appends_both (Some a) (Some b) (Some c) xs ys first second = second ∙ ap (λ l. l ++ ys) first ∙ append_assoc a xs ys

-- a write went on with the text
pub went_on : (old mid new : Option (List ℕ)) (text done rest : List ℕ) (n : ℕ) → text ≡ done ++ rest → Appends old mid done → Appends mid new (take n rest) → (more : List ℕ) × (text ≡ more ++ drop n rest) × Appends old new more
went_on old mid new text done rest n parts first second =
    (done ++ take n rest, parts ∙ ap (λ l. done ++ l) (sym (take-append-drop n rest)) ∙ sym (append_assoc done (take n rest) (drop n rest)), appends_both old mid new done (take n rest) first second)

-- what is not empty
pub some_left : (xs : List ℕ) (empty : Bool) → empty ≡ (length xs == 0) → empty ≡ false → 0 < length xs
some_left [] empty is some = cc
some_left (x ∷ xs) empty is some = omega arith

-- nothing more went out, and some was left
pub stopped : (old mid new : Option (List ℕ)) (text done rest : List ℕ) → text ≡ done ++ rest → 0 < length rest → Appends old mid done → Keeps mid new → (n : ℕ) × (n < length text) × Appends old new (take n text)
stopped old mid new text done rest parts some first kept =
    (length done, omega (arith, ap length parts, length-append done rest), went old mid new first kept)
  where
    went : (old mid new : Option (List ℕ)) → Appends old mid done → Keeps mid new → Appends old new (take (length done) text)
    went None mid new first kept = tt
    went (Some a) None new first kept = absurd first
    went (Some a) (Some b) None first kept = absurd kept
    went (Some a) (Some b) (Some c) first kept = kept ∙ first ∙ ap (λ l. a ++ l) (sym (ap (take (length done)) parts ∙ take-append_seam done rest))

-- the writing stops at the first write that fails
pub cut_off : (text : List ℕ) (old new : SeenSink) (result : Result Unit WriteFault) → IsErr result → CutOff text old new → Wrote text old new result
cut_off text old new (Ok x) err cut = cc
cut_off text old new (Err fault) err cut = cut
