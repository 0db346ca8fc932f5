-- What some places make, one after the other.
use Rattle.std.proofs.Common.{◌≡◌, Bor, ℕ, zero, suc, ◌+◌, ◌<◌, ◌≤◌, Bool, true, false, ◌||◌, IsTrue, List, [], ◌∷◌, length, take, get_or, refl, sym, ◌∙◌, ap₂, arith, Option, Some, None, IsSome}
use Rattle.std.specs.List.{list_all, list_any}
use Rattle.std.proofs.lemmas.Bool.{and_parts}
use Rattle.std.proofs.lemmas.List.{get_or-map, length-map}
use Rattle.trees.specs.Things.{Thing, Meanings, Kept, both, consed, meanings}
use Rattle.trees.proofs.OptionLaws.{some_of}
use Rattle.rules.specs.declared.instruction.Instruction.{Instruction}
use Rattle.rules.specs.Run.{lists_of, thing_of, things_of, rows_in, rows_of_all}
use Rattle.rules.specs.Schemas.{fits, has_then}

-- the place that a slice has at an index

abbrev pub nowhere : Bor (List Instruction)
nowhere = record { ref_ptr = (0, 0); now = [] }

pub place_at : (places : List (Bor (List Instruction))) (k : ℕ) → k < length places → (get_or places k nowhere).now ≡ get_or (lists_of places) k []
place_at places k lt = sym (get_or-map (λ p. p.now) places k nowhere [] lt)

pub within : (places : List (Bor (List Instruction))) (k : ℕ) → k < length places → k < length (lists_of places)
within places k lt = rw (length-map places (λ p. p.now)) lt

pub fits_at : (ps : List (List Instruction)) (k : ℕ) → k < length ps → list_all fits ps ≡ true → fits (get_or ps k []) ≡ true
fits_at [] k lt e = absurd (omega arith)
fits_at (p ∷ ps) zero lt e = (and_parts (fits p) (list_all fits ps) e).0
fits_at (p ∷ ps) (suc k) lt e = fits_at ps k (omega arith) (and_parts (fits p) (list_all fits ps) e).1

pub then_within : (ps : List (List Instruction)) (k : ℕ) → k < length ps → IsTrue (has_then (get_or ps k [])) → IsTrue (list_any has_then ps)
then_within [] k lt t = absurd (omega arith)
then_within (p ∷ ps) zero lt t = from (has_then p) (list_any has_then ps) t
  where
    from : (a b : Bool) → IsTrue a → IsTrue (a || b)
    from false b t = cc
    from true b t = refl
then_within (p ∷ ps) (suc k) lt t = from (has_then p) (list_any has_then ps) (then_within ps k (omega arith) t)
  where
    from : (a b : Bool) → IsTrue b → IsTrue (a || b)
    from false b t = t
    from true b t = refl

some_both : (o : Option Thing) (r : Option (List Thing)) → IsSome (both consed o r) → IsSome o × IsSome r
some_both None r some = cc
some_both (Some x) None some = cc
some_both (Some x) (Some xs) some = (refl, refl)

pub makes_at : (P : Option (List Thing)) (ps : List (List Instruction)) (k : ℕ) → k < length ps → IsSome (things_of P ps) → IsSome (thing_of P (get_or ps k []))
makes_at P [] k lt some = absurd (omega arith)
makes_at P (p ∷ ps) zero lt some = (some_both (thing_of P p) (things_of P ps) some).0
makes_at P (p ∷ ps) (suc k) lt some = makes_at P ps k (omega arith) (some_both (thing_of P p) (things_of P ps) some).1

pub rows_take : (ps : List (List Instruction)) (k : ℕ) → k < length ps → rows_of_all (take (k + 1) ps) ≡ rows_of_all (take k ps) + rows_in (get_or ps k [])
rows_take [] k lt = absurd (omega arith)
rows_take (p ∷ ps) zero lt = omega arith
rows_take (p ∷ ps) (suc k) lt =
    let next : suc k + 1 ≡ suc (k + 1) = omega arith in
    let h = rows_take ps k (omega arith) in
    rw next (omega arith)

pub rows_within : (ps : List (List Instruction)) (k : ℕ) → rows_of_all (take k ps) ≤ rows_of_all ps
rows_within ps zero = omega arith
rows_within [] (suc k) = omega arith
rows_within (p ∷ ps) (suc k) = omega (arith, rows_within ps k)

-- rows that each mean what a place makes
pub rows_all : (f : Meanings) (P : Option (List Thing)) (rows : List ℕ) (ps : List (List Instruction)) → length rows ≡ length ps → ((k : ℕ) → k < length ps → f (get_or rows k 0) ≡ thing_of P (get_or ps k [])) → meanings f rows ≡ things_of P ps
rows_all f P [] [] n each = refl
rows_all f P [] (p ∷ ps) n each = absurd (omega arith)
rows_all f P (k ∷ rows) [] n each = absurd (omega arith)
rows_all f P (k ∷ rows) (p ∷ ps) n each = ap₂ (both consed) (each 0 (omega arith)) (rows_all f P rows ps (omega arith) (λ j lt. each (suc j) (omega arith)))

-- what a row means it goes on to mean
pub still : (f g : Meanings) → Kept f g → (k : ℕ) (o : Option Thing) → IsSome o → f k ≡ o → g k ≡ o
still f g kept k o some e =
    let s = some_of o some in
    kept.keeps k s.value (e ∙ s.is) ∙ sym s.is
