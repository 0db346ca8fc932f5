-- A file is right or has a first bad row, and what it derives is derivable.
use Rattle.std.proofs.Common.{◌≡◌, ℕ, zero, suc, ◌+◌, ◌<◌, ◌≤◌, List, [], ◌∷◌, length, refl, arith}
use Rattle.std.specs.List.{All, Contains}
use Rattle.std.proofs.lemmas.List.Elements.{All-weaker, All-contains_itself}
use Rattle.trees.specs.Judgements.{Judgement}
use Rattle.deriv_file.specs.declared.row.Row.{Row}
use Rattle.deriv_file.specs.Lines.{lines}
use Rattle.derivation.specs.Meanings.{Meaning}
use Rattle.derivation.specs.Right.{Begins, Right, AllRight, FirstBad, Derives, roots_of}
use Rattle.derivation.specs.Derivations.{Derivable}
use Rattle.derivation.proofs.PrefixLaws.{right-earlier, all_right-from_derives}

-- without a first bad row it is absurd that not all rows below a number are right
below_right : (bytes : List ℕ) → ((k : ℕ) → FirstBad bytes k → ⊥) → (n : ℕ) → n ≤ length (lines bytes) → (((j : ℕ) → j < n → Right bytes j) → ⊥) → ⊥
below_right bytes none zero le not = not (λ j lt. absurd (omega arith))
below_right bytes none (suc n) le not =
    below_right bytes none n (omega arith) (λ before.
    none n (record { within = omega arith; before = before; bad = λ right. not (λ j lt. right-earlier bytes j n right (omega arith)) }))

pub right_or_bad : (bytes : List ℕ) → (AllRight bytes → ⊥) → ((k : ℕ) → FirstBad bytes k → ⊥) → ⊥
right_or_bad bytes wrong none = from (length (lines bytes)) refl
  where
    from : (n : ℕ) → length (lines bytes) ≡ n → ⊥
    from zero e =
        none 0 (record {
          within = omega arith;
          before = λ j lt. absurd (omega arith);
          bad = λ right. let begins : Begins bytes (0 + 1) right.0 right.1 = right.2 in omega (arith, begins.within, e);
        })
    from (suc n) e =
        below_right bytes none (length (lines bytes)) (omega arith) (λ all. wrong (omega (arith, e), all))

some_rows : (all : List Meaning) (rows : List Row) (J : Judgement) → Contains (roots_of all rows) J → 0 < length rows
some_rows all [] J among = absurd (omega (arith, among.1))
some_rows all (row ∷ rows) J among = omega arith

-- each root of a file is derivable
pub derives_derivable : (bytes : List ℕ) (n : ℕ) (Js : List Judgement) → Derives bytes n Js → All Derivable Js
derives_derivable bytes n Js derives = All-weaker (Contains Js) Derivable each Js (All-contains_itself Js)
  where
    each : (J : Judgement) → Contains Js J → Derivable J
    each J among =
        let there : Contains (roots_of derives.all derives.spelt) J = rw derives.roots_are at among in
        let some : 0 < n = omega (arith, derives.rows_are, some_rows derives.all derives.spelt J there) in
        record {
          file = bytes;
          rows = n;
          roots = Js;
          right = all_right-from_derives bytes n Js derives some;
          derives = derives;
          among = among;
        }
