-- What right rows conclude is provable.
use Rattle.std.proofs.Common.{◌≡◌, ℕ, zero, suc, List, [], ◌∷◌, ◌++◌, refl, sym, ap, subst, Option, Some, None}
use Rattle.std.specs.List.{All}
use Rattle.std.specs.Option.{option_to_list}
use Rattle.std.proofs.lemmas.List.Elements.{All-nil, All-cons, All-append, All-contains}
use Rattle.trees.specs.Judgements.{Judgement}
use Rattle.trees.specs.Things.{meanings}
use Rattle.trees.proofs.Meanings.{meanings-cons}
use Rattle.deriv_file.specs.declared.row.Row.{Row}
use Rattle.deriv_file.specs.declared.row.Row.TheVariants.{Header, Node, Root}
use Rattle.derivation.specs.Meanings.{Meaning, conclusion_of, conclusion_at}
use Rattle.derivation.specs.Right.{RightRow, RightRows, Derives, root_of, roots_of}
use Rattle.derivation.specs.Derivations.{Provable, by_rule, Derivable}

-- what the rows conclude is provable
pub record AreSound (before : List Meaning) : Type 0 where
  pub at : (k : ℕ) (J : Judgement) → conclusion_at before k ≡ Some J → Provable J

none_sound : AreSound []
none_sound = record { at = λ k J e. cc }

-- what all of the numbers mean has what each of them has
pub meanings-each : {A : Type 0} (P : A → Type 0) (f : ℕ → Option A) → ((k : ℕ) (x : A) → f k ≡ Some x → P x) → (ks : List ℕ) (xs : List A) → meanings f ks ≡ Some xs → All P xs
meanings-each P f each [] [] e = All-nil P
meanings-each P f each [] (x ∷ xs) e = cc
meanings-each {A} P f each (k ∷ ks) xs e =
    let m = meanings-cons f k ks xs e in
    subst (All P) (sym m.whole) (All-cons P m.first m.rest (each k m.first m.first_is) (meanings-each P f each ks m.rest m.rest_is))

-- a right row concludes what is provable
row_sound : (before : List Meaning) (row : Row) (m : Meaning) → AreSound before → RightRow before row m → (J : Judgement) → conclusion_of m ≡ Some J → Provable J
row_sound [] (Header version) m sound right J e = let none : conclusion_of m ≡ None = ap conclusion_of right in cc
row_sound [] row m sound right J e = absurd right
row_sound (x ∷ before) (Header version) m sound right J e = absurd right
row_sound (x ∷ before) (Node rule parts premises) m sound right J e =
    let some : conclusion_of m ≡ Some right.0 = ap conclusion_of right.2 in
    let same : right.0 ≡ J = cc in
    let node = right.1 in
    subst Provable same
    (by_rule rule node.xs node.Js right.0 node.instance
    (λ K among. All-contains Provable node.Js K
    (meanings-each Provable (conclusion_at (x ∷ before)) sound.at premises node.Js node.premises_are) among))
row_sound (x ∷ before) row m sound right J e = let none : conclusion_of m ≡ None = ap conclusion_of right.2 in cc

push_sound : (before : List Meaning) (m : Meaning) → AreSound before → ((J : Judgement) → conclusion_of m ≡ Some J → Provable J) → AreSound (before ++ m ∷ [])
push_sound before m sound here = record { at = from before sound.at }
  where
    from : (ms : List Meaning) → ((k : ℕ) (J : Judgement) → conclusion_at ms k ≡ Some J → Provable J) → (k : ℕ) (J : Judgement) → conclusion_at (ms ++ m ∷ []) k ≡ Some J → Provable J
    from [] each zero J e = here J e
    from [] each (suc k) J e = cc
    from (x ∷ ms) each zero J e = each zero J e
    from (x ∷ ms) each (suc k) J e = from ms (λ j K. each (suc j) K) k J e

rows_sound : (before : List Meaning) (rows : List Row) (all : List Meaning) → AreSound before → RightRows before rows all → AreSound all
rows_sound before [] all sound right = subst AreSound (sym right) sound
rows_sound before (row ∷ rows) all sound right =
    rows_sound (before ++ right.0 ∷ []) rows all (push_sound before right.0 sound (row_sound before row right.0 sound right.1)) right.2

pub conclusions_sound : (rows : List Row) (all : List Meaning) (k : ℕ) (J : Judgement) → RightRows [] rows all → conclusion_at all k ≡ Some J → Provable J
conclusions_sound rows all k J right e = (rows_sound [] rows all none_sound right).at k J e

-- so are the roots

root_sound : (all : List Meaning) (row : Row) → AreSound all → All Provable (root_of all row)
root_sound all (Root node) sound = from (conclusion_at all node) refl
  where
    from : (o : Option Judgement) → conclusion_at all node ≡ o → All Provable (option_to_list o)
    from None e = All-nil Provable
    from (Some J) e = All-cons Provable J [] (sound.at node J e) (All-nil Provable)
root_sound all row sound = All-nil Provable

roots_sound : (all : List Meaning) (rows : List Row) → AreSound all → All Provable (roots_of all rows)
roots_sound all [] sound = All-nil Provable
roots_sound all (row ∷ rows) sound = All-append Provable (root_of all row) (roots_of all rows) (root_sound all row sound) (roots_sound all rows sound)

-- what a file derives is provable
derives_provable : (bytes : List ℕ) (n : ℕ) (Js : List Judgement) → Derives bytes n Js → All Provable Js
derives_provable bytes n Js derives =
    subst (All Provable) (sym derives.roots_are)
    (roots_sound derives.all derives.spelt (rows_sound [] derives.spelt derives.all none_sound derives.begins.right))

pub derivable_provable : (J : Judgement) → Derivable J → Provable J
derivable_provable J d = All-contains Provable d.roots J (derives_provable d.file d.rows d.roots d.derives) d.among
