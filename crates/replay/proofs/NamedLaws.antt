-- The things that numbers of a file name, place by place.
use Rattle.std.proofs.Common.{◌≡◌, ℕ, zero, suc, ◌+◌, ◌<◌, ◌≤◌, List, [], ◌∷◌, ◌++◌, length, take, get_or, refl, sym, ◌∙◌, ap, ap₂, arith, Option, Some, None, IsSome, map}
use Rattle.std.specs.Prelude.{slice_get, option_map}
use Rattle.std.proofs.lemmas.List.{take_all, take_more}
use Rattle.std.proofs.lemmas.Option.{slice_get-get_or}
use Rattle.trees.specs.declared.kind.PartKind.{PartKind}
use Rattle.trees.specs.Things.{Thing, meanings, kind_of}
use Rattle.trees.proofs.Meanings.{meanings-length, meanings-place, meanings-push}
use Rattle.derivation.specs.Meanings.{things_at, thing_at}
use Rattle.replay.specs.declared.filed.Filed.{Filed}
use Rattle.replay.specs.declared.filed.Filed.TheVariants as filed
use Rattle.replay.specs.Filed.{file_meanings}
use Rattle.replay.specs.Named.{IsOf, Names, NamesNone, NamesOne}
use Rattle.replay.proofs.FiledLaws.{at_thing}

pub record NamesSo (xs : List Thing) (es : List Filed) (numbers : List ℕ) (kinds : List PartKind) (n : ℕ) (rows : List ℕ) : Type 0 where
  pub Xs : List Thing
  pub rows_mean : meanings (slice_get xs) rows ≡ Some Xs
  pub numbers_mean : things_at (file_meanings xs es) (take n numbers) ≡ Some Xs
  pub kinds_are : map kind_of Xs ≡ take n kinds

map-push : (xs : List Thing) (x : Thing) → map kind_of (xs ++ x ∷ []) ≡ map kind_of xs ++ kind_of x ∷ []
map-push [] x = refl
map-push (y ∷ xs) x = ap (λ ks. kind_of y ∷ ks) (map-push xs x)

pub no_names : (xs : List Thing) (es : List Filed) (numbers : List ℕ) (kinds : List PartKind) (rows : List ℕ) → rows ≡ [] → NamesSo xs es numbers kinds 0 rows
no_names xs es numbers kinds rows e = record { Xs = []; rows_mean = rw e refl; numbers_mean = refl; kinds_are = refl }

pub one_name : (xs : List Thing) (es : List Filed) (numbers : List ℕ) (kinds : List PartKind) (n : ℕ) (rows next : List ℕ) (row : ℕ) (k : PartKind) → n < length numbers → n < length kinds → NamesSo xs es numbers kinds n rows → next ≡ rows ++ row ∷ [] → NamesOne xs es (get_or numbers n 0) (get_or kinds n k) row → NamesSo xs es numbers kinds (n + 1) next
one_name xs es numbers kinds n rows next row k lt lk so e one = from (slice_get xs row) refl one.kind_is
  where
    from : (o : Option Thing) → slice_get xs row ≡ o → IsOf (get_or kinds n k) o → NamesSo xs es numbers kinds (n + 1) next
    from None eo is = cc
    from (Some x) eo is =
        let same : kind_of x ≡ get_or kinds n k = cc in
        let there : thing_at (file_meanings xs es) (get_or numbers n 0) ≡ Some x = one.same ∙ eo in
        record {
          Xs = so.Xs ++ x ∷ [];
          rows_mean = ap (meanings (slice_get xs)) e ∙ meanings-push (slice_get xs) rows so.Xs row x so.rows_mean eo;
          numbers_mean = ap (things_at (file_meanings xs es)) (take_more numbers n 0 lt) ∙ meanings-push (thing_at (file_meanings xs es)) (take n numbers) so.Xs (get_or numbers n 0) x so.numbers_mean there;
          kinds_are = map-push so.Xs x ∙ ap₂ (λ ks j. ks ++ j ∷ []) so.kinds_are same ∙ sym (take_more kinds n k lk);
        }

pub all_names : (xs : List Thing) (es : List Filed) (numbers : List ℕ) (kinds : List PartKind) (n : ℕ) (rows : List ℕ) → length numbers ≡ length kinds → length numbers ≤ n → NamesSo xs es numbers kinds n rows → Names xs es numbers kinds rows
all_names xs es numbers kinds n rows count le so = record {
  named = so.Xs;
  numbers_mean = rw (take_all n numbers le) at so.numbers_mean;
  rows_mean = so.rows_mean;
  kinds_are = so.kinds_are ∙ take_all n kinds (omega arith);
}

place_kind : (Xs : List Thing) (n : ℕ) (x : Thing) → slice_get Xs n ≡ Some x → slice_get (map kind_of Xs) n ≡ Some (kind_of x)
place_kind [] n x e = cc
place_kind (y ∷ Xs) zero x e = let p : y ≡ x = cc in ap (λ z. Some (kind_of z)) p
place_kind (y ∷ Xs) (suc n) x e = place_kind Xs n x e

-- a number that names no thing of its kind
pub wrong_name : (xs : List Thing) (es : List Filed) (numbers : List ℕ) (kinds : List PartKind) (n : ℕ) (k : PartKind) → n < length numbers → n < length kinds → (IsOf (get_or kinds n k) (thing_at (file_meanings xs es) (get_or numbers n 0)) → ⊥) → NamesNone xs es numbers kinds
wrong_name xs es numbers kinds n k lt lk wrong = λ Xs e are.
    let count = meanings-length (thing_at (file_meanings xs es)) numbers Xs e in
    let there = meanings-place (thing_at (file_meanings xs es)) numbers Xs n e lt in
    from Xs (slice_get Xs n) refl there are (within Xs n (omega arith))
  where
    within : (Xs : List Thing) (n : ℕ) → n < length Xs → IsSome (slice_get Xs n)
    within [] n lt = absurd (omega arith)
    within (x ∷ Xs) zero lt = refl
    within (x ∷ Xs) (suc n) lt = within Xs n (omega arith)

    from : (Xs : List Thing) (o : Option Thing) → slice_get Xs n ≡ o → thing_at (file_meanings xs es) (get_or numbers n 0) ≡ slice_get Xs n → map kind_of Xs ≡ kinds → IsSome (slice_get Xs n) → ⊥
    from Xs None e there are some = let q = rw e at some in cc
    from Xs (Some x) e there are some =
        let kind : slice_get kinds n ≡ Some (kind_of x) = ap (λ ks. slice_get ks n) (sym are) ∙ place_kind Xs n x e in
        wrong (ap (option_map kind_of) (there ∙ e) ∙ sym kind ∙ slice_get-get_or kinds n k lk)

-- what is kept of a row names its thing
pub thing_named : (xs : List Thing) (es : List Filed) (number : ℕ) (kind : PartKind) (row : ℕ) → slice_get es number ≡ Some (filed.Thing row) → IsOf kind (slice_get xs row) → NamesOne xs es number kind row
thing_named xs es number kind row at is = record { same = (at_thing xs es number row at).thing_is; kind_is = is }

pub other_kind : (o p : Option Thing) (is kind : PartKind) → o ≡ p → option_map kind_of p ≡ Some is → (is ≡ kind → ⊥) → IsOf kind o → ⊥
other_kind o p is kind same at apart there =
    let e : Some kind ≡ Some is = sym there ∙ ap (option_map kind_of) same ∙ at in
    let k : kind ≡ is = cc in
    apart (sym k)

pub no_thing : (o : Option Thing) (kind : PartKind) → o ≡ None → IsOf kind o → ⊥
no_thing o kind none is = let e : None ≡ Some kind = sym (ap (option_map kind_of) none) ∙ is in cc
