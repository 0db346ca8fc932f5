-- The roots of a file by the nodes that they name.
use Rattle.std.proofs.Common.{◌≡◌, ℕ, zero, suc, List, [], ◌∷◌, ◌++◌, length, refl, ◌∙◌, ap, Option, Some, None, IsSome, Bool, true, false}
use Rattle.std.specs.Prelude.{if◌then◌else◌, slice_get, is_some, option_and_then}
use Rattle.std.specs.List.{list_all, flat_map}
use Rattle.std.specs.Option.{option_to_list}
use Rattle.std.proofs.lemmas.List.Sums.{AllPass-from_list_all}
use Rattle.std.proofs.lemmas.Option.{slice_get_within, get_or_from_slice_get}
use Rattle.trees.specs.Judgements.{Judgement, Nil}
use Rattle.trees.specs.Language.{Ctx}
use Rattle.deriv_file.specs.declared.row.Row.TheVariants.{Root}
use Rattle.derivation.specs.Meanings.{Meaning, conclusion_at}
use Rattle.derivation.specs.Right.{RightRow}
use Rattle.replay.specs.Meant.{AreNodes, conclusions}
use Rattle.replay.proofs.EachLaws.{both_true, later, all_push}

module _ (f : ℕ → Option Judgement) where
  abbrev all_some : List ℕ → Type 0
  all_some ks = list_all (λ k. is_some (f k)) ks ≡ true

  abbrev each : List ℕ → List Judgement
  each ks = flat_map (λ k. option_to_list (f k)) ks

  -- one more, which is some
  one_more : (k : ℕ) (ks : List ℕ) (o : Option Judgement) → f k ≡ o → is_some o ≡ true → length (each ks) ≡ length ks → length (each (k ∷ ks)) ≡ suc (length ks)
  one_more k ks None e some rest = cc
  one_more k ks (Some J) e some rest = rw e (ap suc rest)

  one_more_at : (k : ℕ) (ks : List ℕ) (o : Option Judgement) → f k ≡ o → is_some o ≡ true → ((n : ℕ) → slice_get (each ks) n ≡ option_and_then f (slice_get ks n)) → (n : ℕ) → slice_get (each (k ∷ ks)) n ≡ option_and_then f (slice_get (k ∷ ks) n)
  one_more_at k ks None e some rest n = cc
  one_more_at k ks (Some J) e some rest zero = rw e refl
  one_more_at k ks (Some J) e some rest (suc n) = rw e (rest n)

  pub conclusions_length : (ks : List ℕ) → all_some ks → length (each ks) ≡ length ks
  conclusions_length [] all = refl
  conclusions_length (k ∷ ks) all =
      let b = both_true (is_some (f k)) (list_all (λ k. is_some (f k)) ks) all in
      one_more k ks (f k) refl b.0 (conclusions_length ks b.1)

  pub conclusions_at : (ks : List ℕ) → all_some ks → (n : ℕ) → slice_get (each ks) n ≡ option_and_then f (slice_get ks n)
  conclusions_at [] all n = refl
  conclusions_at (k ∷ ks) all n =
      let b = both_true (is_some (f k)) (list_all (λ k. is_some (f k)) ks) all in
      one_more_at k ks (f k) refl b.0 (conclusions_at ks b.1) n

  -- one of them
  pub conclusion_some : (ks : List ℕ) (n k : ℕ) → all_some ks → slice_get ks n ≡ Some k → is_some (f k) ≡ true
  conclusion_some ks n k all is = rw (get_or_from_slice_get ks n k k is) at (AllPass-from_list_all (λ k. is_some (f k)) ks all n k (slice_get_within ks n k is))

is_some-of : {A : Type 0} (o : Option A) → is_some o ≡ true → IsSome o
is_some-of None e = e
is_some-of (Some a) e = refl

pub root_there : (all : List Meaning) (ks : List ℕ) (n k : ℕ) → AreNodes all ks → slice_get ks n ≡ Some k → IsSome (conclusion_at all k)
root_there all ks n k nodes is = is_some-of (conclusion_at all k) (conclusion_some (conclusion_at all) ks n k nodes is)

pub root_is : (all : List Meaning) (ks : List ℕ) (n k : ℕ) → AreNodes all ks → slice_get ks n ≡ Some k → slice_get (conclusions all ks) n ≡ conclusion_at all k
root_is all ks n k nodes is = conclusions_at (conclusion_at all) ks nodes n ∙ ap (option_and_then (conclusion_at all)) is

pub roots_counted : (all : List Meaning) (ks : List ℕ) → AreNodes all ks → length (conclusions all ks) ≡ length ks
roots_counted all ks nodes = conclusions_length (conclusion_at all) ks nodes

-- when rows are added

conclusion_kept : (before more : List Meaning) (k : ℕ) → is_some (conclusion_at before k) ≡ true → conclusion_at (before ++ more) k ≡ conclusion_at before k
conclusion_kept [] more k some = cc
conclusion_kept (m ∷ before) more zero some = refl
conclusion_kept (m ∷ before) more (suc k) some = conclusion_kept before more k some

pub nodes_kept : (before more : List Meaning) (ks : List ℕ) → AreNodes before ks → AreNodes (before ++ more) ks
nodes_kept before more ks nodes = (later (conclusion_at before) (conclusion_at (before ++ more)) (Ctx Nil) (conclusion_kept before more) ks nodes).all

pub root_right : (before : List Meaning) (node : ℕ) (m : Meaning) → RightRow before (Root node) m → (J : Judgement) × (conclusion_at before node ≡ Some J)
root_right [] node m right = absurd right
root_right (b ∷ before) node m right = (right.0, right.1)

pub nodes_pushed : (before : List Meaning) (ks : List ℕ) (node : ℕ) (m : Meaning) → AreNodes before ks → RightRow before (Root node) m → AreNodes (before ++ m ∷ []) (ks ++ node ∷ [])
nodes_pushed before ks node m nodes right =
    let J = root_right before node m right in
    all_push (conclusion_at (before ++ m ∷ [])) ks node J.0 (nodes_kept before (m ∷ []) ks nodes) (conclusion_kept before (m ∷ []) node (ap is_some J.1) ∙ J.1)

-- a root that is put after the others, where there is room
pub nodes_after : (room : Bool) (before : List Meaning) (ks next : List ℕ) (node : ℕ) (m : Meaning) → AreNodes before ks → RightRow before (Root node) m → next ≡ (if room then ks ++ node ∷ [] else ks) → AreNodes (before ++ m ∷ []) next
nodes_after true before ks next node m nodes right is = rw is (nodes_pushed before ks node m nodes right)
nodes_after false before ks next node m nodes right is = rw is (nodes_kept before (m ∷ []) ks nodes)
