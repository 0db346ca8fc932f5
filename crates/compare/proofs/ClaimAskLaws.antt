-- Claims of one form that are compared row by row.
use Rattle.std.proofs.Common.{◌≡◌, ℕ, ◌+◌, ◌<◌, ◌≤◌, List, [], ◌∷◌, length, drop, get_or, map, refl, sym, ◌∙◌, ap, ap₂, arith, IsSome}
use Rattle.std.specs.List.{All}
use Rattle.std.proofs.lemmas.List.{drop_all, drop_more}
use Rattle.std.proofs.lemmas.List.Elements.{All-nil}
use Rattle.trees.specs.Things.{Meanings}
use Rattle.trees.specs.declared.claim.JudgementForm.{JudgementForm}
use Rattle.trees.specs.declared.claim.Claim.{Claim}
use Rattle.trees.specs.declared.kind.PartKind.{PartKind}
use Rattle.trees.specs.Claims.{form_of, rows_of}
use Rattle.trees.specs.Claimed.{claimed}
use Rattle.rows.specs.Tables.{Grows}
use Rattle.closures.specs.Environments.{Waiting}
use Rattle.compare.specs.Pairs.{Asks, IsPair}
use Rattle.rows.specs.Views.{IsOfKind}
use Rattle.compare.specs.Kinds.{AreOfKinds, AreKindsOf}
use Rattle.compare.specs.declared.pairs.Pair.{Pair}
use Rattle.compare.proofs.AskingLaws.{Asking, asking-begin, asking-next, asking-end, asking-no, asking-stand, asking-grows}
use Rattle.compare.proofs.ClaimLaws.{rows-same, claims-same, kinds-length, kind-at, few-rows}

-- the rows of both claims are of these kinds, and those from this place on are left to compare
pub record Claims (f : Meanings) (known : List (List Waiting)) (c d : Claim) (kinds : List PartKind) (at : ℕ) (pairs : List Pair) : Type 0 where
  pub left_kinds : AreOfKinds f kinds (rows_of c)
  pub right_kinds : AreOfKinds f kinds (rows_of d)
  pub asking : Asking f known (claimed f c ≡ claimed f d) (map f (drop at (rows_of c)) ≡ map f (drop at (rows_of d))) [] pairs

pub claims-begin : (f : Meanings) (known : List (List Waiting)) (c d : Claim) (form : JudgementForm) (kinds : List PartKind) (pairs : List Pair) → AreKindsOf form kinds → form ≡ form_of c → form_of c ≡ form_of d → IsSome (claimed f c) → IsSome (claimed f d) → pairs ≡ [] → Claims f known c d kinds 0 pairs
claims-begin f known c d form kinds pairs are left same some other none = record {
  left_kinds = are f c (sym left) some;
  right_kinds = are f d (sym same ∙ sym left) other;
  asking = rw none (asking-begin f known _ _ [] (rows-same f c d some other) (claims-same f c d same));
}

module _ {f : Meanings} {known : List (List Waiting)} {c d : Claim} {kinds : List PartKind} {at : ℕ} {pairs : List Pair} (s : Claims f known c d kinds at pairs) where
  pub claims-stand : All (IsPair f known 0) pairs
  claims-stand = asking-stand f known _ _ [] pairs s.asking (All-nil (IsPair f known 0))

  pub claims-end : length kinds ≤ at → Asks f known (claimed f c ≡ claimed f d) [] pairs
  claims-end le =
      let left = kinds-length f kinds (rows_of c) s.left_kinds in
      let right = kinds-length f kinds (rows_of d) s.right_kinds in
      asking-end f known _ _ [] pairs s.asking (ap (map f) (drop_all at (rows_of c) (omega arith)) ∙ sym (ap (map f) (drop_all at (rows_of d) (omega arith))))

  module _ (below : at < length kinds) where
    pub in-left : (ks : List ℕ) → ks ≡ rows_of c → at < length ks
    in-left ks is = let l = kinds-length f kinds (rows_of c) s.left_kinds in let same = ap length is in omega arith

    pub in-right : (ks : List ℕ) → ks ≡ rows_of d → at < length ks
    in-right ks is = let l = kinds-length f kinds (rows_of d) s.right_kinds in let same = ap length is in omega arith

    pub small : at < 4
    small = let l = in-left (rows_of c) refl in let few = few-rows c in omega arith

    pub left-kind : (kind : PartKind) (ks : List ℕ) → ks ≡ rows_of c → IsOfKind (get_or kinds at kind) (f (get_or ks at 0))
    left-kind kind ks is = rw is (kind-at f kinds (rows_of c) at kind 0 s.left_kinds below)

    pub right-kind : (kind : PartKind) (ks : List ℕ) → ks ≡ rows_of d → IsOfKind (get_or kinds at kind) (f (get_or ks at 0))
    right-kind kind ks is = rw is (kind-at f kinds (rows_of d) at kind 0 s.right_kinds below)

    module _ (ks ls : List ℕ) (lefts : ks ≡ rows_of c) (rights : ls ≡ rows_of d) where
      left-rest : map f (drop at (rows_of c)) ≡ f (get_or ks at 0) ∷ map f (drop (at + 1) (rows_of c))
      left-rest = ap (map f) (drop_more (rows_of c) at 0 (in-left (rows_of c) refl)) ∙ ap (λ rows. f (get_or rows at 0) ∷ map f (drop (at + 1) (rows_of c))) (sym lefts)

      right-rest : map f (drop at (rows_of d)) ≡ f (get_or ls at 0) ∷ map f (drop (at + 1) (rows_of d))
      right-rest = ap (map f) (drop_more (rows_of d) at 0 (in-right (rows_of d) refl)) ∙ ap (λ rows. f (get_or rows at 0) ∷ map f (drop (at + 1) (rows_of d))) (sym rights)

      apart : map f (drop at (rows_of c)) ≡ map f (drop at (rows_of d)) → (f (get_or ks at 0) ≡ f (get_or ls at 0)) × (map f (drop (at + 1) (rows_of c)) ≡ map f (drop (at + 1) (rows_of d)))
      apart e =
          let both : f (get_or ks at 0) ∷ map f (drop (at + 1) (rows_of c)) ≡ f (get_or ls at 0) ∷ map f (drop (at + 1) (rows_of d)) = sym left-rest ∙ e ∙ right-rest in
          (cc, cc)

      together : f (get_or ks at 0) ≡ f (get_or ls at 0) → map f (drop (at + 1) (rows_of c)) ≡ map f (drop (at + 1) (rows_of d)) → map f (drop at (rows_of c)) ≡ map f (drop at (rows_of d))
      together e rest = left-rest ∙ ap₂ (λ o os. o ∷ os) e rest ∙ sym right-rest

      pub claims-no : (f (get_or ks at 0) ≡ f (get_or ls at 0) → ⊥) → claimed f c ≡ claimed f d → ⊥
      claims-no differ = asking-no f known _ _ [] pairs s.asking (λ e. differ (apart e).0)

      pub claims-next : (newer : List (List Waiting)) (new : List Pair) → Grows known newer → Asks f newer (f (get_or ks at 0) ≡ f (get_or ls at 0)) pairs new → Claims f newer c d kinds (at + 1) new
      claims-next newer new g asks = record {
        left_kinds = s.left_kinds;
        right_kinds = s.right_kinds;
        asking = asking-next f newer _ _ [] pairs (asking-grows f known _ _ [] pairs s.asking newer _ (All-nil (IsPair f known 0)) g (λ e. e) (λ e. e)) _ _ new apart together asks;
      }
