-- Facts on normal forms that the functions end with.
use Rattle.std.proofs.Common.{◌≡◌, ◌↔◌, Bool, List, [], refl, sym, ◌∙◌, ap, Ordering, IsTrue}
use Rattle.std.specs.Bool.{Decides}
use Rattle.std.specs.List.{list_all}
use Rattle.std.specs.List.Sorted.{IsStrictlySortedBy, IsPermutation, IsSorted}
use Rattle.std.specs.Cmp.Lexicographic.{slice_cmp, pointwise}
use Rattle.std.specs.Ordering.{eq_by_cmp, is_eq}
use Rattle.std.proofs.lemmas.Cmp.{tied_itself}
use Rattle.std.proofs.lemmas.List.Elements.{All-nil}
use Rattle.std.proofs.lemmas.List.Sorted.{list_any-IsPermutation, Contains-permutation, IsPermutation-sym}
use Rattle.std.proofs.lemmas.Slice.Eq.{slice_eq-Decides}
use Rattle.antichains.specs.Antichains.{IsNormal, IsWithin, HaveSameTruth, some_all}
use Rattle.antichains.specs.Reductions.{Covers, IsReduced}
use Rattle.antichains.proofs.Members.{Contains-none}
use Rattle.antichains.proofs.Exact.{IsExactOrder, is_eq-exact}
use Rattle.antichains.proofs.Ordered.{sorted_nil}
use Rattle.antichains.proofs.Truth.{some_all-covers}
use Rattle.antichains.proofs.Reduced.{normal_from_reduced}
use Rattle.antichains.proofs.Unique.{unique_normal}

pub normal_nil : {X : Type 0} (R : X → X → Ordering) → IsNormal R []
normal_nil R = record {
  elements_sorted = All-nil (IsStrictlySortedBy R);
  products_sorted = sorted_nil (slice_cmp R);
  irredundant = record { apart = λ xs ys c d w. absurd (Contains-none xs c) };
}

-- the sorted remains of products that were put in order of length
pub truth_kept : {X : Type 0} {R : X → X → Ordering} (o : IsExactOrder R) (products by_length kept final : List (List X)) → IsPermutation products by_length → IsReduced R kept by_length → IsPermutation kept final → IsSorted (slice_cmp R) final → HaveSameTruth final products
truth_kept o products by_length kept final p r q up test =
    some_all-covers test final by_length (normal_from_reduced o kept final by_length r q up).1 ∙ sym (list_any-IsPermutation (list_all test) products by_length p)

-- where `==` answers as the order does, it compares two lists of products exactly
pub same_products : {X : Type 0} {R : X → X → Ordering} (o : IsExactOrder R) (E : X → X → Bool) → ((x y : X) → E x y ≡ eq_by_cmp R x y) → (left right : List (List X)) (r : Bool) → r ≡ pointwise (pointwise E) left right → IsTrue r ↔ (left ≡ right)
same_products {X} {R} o E ties = slice_eq-Decides (λ xs ys. slice_eq-Decides decides xs ys (pointwise E xs ys) refl)
  where
    decides : (x y : X) → Decides (E x y) (x ≡ y)
    decides x y = (
      λ h. is_eq-exact o x y (sym (ties x y) ∙ h),
      λ e. ties x y ∙ ap (λ z. eq_by_cmp R x z) (sym e) ∙ ap is_eq (tied_itself o.total x),
    )

-- and normal forms are equal exactly where they have one truth
pub same_truths : {X : Type 0} {R : X → X → Ordering} (o : IsExactOrder R) (left right : List (List X)) (r : Bool) → IsNormal R left → IsNormal R right → IsTrue r ↔ (left ≡ right) → IsTrue r ↔ HaveSameTruth left right
same_truths o left right r l m same =
    (λ h test. ap (some_all test) (same.0 h), λ h. same.1 (unique_normal o left right l m h))

pub kept_among : {X : Type 0} (products by_length kept final : List (List X)) → IsPermutation products by_length → Covers kept by_length → IsPermutation kept final → IsWithin final products
kept_among products by_length kept final p c q = record {
  each = λ xs d.
      Contains-permutation by_length products xs (IsPermutation-sym products by_length p)
      (c.among xs (Contains-permutation final kept xs (IsPermutation-sym kept final q) d));
}
