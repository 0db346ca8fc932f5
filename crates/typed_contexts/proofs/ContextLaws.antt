-- Contexts without their innermost entries, and shifts past these.
use Rattle.std.proofs.Common.{◌≡◌, ◌+◌, ◌-◌, ◌≤◌, ◌<◌, ℕ, zero, suc, refl, sym, ◌∙◌, ap, arith, Option, Some, None}
use Rattle.std.specs.Option.{option_map}
use Rattle.trees.specs.Trees.{Tree, apply, shift_by, then, up}
use Rattle.trees.specs.Judgements.{Context, Nil, WithVar, WithName, WithFace, Judgement, trees}
use Rattle.trees.specs.Language.{Ty, Tm}
use Rattle.substitution.specs.Forms.{weaken}
use Rattle.substitution.proofs.ThenLaws.{apply-id, apply-apply, shift_by-then-shift_by}
use Rattle.typed_contexts.specs.Contexts.{depth_of, outside, at_depth, type_in}

-- one shift more

pub weaken-shift_by : (A : Tree) (k : ℕ) → weaken trees (apply A (shift_by k)) ≡ apply A (shift_by (suc k))
weaken-shift_by A k = let e : k + 1 ≡ suc k = omega arith in apply-apply A (shift_by k) up ∙ ap (apply A) (shift_by-then-shift_by k 1 ∙ ap shift_by e)

-- from one depth to another and on
pub shifts-join : (from mid to : ℕ) → to ≤ mid → mid ≤ from → then (shift_by (mid - to)) (shift_by (from - mid)) ≡ shift_by (from - to)
shifts-join from mid to le le' =
    let e : mid - to + (from - mid) ≡ from - to = omega arith in
    shift_by-then-shift_by (mid - to) (from - mid) ∙ ap shift_by e

-- what stands outside

outside-nil : (k : ℕ) → outside k Nil ≡ Nil
outside-nil zero = refl
outside-nil (suc k) = refl

pub depth-outside : (k : ℕ) (H : Context) → k ≤ depth_of H → depth_of (outside k H) + k ≡ depth_of H
depth-outside zero H le = omega arith
depth-outside (suc k) Nil le = absurd (omega arith)
depth-outside (suc k) (WithVar H A) le = omega (arith, depth-outside k H (omega arith))
depth-outside (suc k) (WithName H) le = omega (arith, depth-outside k H (omega arith))
depth-outside (suc k) (WithFace H p) le = depth-outside (suc k) H le

pub outside-outside : (j k n : ℕ) (H : Context) → n ≡ k + j → outside j (outside k H) ≡ outside n H
outside-outside j zero n H e = let same : j ≡ n = omega arith in ap (λ m. outside m H) same
outside-outside j (suc k) zero H e = absurd (omega arith)
outside-outside j (suc k) (suc n) Nil e = outside-nil j
outside-outside j (suc k) (suc n) (WithVar H A) e = outside-outside j k n H (omega arith)
outside-outside j (suc k) (suc n) (WithName H) e = outside-outside j k n H (omega arith)
outside-outside j (suc k) (suc n) (WithFace H p) e = outside-outside j (suc k) (suc n) H e

-- contexts by their depth

pub depth-at_depth : (n : ℕ) (H : Context) → n ≤ depth_of H → depth_of (at_depth n H) ≡ n
depth-at_depth n H le = omega (arith, depth-outside (depth_of H - n) H (omega arith))

pub at_depth-whole : (H : Context) → at_depth (depth_of H) H ≡ H
at_depth-whole H = let e : depth_of H - depth_of H ≡ 0 = omega arith in ap (λ k. outside k H) e

pub at_depth-at_depth : (n m : ℕ) (H : Context) → n ≤ m → m ≤ depth_of H → at_depth n (at_depth m H) ≡ at_depth n H
at_depth-at_depth n m H le le' =
    let d = depth-at_depth m H le' in
    outside-outside (depth_of (at_depth m H) - n) (depth_of H - m) (depth_of H - n) H (omega (arith, d))

pub outside-at_depth : (n : ℕ) (H : Context) → 0 < n → n ≤ depth_of H → outside 1 (at_depth n H) ≡ at_depth (n - 1) H
outside-at_depth n H more le = outside-outside 1 (depth_of H - n) (depth_of H - (n - 1)) H (omega arith)

-- the types of variables

some_weakened : (o : Option Tree) → o ≡ option_map (λ A. apply A (shift_by 0)) o
some_weakened None = refl
some_weakened (Some A) = ap Some (sym (apply-id A))

once_more : (k : ℕ) (o : Option Tree) → option_map (weaken trees) (option_map (λ A. apply A (shift_by k)) o) ≡ option_map (λ A. apply A (shift_by (suc k))) o
once_more k None = refl
once_more k (Some A) = ap Some (weaken-shift_by A k)

pub type_in-outside : (k : ℕ) (H : Context) → type_in H k ≡ option_map (λ A. apply A (shift_by k)) (type_in (outside k H) 0)
type_in-outside zero H = some_weakened (type_in H 0)
type_in-outside (suc k) Nil = refl
type_in-outside (suc k) (WithVar H A) = ap (option_map (weaken trees)) (type_in-outside k H) ∙ once_more k (type_in (outside k H) 0)
type_in-outside (suc k) (WithName H) = ap (option_map (weaken trees)) (type_in-outside k H) ∙ once_more k (type_in (outside k H) 0)
type_in-outside (suc k) (WithFace H p) = type_in-outside (suc k) H

pub type_in-deep : (k : ℕ) (H : Context) → depth_of H ≤ k → type_in H k ≡ None
type_in-deep k Nil le = refl
type_in-deep zero (WithVar H A) le = absurd (omega arith)
type_in-deep (suc k) (WithVar H A) le = ap (option_map (weaken trees)) (type_in-deep k H (omega arith))
type_in-deep zero (WithName H) le = refl
type_in-deep (suc k) (WithName H) le = ap (option_map (weaken trees)) (type_in-deep k H (omega arith))
type_in-deep k (WithFace H p) le = type_in-deep k H le

-- nothing passed

unshifted : (n : ℕ) (H : Context) (t : Tree) → n ≡ depth_of H → t ≡ apply t (shift_by (depth_of H - n))
unshifted n H t e = let none : 0 ≡ depth_of H - n = omega arith in sym (apply-id t) ∙ ap (λ m. apply t (shift_by m)) none

at_whole : (n : ℕ) (H : Context) → n ≡ depth_of H → at_depth n H ≡ H
at_whole n H e = ap (λ m. at_depth m H) e ∙ at_depth-whole H

pub type-here : {o : Option Judgement} (n : ℕ) (H : Context) (A : Tree) → n ≡ depth_of H → o ≡ Some (Ty (at_depth n H) A) → o ≡ Some (Ty H (apply A (shift_by (depth_of H - n))))
type-here n H A e says = let whole = at_whole n H e in let same = unshifted n H A e in cc

pub term-here : {o : Option Judgement} (n : ℕ) (H : Context) (a A : Tree) → n ≡ depth_of H → o ≡ Some (Tm (at_depth n H) a A) → o ≡ Some (Tm H (apply a (shift_by (depth_of H - n))) (apply A (shift_by (depth_of H - n))))
term-here n H a A e says = let whole = at_whole n H e in let term = unshifted n H a e in let type = unshifted n H A e in cc
