-- The levels of a context, and the weakenings that they hold.
use Rattle.std.proofs.Common.{◌≡◌, ◌-◌, ◌≤◌, ◌<◌, ℕ, zero, suc, List, refl, ◌∙◌, ap, subst, arith, Option, Some, slice_get}
use Rattle.trees.specs.Trees.{Subst, shift_by}
use Rattle.trees.specs.Judgements.{Context, Nil, WithVar, WithName, WithFace, Judgement}
use Rattle.trees.specs.Language.{Sb}
use Rattle.book.specs.Contents.{Contents}
use Rattle.typed_contexts.specs.Contexts.{depth_of, outside, at_depth}
use Rattle.typed_contexts.specs.Places.{Weakens, IsLevel, HasLevel, LevelsAre}
use Rattle.typed_contexts.specs.declared.place.Level.{Level}
use Rattle.typed_contexts.proofs.ContextLaws.{depth-at_depth, at_depth-whole, at_depth-at_depth, outside-at_depth}

pub levels-outside : (b : Contents) (levels : List Level) (k : ℕ) (H : Context) → LevelsAre b levels H → LevelsAre b levels (outside k H)
levels-outside b levels zero H are = are
levels-outside b levels (suc k) Nil are = are
levels-outside b levels (suc k) (WithVar H A) are = levels-outside b levels k H are.1
levels-outside b levels (suc k) (WithName H) are = levels-outside b levels k H are.1
levels-outside b levels (suc k) (WithFace H p) are = absurd are

-- the level of the innermost entry
pub last-level : (b : Contents) (levels : List Level) (n : ℕ) (H : Context) → depth_of H ≡ suc n → LevelsAre b levels H → HasLevel b levels n H
last-level b levels n Nil e are = absurd (omega arith)
last-level b levels n (WithVar H A) e are = let same : depth_of H ≡ n = omega arith in subst (λ m. HasLevel b levels m (WithVar H A)) same are.0
last-level b levels n (WithName H) e are = let same : depth_of H ≡ n = omega arith in subst (λ m. HasLevel b levels m (WithName H)) same are.0
last-level b levels n (WithFace H p) e are = absurd are

same-level : {X : Type 0} {o : Option X} {x y : X} → o ≡ Some x → o ≡ Some y → x ≡ y
same-level e f = cc

-- what is read at a number is the level of its context
pub level-read : (b : Contents) (levels : List Level) (n : ℕ) (H : Context) (level : Level) → 0 < n → n ≤ depth_of H → LevelsAre b levels H → slice_get levels (n - 1) ≡ Some level → IsLevel b level (at_depth n H)
level-read b levels n H level more le are read =
    let d = depth-at_depth n H le in
    let has = last-level b levels (n - 1) (at_depth n H) (omega (arith, d)) (levels-outside b levels (depth_of H - n) H are) in
    subst (λ l. IsLevel b l (at_depth n H)) (same-level has.there read) has.is

-- levels by what is read at their numbers

has-read : (b : Contents) (levels others : List Level) (n : ℕ) (H : Context) → slice_get others n ≡ slice_get levels n → HasLevel b levels n H → HasLevel b others n H
has-read b levels others n H same has = record {
  level = has.level;
  there = same ∙ has.there;
  is = has.is;
}

pub levels-read : (b : Contents) (levels others : List Level) (H : Context) → ((k : ℕ) → k < depth_of H → slice_get others k ≡ slice_get levels k) → LevelsAre b levels H → LevelsAre b others H
levels-read b levels others Nil same are = are
levels-read b levels others (WithVar H A) same are = (has-read b levels others (depth_of H) (WithVar H A) (same (depth_of H) (omega arith)) are.0, levels-read b levels others H (λ k low. same k (omega arith)) are.1)
levels-read b levels others (WithName H) same are = (has-read b levels others (depth_of H) (WithName H) (same (depth_of H) (omega arith)) are.0, levels-read b levels others H (λ k low. same k (omega arith)) are.1)
levels-read b levels others (WithFace H p) same are = absurd are

-- substitutions between equal contexts

pub says-sb : {o : Option Judgement} {K K' G G' : Context} {d d' : Subst} → K ≡ K' → d ≡ d' → G ≡ G' → o ≡ Some (Sb K d G) → o ≡ Some (Sb K' d' G')
says-sb k d g says = cc

pub up-weakens : (b : Contents) (n : ℕ) (H : Context) (level : Level) → 0 < n → n ≤ depth_of H → IsLevel b level (at_depth n H) → Weakens b H level.up n (n - 1)
up-weakens b n H level more le is =
    let one : 1 ≡ n - (n - 1) = omega arith in
    says-sb refl (ap shift_by one) (outside-at_depth n H more le) is.up_is

pub jump-before : (b : Contents) (n : ℕ) (H : Context) (level : Level) → n ≤ depth_of H → IsLevel b level (at_depth n H) → level.jump.to < n
jump-before b n H level le is = omega (arith, is.jump_before, depth-at_depth n H le)

pub jump-weakens : (b : Contents) (n : ℕ) (H : Context) (level : Level) → n ≤ depth_of H → IsLevel b level (at_depth n H) → Weakens b H level.jump.sub n level.jump.to
jump-weakens b n H level le is =
    let d = depth-at_depth n H le in
    let G = at_depth n H in
    says-sb (at_depth-whole G) (ap (λ m. shift_by (m - level.jump.to)) d)
    (at_depth-at_depth level.jump.to n H (omega (arith, jump-before b n H level le is)) le) is.jump_is
