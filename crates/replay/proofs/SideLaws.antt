-- The side conditions of a node, one after another.
use Rattle.std.proofs.Common.{◌≡◌, ℕ, zero, suc, ◌+◌, ◌<◌, ◌≤◌, List, [], ◌∷◌, length, take, refl, sym, ◌∙◌, ap, subst, arith, Option, Some, None, IsSome, IsTrue, Bool, true, false, ◌↔◌}
use Rattle.std.specs.Prelude.{slice_get, IfSome, is_some}
use Rattle.std.specs.List.{All}
use Rattle.std.proofs.lemmas.List.{take_all}
use Rattle.std.proofs.lemmas.List.Elements.{All-nil, All-push}
use Rattle.trees.specs.Judgements.{SideCondition, TreeRule}
use Rattle.trees.specs.Things.{Thing, Meanings, Kept}
use Rattle.compare.proofs.KidLaws.{take-more, All-at}
use Rattle.side_conditions.specs.declared.deciding.SideConditions.{SideConditions}
use Rattle.side_conditions.specs.Kept.{KeepsBelow}
use Rattle.side_conditions.proofs.KeptLaws.{keeps-as, keeps-more}
use Rattle.conditions.specs.Sides.{SideHolds}
use Rattle.rules.specs.Rules.{rule_at}
use Rattle.rules.specs.Claims.{rule_over, side_at, sides_in}
use Rattle.rules.proofs.TableLaws.{sides-few}
use Rattle.theory.specs.declared.rule.RuleName.{RuleName}
use Rattle.replay.specs.Sides.{sides_of}
use Rattle.replay.proofs.FiledLaws.{take-kept}

-- what is kept of contexts, as the store grows and is cut back

pub keeps-made : (s : SideConditions) (mark : ℕ) (f g : Meanings) → Kept f g → KeepsBelow mark f s → KeepsBelow mark g s
keeps-made s mark f g kept = keeps-as mark f g s (λ k x lt is. kept.keeps k x is)

pub keeps-cut : (s : SideConditions) (xs ys : List Thing) → Kept (slice_get xs) (slice_get ys) → KeepsBelow (length xs) (slice_get ys) s → KeepsBelow (length xs) (slice_get xs) s
keeps-cut s xs ys kept = keeps-as (length xs) (slice_get ys) (slice_get xs) s (λ k x lt is. let y = there xs k lt in y.1 ∙ sym (kept.keeps k y.0 y.1) ∙ is)
  where
    there : (zs : List Thing) (k : ℕ) → k < length zs → (x : Thing) × (slice_get zs k ≡ Some x)
    there [] k lt = absurd (omega arith)
    there (z ∷ zs) zero lt = (z, refl)
    there (z ∷ zs) (suc k) lt = there zs k (omega arith)

pub keeps-later : (s : SideConditions) (xs ys : List Thing) → Kept (slice_get xs) (slice_get ys) → KeepsBelow (length xs) (slice_get ys) s → KeepsBelow (length ys) (slice_get ys) s
keeps-later s xs ys kept = keeps-more (length xs) (length ys) (slice_get ys) s (longer xs ys kept)
  where
    longer : (zs ws : List Thing) → Kept (slice_get zs) (slice_get ws) → length zs ≤ length ws
    longer [] ws kept = omega arith
    longer (z ∷ zs) [] kept = let wrong : None ≡ Some z = kept.keeps 0 z refl in cc
    longer (z ∷ zs) (w ∷ ws) kept = let h = longer zs ws record { keeps = λ k x e. kept.keeps (suc k) x e } in omega arith

pub keeps-grown : (s : SideConditions) (xs ys : List Thing) → Kept (slice_get xs) (slice_get ys) → KeepsBelow (length xs) (slice_get xs) s → KeepsBelow (length ys) (slice_get ys) s
keeps-grown s xs ys kept keeps = keeps-later s xs ys kept (keeps-made s (length xs) (slice_get xs) (slice_get ys) kept keeps)

-- the store is cut back to the rows that a rule was asked over

module _ (xs zs ys : List Thing) (n : ℕ) (same : zs ≡ xs) (count : n ≡ length xs) (kept : Kept (slice_get zs) (slice_get ys)) where
  pub kept-on : Kept (slice_get xs) (slice_get ys)
  kept-on = subst (λ ws. Kept (slice_get ws) (slice_get ys)) same kept

  pub cut-back : (cut : List Thing) → cut ≡ take n ys → cut ≡ xs
  cut-back cut is = is ∙ ap (λ m. take m ys) count ∙ take-kept xs ys kept-on

  pub keeps-on : (s : SideConditions) → KeepsBelow (length xs) (slice_get xs) s → KeepsBelow n (slice_get ys) s
  keeps-on s keeps = subst (λ m. KeepsBelow m (slice_get ys) s) (sym count) (keeps-made s (length xs) (slice_get xs) (slice_get ys) kept-on keeps)

  -- what is kept is kept of rows that stay
  pub keeps-back : (s : SideConditions) → KeepsBelow n (slice_get ys) s → KeepsBelow (length xs) (slice_get xs) s
  keeps-back s keeps = keeps-cut s xs ys kept-on (subst (λ m. KeepsBelow m (slice_get ys) s) count keeps)

  pub keeps-end : (s : SideConditions) → KeepsBelow n (slice_get ys) s → KeepsBelow (length ys) (slice_get ys) s
  keeps-end s keeps = keeps-later s xs ys kept-on (subst (λ m. KeepsBelow m (slice_get ys) s) count keeps)

-- a side condition at a place

pub side_some : (rule : Option TreeRule) (at : ℕ) → at < sides_in rule → IsSome (side_at at rule)
side_some None at lt = absurd (omega arith)
side_some (Some r) at lt = there r.sides at lt
  where
    there : (cs : List SideCondition) (k : ℕ) → k < length cs → IsSome (slice_get cs k)
    there [] k lt = absurd (omega arith)
    there (c ∷ cs) zero lt = refl
    there (c ∷ cs) (suc k) lt = there cs k (omega arith)

-- a rule has few
pub few : (name : RuleName) (parts : Option (List Thing)) → sides_in (rule_over name parts) ≤ 16
few name None = omega arith
few name (Some xs) = at_most (rule_at name xs) refl
  where
    at_most : (o : Option TreeRule) → rule_at name xs ≡ o → sides_in o ≤ 16
    at_most None e = omega arith
    at_most (Some r) e = sides-few name xs r e

-- the first side conditions hold

pub sides_begin : (rule : Option TreeRule) → All SideHolds (take 0 (sides_of rule))
sides_begin rule = All-nil SideHolds

record SideAt (rule : Option TreeRule) (at : ℕ) (b : Bool) : Type 0 where
  pub side : SideCondition
  pub here : slice_get (sides_of rule) at ≡ Some side
  pub exact : IsTrue b ↔ SideHolds side

side_here : (rule : Option TreeRule) (at : ℕ) (o : Option SideCondition) (b : Bool) → o ≡ side_at at rule → at < sides_in rule → IfSome o (λ c. IsTrue b ↔ SideHolds c) → SideAt rule at b
side_here None at o b is lt exact = absurd (omega arith)
side_here (Some r) at None b is lt exact = let wrong : false ≡ true = ap is_some is ∙ side_some (Some r) at lt in cc
side_here (Some r) at (Some c) b is lt exact = record { side = c; here = sym is; exact = exact }

pub side_more : (rule : Option TreeRule) (at : ℕ) (o : Option SideCondition) (b : Bool) → o ≡ side_at at rule → at < sides_in rule → IfSome o (λ c. IsTrue b ↔ SideHolds c) → b ≡ true → All SideHolds (take at (sides_of rule)) → All SideHolds (take (at + 1) (sides_of rule))
side_more rule at o b is lt exact true_is all =
    let s = side_here rule at o b is lt exact in
    subst (All SideHolds) (sym (take-more (sides_of rule) at s.side s.here)) (All-push SideHolds (take at (sides_of rule)) s.side all (s.exact.0 true_is))

pub side_fails : (rule : Option TreeRule) (at : ℕ) (o : Option SideCondition) (b : Bool) → o ≡ side_at at rule → at < sides_in rule → IfSome o (λ c. IsTrue b ↔ SideHolds c) → b ≡ false → All SideHolds (sides_of rule) → ⊥
side_fails rule at o b is lt exact false_is all =
    let s = side_here rule at o b is lt exact in
    let true_is : b ≡ true = s.exact.1 (All-at SideHolds (sides_of rule) at s.side s.here all) in
    cc

pub untrue : (b : Bool) → b ≡ false → IsTrue b → ⊥
untrue b false_is true_is = cc

pub sides_end : (rule : Option TreeRule) (at : ℕ) → sides_in rule ≤ at → All SideHolds (take at (sides_of rule)) → All SideHolds (sides_of rule)
sides_end None at le all = All-nil SideHolds
sides_end (Some r) at le all = subst (All SideHolds) (take_all at r.sides le) all
