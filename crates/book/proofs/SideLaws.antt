-- The side conditions of a rule, place by place.
use Rattle.std.proofs.Common.{◌≡◌, ℕ, zero, suc, ◌+◌, ◌<◌, ◌≤◌, List, [], ◌∷◌, length, take, refl, sym, ◌∙◌, ap, subst, arith, Option, Some, None, IsSome, IsTrue, Bool, true, false, ◌↔◌}
use Rattle.std.specs.Prelude.{slice_get, IfSome, is_some}
use Rattle.std.specs.List.{All}
use Rattle.std.proofs.lemmas.List.{take_all}
use Rattle.std.proofs.lemmas.List.Elements.{All-nil, All-push}
use Rattle.theory.specs.declared.rule.RuleName.{RuleName}
use Rattle.trees.specs.Judgements.{SideCondition, TreeRule}
use Rattle.trees.specs.Things.{Thing}
use Rattle.compare.proofs.KidLaws.{take-more, All-at}
use Rattle.conditions.specs.Sides.{SideHolds}
use Rattle.rules.specs.Rules.{rule_at}
use Rattle.rules.specs.Claims.{rule_over, side_at, sides_in}
use Rattle.rules.proofs.TableLaws.{sides-few}
use Rattle.book.specs.Fits.{sides_of}

pub side_some : (rule : Option TreeRule) (at : ℕ) → at < sides_in rule → IsSome (side_at at rule)
side_some None at lt = absurd (omega arith)
side_some (Some r) at lt = there r.sides at lt
  where
    there : (cs : List SideCondition) (k : ℕ) → k < length cs → IsSome (slice_get cs k)
    there [] k lt = absurd (omega arith)
    there (c ∷ cs) zero lt = refl
    there (c ∷ cs) (suc k) lt = there cs k (omega arith)

-- a rule has few
pub few_sides : (name : RuleName) (parts : Option (List Thing)) → sides_in (rule_over name parts) ≤ 16
few_sides name None = omega arith
few_sides name (Some xs) = at_most (rule_at name xs) refl
  where
    at_most : (o : Option TreeRule) → rule_at name xs ≡ o → sides_in o ≤ 16
    at_most None e = omega arith
    at_most (Some r) e = sides-few name xs r e

-- the first side conditions hold

pub sides_begin : (rule : Option TreeRule) → All SideHolds (take 0 (sides_of rule))
sides_begin rule = All-nil SideHolds

pub record SideAt (rule : Option TreeRule) (at : ℕ) (b : Bool) : Type 0 where
  pub side : SideCondition
  pub here : slice_get (sides_of rule) at ≡ Some side
  pub there : side_at at rule ≡ Some side
  pub exact : IsTrue b ↔ SideHolds side

pub side_here : (rule : Option TreeRule) (at : ℕ) (o : Option SideCondition) (b : Bool) → o ≡ side_at at rule → at < sides_in rule → IfSome o (λ c. IsTrue b ↔ SideHolds c) → SideAt rule at b
side_here None at o b is lt exact = absurd (omega arith)
side_here (Some r) at None b is lt exact = let wrong : false ≡ true = ap is_some is ∙ side_some (Some r) at lt in cc
side_here (Some r) at (Some c) b is lt exact = record { side = c; here = sym is; there = sym is; exact = exact }

pub side_more : (rule : Option TreeRule) (at : ℕ) (o : Option SideCondition) (b : Bool) → o ≡ side_at at rule → at < sides_in rule → IfSome o (λ c. IsTrue b ↔ SideHolds c) → IsTrue b → All SideHolds (take at (sides_of rule)) → All SideHolds (take (at + 1) (sides_of rule))
side_more rule at o b is lt exact holds all =
    let s = side_here rule at o b is lt exact in
    subst (All SideHolds) (sym (take-more (sides_of rule) at s.side s.here)) (All-push SideHolds (take at (sides_of rule)) s.side all (s.exact.0 holds))

pub side_fails : (rule : Option TreeRule) (at : ℕ) (o : Option SideCondition) (b : Bool) → o ≡ side_at at rule → at < sides_in rule → IfSome o (λ c. IsTrue b ↔ SideHolds c) → (IsTrue b → ⊥) → IfSome (side_at at rule) SideHolds → ⊥
side_fails rule at o b is lt exact fails holds =
    let s = side_here rule at o b is lt exact in
    fails (s.exact.1 (rw s.there at holds))

pub sides_end : (rule : Option TreeRule) (at : ℕ) → sides_in rule ≤ at → All SideHolds (take at (sides_of rule)) → All SideHolds (sides_of rule)
sides_end None at le all = All-nil SideHolds
sides_end (Some r) at le all = subst (All SideHolds) (take_all at r.sides le) all

-- where all hold, the one at a place does
pub side_holds : (rule : Option TreeRule) (at : ℕ) → All SideHolds (sides_of rule) → IfSome (side_at at rule) SideHolds
side_holds None at all = tt
side_holds (Some r) at all = from (slice_get r.sides at) refl
  where
    from : (o : Option SideCondition) → slice_get r.sides at ≡ o → IfSome o SideHolds
    from None e = tt
    from (Some c) e = All-at SideHolds r.sides at c e all
