-- The premises that a rule wants, place by place.
use Rattle.std.proofs.Common.{◌≡◌, ℕ, zero, suc, ◌+◌, ◌<◌, ◌≤◌, List, [], ◌∷◌, length, take, get_or, refl, sym, ◌∙◌, ap, arith, Option, Some, None, IsSome}
use Rattle.std.specs.Prelude.{slice_get, option_and_then}
use Rattle.theory.specs.declared.rule.RuleName.{RuleName}
use Rattle.theory.specs.RuleNames.{premises_of}
use Rattle.trees.specs.Judgements.{Judgement, TreeRule}
use Rattle.trees.specs.Things.{Thing, meanings}
use Rattle.trees.proofs.Meanings.{meanings-more, meanings-all, meanings-place}
use Rattle.rules.specs.Rules.{rule_at}
use Rattle.rules.specs.Claims.{rule_over, premise_at}
use Rattle.rules.proofs.TableLaws.{wants-count}
use Rattle.book.specs.Fits.{wants_of}

-- the rule that stands at parts

pub record RuleThere (name : RuleName) (parts : Option (List Thing)) : Type 0 where
  pub xs : List Thing
  pub rule : TreeRule
  pub parts_are : parts ≡ Some xs
  pub at : rule_at name xs ≡ Some rule
  pub is : rule_over name parts ≡ Some rule
  pub count : length rule.wants ≡ premises_of name

pub rule_there : (name : RuleName) (parts : Option (List Thing)) → IsSome (rule_over name parts) → RuleThere name parts
rule_there name None some = cc
rule_there name (Some xs) some = from (rule_at name xs) refl some
  where
    from : (o : Option TreeRule) → rule_at name xs ≡ o → IsSome o → RuleThere name (Some xs)
    from None e some = cc
    from (Some r) e some = record { xs = xs; rule = r; parts_are = refl; at = e; is = e; count = wants-count name xs r e }

pub premise_some : (name : RuleName) (parts : Option (List Thing)) (at : ℕ) → IsSome (rule_over name parts) → at < premises_of name → IsSome (premise_at at (rule_over name parts))
premise_some name parts at some lt =
    let t = rule_there name parts some in
    let within : at < length t.rule.wants = omega (arith, t.count) in
    rw t.is (there t.rule.wants at within)
  where
    there : (Js : List Judgement) (at : ℕ) → at < length Js → IsSome (slice_get Js at)
    there [] at lt = absurd (omega arith)
    there (J ∷ Js) zero lt = refl
    there (J ∷ Js) (suc at) lt = there Js at (omega arith)

-- the first of the premises that a rule wants
abbrev pub wants_first : ℕ → Option TreeRule → Option (List Judgement)
wants_first n = option_and_then (λ r. Some (take n r.wants))

-- so many premises hold
pub record FirstHold (f : ℕ → Option Judgement) (ps : List ℕ) (rule : Option TreeRule) (n : ℕ) : Type 0 where
  pub first : meanings f (take n ps) ≡ wants_first n rule

pub none_holds : (f : ℕ → Option Judgement) (ps : List ℕ) (name : RuleName) (parts : Option (List Thing)) → IsSome (rule_over name parts) → FirstHold f ps (rule_over name parts) 0
none_holds f ps name parts some = let t = rule_there name parts some in record { first = rw t.is refl }

pub one_holds : (f : ℕ → Option Judgement) (ps : List ℕ) (name : RuleName) (parts : Option (List Thing)) (i : ℕ) → IsSome (rule_over name parts) → length ps ≡ premises_of name → i < length ps → FirstHold f ps (rule_over name parts) i → f (get_or ps i 0) ≡ premise_at i (rule_over name parts) → FirstHold f ps (rule_over name parts) (i + 1)
one_holds f ps name parts i some n lt h e =
    let t = rule_there name parts some in
    let count : length ps ≡ length t.rule.wants = n ∙ sym t.count in
    let first : meanings f (take i ps) ≡ Some (take i t.rule.wants) = h.first ∙ ap (wants_first i) t.is in
    let here : f (get_or ps i 0) ≡ slice_get t.rule.wants i = e ∙ ap (premise_at i) t.is in
    record { first = meanings-more f ps t.rule.wants i lt count first here ∙ sym (ap (wants_first (i + 1)) t.is) }

pub all_hold : (f : ℕ → Option Judgement) (ps : List ℕ) (name : RuleName) (parts : Option (List Thing)) (i : ℕ) → IsSome (rule_over name parts) → length ps ≡ premises_of name → length ps ≤ i → FirstHold f ps (rule_over name parts) i → meanings f ps ≡ wants_of (rule_over name parts)
all_hold f ps name parts i some n le h =
    let t = rule_there name parts some in
    let count : length ps ≡ length t.rule.wants = n ∙ sym t.count in
    meanings-all f ps t.rule.wants i le count (h.first ∙ ap (wants_first i) t.is) ∙ sym (ap wants_of t.is)

pub must_hold : (f : ℕ → Option Judgement) (ps : List ℕ) (name : RuleName) (parts : Option (List Thing)) (i : ℕ) → IsSome (rule_over name parts) → i < length ps → meanings f ps ≡ wants_of (rule_over name parts) → f (get_or ps i 0) ≡ premise_at i (rule_over name parts)
must_hold f ps name parts i some lt e =
    let t = rule_there name parts some in
    meanings-place f ps t.rule.wants i (e ∙ ap wants_of t.is) lt ∙ sym (ap (premise_at i) t.is)
