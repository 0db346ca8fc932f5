-- What the program of a derived tree makes.
use Rattle.std.proofs.Common.{◌≡◌, ℕ, zero, suc, ◌==◌, ◌&&◌, ◌≤◌, nat_le, Bool, true, false, not, IsTrue, List, [], ◌∷◌, refl, sym, ◌∙◌, Option, Some, None, IsSome}
use Rattle.std.specs.Prelude.{option_and_then}
use Rattle.std.proofs.lemmas.Bool.{and_parts, eqb-true, leb-true}
use Rattle.trees.specs.Trees.{Tree}
use Rattle.trees.specs.Things.{Thing, ATree, ASubst, AContext}
use Rattle.rules.specs.declared.derived.Derived.{Derived}
use Rattle.rules.specs.declared.derived.Derived.TheVariants.{Fill}
use Rattle.rules.specs.declared.instruction.Instruction.{Instruction}
use Rattle.rules.specs.declared.instruction.Instruction.TheVariants.{Call}
use Rattle.rules.specs.DerivedTrees.{TreeOver, over_trees, arity_of, derived, derived_over, rank_of, rows_of}
use Rattle.rules.specs.Run.{thing_of, rows_for, rows_in, rank_in}
use Rattle.rules.specs.Schemas.{fits, has_then, AtAllTrees, MakesTree, is_program, Makes}

-- what holds at all trees holds where there are so many

record AtTrees (n : ℕ) (f : TreeOver n) (P : List Thing → Tree → Type 0) (xs : List Thing) : Type 0 where
  pub tree : Tree
  pub is : over_trees n f xs ≡ Some (ATree tree)
  pub holds : P xs tree

at_trees : (n : ℕ) (f : TreeOver n) (P : List Thing → Tree → Type 0) → AtAllTrees n f P → (xs : List Thing) → IsSome (over_trees n f xs) → AtTrees n f P xs
at_trees zero t P h [] some = record { tree = t; is = refl; holds = h }
at_trees zero t P h (x ∷ xs) some = cc
at_trees (suc n) f P h [] some = cc
at_trees (suc n) f P h (ATree t ∷ xs) some =
    let a = at_trees n (f t) (λ ys u. P (ATree t ∷ ys) u) (h t) xs some in
    record { tree = a.tree; is = a.is; holds = a.holds }
at_trees (suc n) f P h (ASubst d ∷ xs) some = cc
at_trees (suc n) f P h (AContext G ∷ xs) some = cc

pub record Derivation (d : Derived) (place : List Instruction) : Type 0 where
  pub fit : fits place ≡ true
  pub plain : IsTrue (has_then place) → ⊥
  pub rows : rows_in place ≡ rows_of d
  pub rank : rank_in place ≤ rank_of d
  pub makes : (P : Option (List Thing)) → IsSome (option_and_then (derived_over d) P) → thing_of P place ≡ option_and_then (derived_over d) P

by_cases : (d : Derived) (place : List Instruction) → Makes d place → MakesTree d place × (is_program d place ≡ true)
by_cases Fill place h = h
by_cases d place h = h

not_true : (b : Bool) → not b ≡ true → IsTrue b → ⊥
not_true true e t = cc
not_true false e t = cc

pub derivation_of : (d : Derived) (place : List Instruction) → Makes d place → Derivation d place
derivation_of d place m =
    let h = by_cases d place m in
    let last = and_parts (fits place && not (has_then place) && rows_in place == rows_of d) (nat_le (rank_in place) (rank_of d)) h.1 in
    let third = and_parts (fits place && not (has_then place)) (rows_in place == rows_of d) last.0 in
    let first = and_parts (fits place) (not (has_then place)) third.0 in
    record {
      fit = first.0;
      plain = not_true (has_then place) first.1;
      rows = eqb-true (rows_in place) (rows_of d) third.1;
      rank = leb-true (rank_in place) (rank_of d) last.1;
      makes = made;
    }
  where
    made : (P : Option (List Thing)) → IsSome (option_and_then (derived_over d) P) → thing_of P place ≡ option_and_then (derived_over d) P
    made None some = cc
    made (Some xs) some =
        let a = at_trees (arity_of d) (derived d) (λ ys t. thing_of (Some ys) place ≡ Some (ATree t)) (by_cases d place m).0 xs some in
        a.holds ∙ sym a.is

-- a call makes the rows of its program
pub rows-called : (d : Derived) (place : List Instruction) (instruction : Instruction) → Makes d place → instruction ≡ Call d → rows_in place ≡ rows_for instruction
rows-called d place instruction m is = rw is (derivation_of d place m).rows
