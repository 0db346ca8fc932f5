-- The forms of substitution that rules write, in every language of trees and substitutions.
use Rattle.std.specs.Prelude.{ℕ, zero, suc}
use Rattle.trees.specs.Language.{Language}

module _ (L : Language) where
  open L use {tree, subst, var, apply, shift_by, push, then}

  -- `A{a}`: a for the innermost index
  abbrev pub at : tree → tree → tree
  at t a = apply t (push (shift_by 0) a)

  -- `A+`: the tree under one more binder
  abbrev pub weaken : tree → tree
  weaken t = apply t (shift_by 1)

  -- the substitution under one binder, whose index stays
  abbrev pub lift : subst → subst
  lift d = push (then d (shift_by 1)) (var 0)

  -- under so many binders
  abbrev pub lift_by : ℕ → subst → subst
  lift_by zero d = d
  lift_by (suc n) d = lift (lift_by n d)

  -- the substitution without what it does to the first n indices
  abbrev pub drop : ℕ → subst → subst
  drop n d = then (shift_by n) d
