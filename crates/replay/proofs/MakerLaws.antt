-- What rows mean that others are made of.
use Rattle.std.proofs.Common.{ℕ, refl, Option, Some, None}
use Rattle.trees.specs.Things.{Thing, ATree, ASubst, AContext}
use Rattle.rows.specs.Views.{IsSubst, ShiftAtMost}

pub shift_is_subst : (most : ℕ) (x : Option Thing) → ShiftAtMost most x → IsSubst x
shift_is_subst most None fits = absurd fits
shift_is_subst most (Some (ATree t)) fits = absurd fits
shift_is_subst most (Some (ASubst d)) fits = (d, refl)
shift_is_subst most (Some (AContext G)) fits = absurd fits
