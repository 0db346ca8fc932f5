-- What is kept in a list.
use Rattle.std.proofs.Common.{ℕ, zero, suc, ◌≡◌, refl, sym}
use Rattle.syntax.specs.Tree.{Tree, Trees, with}
use Rattle.productions.specs.Machine.{keep_last}
use Rattle.productions.proofs.Steps.{trees_none}

pub keep_none : (r : ℕ) (xs : Trees) (x : Tree) → r ≡ 0 → xs ≡ keep_last r xs x
keep_none r xs x h = rw h (sym (trees_none xs))

pub keep_some : (r : ℕ) (xs : Trees) (x : Tree) → ¬ (r ≡ 0) → with xs x ≡ keep_last r xs x
keep_some zero xs x h = absurd (h refl)
keep_some (suc r) xs x h = refl
