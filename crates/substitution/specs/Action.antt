-- What a substitution does to an index, and when two of them do the same to every tree.
use Rattle.std.specs.Prelude.{◌≡◌, ℕ}
use Rattle.trees.specs.Trees.{Tree, Subst, entry, apply}

-- what the index k becomes
abbrev pub look : Subst → ℕ → Tree
look d k = entry d.pushed d.shift k

-- d and e do the same to every tree; their lists and shifts may differ
abbrev pub ActAlike : Subst → Subst → Type 0
ActAlike d e = (t : Tree) → apply t d ≡ apply t e
