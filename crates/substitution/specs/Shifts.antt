-- How large shifts grow.
use Rattle.std.specs.Prelude.{List, [], ◌∷◌}
use Rattle.trees.specs.Trees.{Subst, then, id}

-- these, one after another
abbrev pub then_all : List Subst → Subst
then_all [] = id
then_all (d ∷ ds) = then d (then_all ds)
