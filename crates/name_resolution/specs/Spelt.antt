-- Names of the interval in codes.
use Rattle.std.specs.Prelude.{ℕ}
use Rattle.trees.specs.Trees.{Tree, Var}
use Rattle.translation.specs.Translated.{done}
use Rattle.translation.specs.Forms.{Means}

-- a name of the interval, by its index
abbrev pub index_of : ℕ → Means ℕ Tree
index_of k G = done (Var k)
