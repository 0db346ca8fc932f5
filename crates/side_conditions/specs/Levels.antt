-- Names by level: the outermost index of a context has level 0, and the innermost index is 0.
use Rattle.std.specs.Prelude.{ℕ, zero, suc, Bool, true, false, List, [], ◌∷◌, length}
use Rattle.std.specs.Prelude.{slice_index_or}
use Rattle.trees.specs.Judgements.{Context, Nil, WithVar, WithName, WithFace}
use Rattle.points.specs.Values.{Valuation, free_value}
use Rattle.points.specs.Points.{Point, Free}

-- whether each index is that of a name, the innermost first
abbrev pub indices : Context → List Bool
indices Nil = []
indices (WithVar G A) = false ∷ indices G
indices (WithName G) = true ∷ indices G
indices (WithFace G p) = indices G

abbrev pub count_indices : Context → ℕ
count_indices G = length (indices G)

-- of what levels have, what n indices have, the innermost first
abbrev pub by_index : {X : Type 0} → X → ℕ → List X → List X
by_index default zero xs = []
by_index default (suc n) xs = slice_index_or xs n default ∷ by_index default n xs

abbrev pub values_by_index : Context → Valuation → Valuation
values_by_index G valuation = by_index free_value (count_indices G) valuation

abbrev pub point_by_index : Context → Point → Point
point_by_index G point = by_index Free (count_indices G) point

-- the context with so many more names
abbrev pub with_names : ℕ → Context → Context
with_names zero G = G
with_names (suc n) G = WithName (with_names n G)
