-- Lists that grow by one item for each row, made of the items before it.
use Rattle.std.specs.Prelude.{List, [], ◌∷◌, ◌++◌, ◌≡◌}

-- these items, and after them one for each row
abbrev pub built_after : {R X : Type 0} → (List X → R → X) → List X → List R → List X
built_after make known [] = known
built_after make known (row ∷ rows) = built_after make (known ++ make known row ∷ []) rows

abbrev pub built : {R X : Type 0} → (List X → R → X) → List R → List X
built make rows = built_after make [] rows

-- the old items are a prefix of the new ones
abbrev pub Grows : {X : Type 0} → List X → List X → Type 0
Grows {X} old new = (more : List X) × (new ≡ old ++ more)
