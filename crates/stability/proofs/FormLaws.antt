-- Covers and bodies of sides, one side after another.
use Rattle.std.specs.Prelude.{◌≡◌, List, [], ◌∷◌, refl, map}
use Rattle.std.proofs.Common.{ap, ◌∙◌}
use Rattle.trees.specs.Trees.{Tree}
use Rattle.trees.specs.Judgements.{trees}
use Rattle.translation.specs.Terms.{lifted, join, sys}
use Rattle.translation.specs.Systems.{On, on, cover, body, line_body}
use Rattle.rules.specs.Table as table
use Rattle.stability.specs.Alike.{sides_of}

pub cover-same : (S : List (On Tree)) → cover S ≡ table.cover trees (sides_of S)
cover-same [] = refl
cover-same (s ∷ S) = ap (λ p. join s.face p) (cover-same S)

pub body-same : (S : List (On Tree)) → body S ≡ table.body trees (sides_of S)
body-same [] = refl
body-same (s ∷ S) =
    ap (λ p. sys s.face p s.value (body S)) (cover-same S)
    ∙ ap (λ b. sys s.face (table.cover trees (sides_of S)) s.value b) (body-same S)

abbrev lines : List (On Tree) → List (On Tree)
lines = map (λ s. on (lifted s.face) s.value)

over-name : (S : List (On Tree)) → sides_of (lines S) ≡ table.over_name trees (sides_of S)
over-name [] = refl
over-name (s ∷ S) =
    ap (λ rest. table.side trees (lifted s.face) s.value ∷ rest) (over-name S)

pub line-body-same : (S : List (On Tree))
    → line_body S ≡ table.body trees (table.over_name trees (sides_of S))
line-body-same S = body-same (lines S) ∙ ap (table.body trees) (over-name S)
