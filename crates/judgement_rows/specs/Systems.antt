-- Rows of sides, and of the systems that are made of them.
use Rattle.std.specs.Prelude.{List, map}
use Rattle.trees.specs.Trees.{Tree}
use Rattle.trees.specs.Things.{Meanings}
use Rattle.translation.specs.Systems.{On, cover, body, line_body}
use Rattle.translation.specs.Forms.{types, equivalences}
use Rattle.form_rows.specs.Meant.{Is, Are}
use Rattle.judgement_rows.specs.declared.systems.System.{System}
use Rattle.judgement_rows.specs.declared.systems.PairSystem.{PairSystem}
use Rattle.judgement_rows.specs.declared.systems.SideRows.{SideRows}
use Rattle.judgement_rows.specs.declared.systems.PairRows.{PairRows}

pub record AreSides (f : Meanings) (r : SideRows) (ss : List (On Tree)) : Type 0 where
  pub faces : Are f r.faces.items (map (λ (s : On Tree). s.face) ss)
  pub values : Are f r.values.items (map (λ (s : On Tree). s.value) ss)

pub record ArePairs (f : Meanings) (r : PairRows) (ss : List (On (Tree × Tree))) : Type 0 where
  pub faces : Are f r.faces.items (map (λ (s : On (Tree × Tree)). s.face) ss)
  pub types : Are f r.types.items (map (λ (s : On Tree). s.value) (types ss))
  pub equivalences : Are f r.equivalences.items (map (λ (s : On Tree). s.value) (equivalences ss))

pub record SystemOf (f : Meanings) (y : System) (ss : List (On Tree)) : Type 0 where
  pub cover : Is f y.cover (cover ss)
  pub body : Is f y.body (body ss)

pub record LineSystemOf (f : Meanings) (y : System) (ss : List (On Tree)) : Type 0 where
  pub cover : Is f y.cover (cover ss)
  pub body : Is f y.body (line_body ss)

pub record PairSystemOf (f : Meanings) (y : PairSystem) (ss : List (On (Tree × Tree)))
    : Type 0 where
  pub cover : Is f y.cover (cover ss)
  pub types : Is f y.types (body (types ss))
  pub equivalences : Is f y.equivalences (body (equivalences ss))
