-- Stations of trails: two trees of a context.
use Rattle.trees.specs.Trees.{Tree}
use Rattle.trees.specs.Judgements.{Context}
use Rattle.trails.specs.declared.station.Sort.{Sort}

pub record Station : Type 0 where
  pub ctx : Context
  pub left : Tree
  pub right : Tree
  pub sort : Sort

abbrev pub station : Context → Tree → Tree → Sort → Station
station G l r sort = record { ctx = G; left = l; right = r; sort = sort }
