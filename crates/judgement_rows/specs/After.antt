-- Definitions from the start, and a code in their scope.
use Rattle.std.specs.Prelude.{◌≡◌, List, [], map, Some}
use Rattle.trees.specs.Trees.{Tree}
use Rattle.trees.specs.Claimed.{claimed}
use Rattle.translation.specs.Translated.{judgements_of}
use Rattle.codes.specs.declared.code.Code.{Code}
use Rattle.codes.specs.declared.code.CodeDef.{CodeDef}
use Rattle.codes.specs.Codes.{definitions, meaning}
use Rattle.judgement_rows.specs.declared.places.Place.{Place}
use Rattle.judgement_rows.specs.Steps.{State, Fits}

-- the tree of a code in the scope of definitions
abbrev pub term_after : List CodeDef → Code → Tree
term_after defs code = (meaning code (definitions defs []).value).value

-- The state and the place are those of a code in the scope of definitions, and what these state was
-- claimed.
pub record After (s : State) (p : Place) (defs : List CodeDef) : Type 0 where
  pub fits : Fits s p (definitions defs []).value
  pub claims : map (claimed s.means) s.claims ≡ map Some (judgements_of (definitions defs []).stated)
