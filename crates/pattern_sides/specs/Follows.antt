-- Whether a side condition follows from others, at all values of the parts.
use Rattle.std.specs.Prelude.{List, Bool, false, ◌&&◌, ◌||◌, ◌==◌}
use Rattle.std.specs.List.{list_any}
use Rattle.trees.specs.Language.{IsFormula, IsFace, Holds, Alike}
use Rattle.patterns.specs.Normals.{Normal, NormalSubst, NormalContext, NShift, NPush, NRest}
use Rattle.patterns.specs.Normals.{same_normal, same_normal_subst}
use Rattle.patterns.specs.Tests.{NormalCondition, same_normal_condition}
use Rattle.pattern_sides.specs.Formulas.{names_of, base_of, is_formula_in, is_face_in}
use Rattle.pattern_sides.specs.Truths.{faces_of, follows_from, agree_under}

module _ (facts : List NormalCondition) where
  abbrev pub is_formula_over : NormalContext → Normal → Bool
  is_formula_over G r = is_formula_in facts (base_of G) (names_of G) r

  abbrev pub is_face_over : NormalContext → Normal → Bool
  is_face_over G p = is_face_in facts (base_of G) (names_of G) p

  -- formulas that have one value wherever the faces of the context are true
  abbrev pub are_same : NormalContext → Normal → Normal → Bool
  are_same H r s =
      is_formula_over H r
      && (is_formula_over H s && agree_under (names_of H) (faces_of facts H) r s)

  -- one shift, and at each place equal trees or formulas that are the same
  abbrev pub are_alike : NormalContext → NormalSubst → NormalSubst → Bool
  are_alike H (NShift n) (NShift m) = n == m
  are_alike H (NPush d t) (NPush e u) = (same_normal t u || are_same H t u) && are_alike H d e
  are_alike H (NRest n k d) e = same_normal_subst (NRest n k d) e
  are_alike H _ _ = false

  -- by what it says
  abbrev pub follows_by_form : NormalCondition → Bool
  follows_by_form (IsFormula G r) = is_formula_over G r
  follows_by_form (IsFace G p) = is_face_over G p
  follows_by_form (Holds G p) =
      is_face_over G p && follows_from (names_of G) (faces_of facts G) p
  follows_by_form (Alike H d e) = are_alike H d e

-- it is one of the others, or follows from them by what it says
abbrev pub follows : List NormalCondition → NormalCondition → Bool
follows facts c = list_any (same_normal_condition c) facts || follows_by_form facts c
