-- A side condition that the test finds to follow holds at all values of the parts at which the others hold.
use Rattle.std.proofs.Common.{◌≡◌, ◌⊎◌, ⊎_elim, inl, inr, List, [], ◌∷◌, map, true, ◌||◌, refl, sym, ap, subst}
use Rattle.std.specs.List.{All, list_any}
use Rattle.std.proofs.lemmas.Bool.{eqb-true}
use Rattle.std.proofs.lemmas.List.Elements.{All-head, All-tail}
use Rattle.trees.specs.Language.{IsFormula, IsFace, Holds, Alike}
use Rattle.trees.specs.Trees.{Trees, NoTrees, More, Subst, shift_by}
use Rattle.trees.specs.Judgements.{Context, trees}
use Rattle.patterns.specs.Values.{Parts}
use Rattle.patterns.specs.Normals.{Normal, NormalSubst, NormalContext, NShift, NPush, NRest, same_normal}
use Rattle.patterns.specs.Fillings.{filled, filled_subst, filled_context, filled_condition}
use Rattle.patterns.specs.Tests.{NormalCondition, same_normal_condition}
use Rattle.patterns.proofs.SameLaws.{both, same_normal-true, same_normal_subst-true, same_normal_condition-true}
use Rattle.conditions.specs.Sides.{is_formula, is_face, SameIn, AlikeTrees, AlikeIn, SideHolds}
use Rattle.pattern_sides.specs.Formulas.{names_of, base_of}
use Rattle.pattern_sides.specs.Truths.{faces_of}
use Rattle.pattern_sides.specs.Follows.{is_formula_over, is_face_over, are_same, are_alike, follows_by_form, follows}
use Rattle.pattern_sides.proofs.Names.{names-filled}
use Rattle.pattern_sides.proofs.FormulaLaws.{formula-filled, face-filled}
use Rattle.pattern_sides.proofs.ValueLaws.{or_cases, faces-true}
use Rattle.pattern_sides.proofs.ToldLaws.{follows-true, agree-same}

alike-trees : (H : Context) (ts : Trees) → AlikeTrees H ts ts
alike-trees H NoTrees = tt
alike-trees H (More t ts) = (inl refl, alike-trees H ts)

alike-equal : (H : Context) (d e : Subst) → d ≡ e → AlikeIn H d e
alike-equal H d e same = subst (AlikeIn H d) same (record { shift = refl; pushed = alike-trees H d.pushed })

module _ (v : Parts trees) (facts : List NormalCondition) (holds : All SideHolds (map (filled_condition v) facts)) where
  formula-over : (G : NormalContext) (r : Normal) → is_formula_over facts G r ≡ true → is_formula (filled_context v G) (filled v r) ≡ true
  formula-over G r h = formula-filled v facts holds (base_of G) (filled_context v G) (names_of G) (names-filled v G) r h

  face-over : (G : NormalContext) (p : Normal) → is_face_over facts G p ≡ true → is_face (filled_context v G) (filled v p) ≡ true
  face-over G p h = face-filled v facts holds (base_of G) p (filled_context v G) (names_of G) (names-filled v G) h

  same-filled : (H : NormalContext) (r s : Normal) → are_same facts H r s ≡ true → SameIn (filled_context v H) (filled v r) (filled v s)
  same-filled H r s h =
      let f = both (is_formula_over facts H r) _ h in
      let g = both (is_formula_over facts H s) _ f.1 in
      record {
        left = formula-over H r f.0;
        right = formula-over H s g.0;
        agree = λ x satisfied val over. agree-same v x val over (names_of H) (faces_of facts H) r s (faces-true v facts holds H x satisfied) g.1;
      }

  alike-filled : (H : NormalContext) (d e : NormalSubst) → are_alike facts H d e ≡ true → AlikeIn (filled_context v H) (filled_subst v d) (filled_subst v e)
  alike-filled H (NShift n) (NShift m) h = alike-equal (filled_context v H) (shift_by n) (shift_by m) (ap shift_by (eqb-true n m h))
  alike-filled H (NPush d t) (NPush e u) h =
      let f = both (same_normal t u || are_same facts H t u) _ h in
      let rest = alike-filled H d e f.1 in
      record { shift = rest.shift; pushed = (first (or_cases (same_normal t u) _ f.0), rest.pushed) }
    where
      first : (same_normal t u ≡ true) ⊎ (are_same facts H t u ≡ true) → (filled v t ≡ filled v u) ⊎ SameIn (filled_context v H) (filled v t) (filled v u)
      first (inl q) = inl (ap (filled v) (same_normal-true t u q))
      first (inr q) = inr (same-filled H t u q)
  alike-filled H (NRest n k d) e h =
      alike-equal (filled_context v H) (filled_subst v (NRest n k d)) (filled_subst v e) (ap (filled_subst v) (same_normal_subst-true (NRest n k d) e h))
  alike-filled H _ _ h = absurd (cc h)

  by_form : (c : NormalCondition) → follows_by_form facts c ≡ true → SideHolds (filled_condition v c)
  by_form (IsFormula G r) h = formula-over G r h
  by_form (IsFace G p) h = face-over G p h
  by_form (Holds G p) h =
      let f = both (is_face_over facts G p) _ h in
      λ x satisfied. (face-over G p f.0, follows-true v x (names_of G) (faces_of facts G) p (faces-true v facts holds G x satisfied) f.1)
  by_form (Alike H d e) h = alike-filled H d e h

one_of : (v : Parts trees) (c : NormalCondition) (facts : List NormalCondition) → All SideHolds (map (filled_condition v) facts) → list_any (same_normal_condition c) facts ≡ true → SideHolds (filled_condition v c)
one_of v c [] holds h = absurd (cc h)
one_of v c (k ∷ ks) holds h =
    ⊎_elim
    (λ q.
    subst (λ z. SideHolds (filled_condition v z)) (sym (same_normal_condition-true c k q))
    (All-head SideHolds (filled_condition v k) (map (filled_condition v) ks) holds))
    (λ q. one_of v c ks (All-tail SideHolds (filled_condition v k) (map (filled_condition v) ks) holds) q)
    (or_cases (same_normal_condition c k) _ h)

pub follows-sound : (v : Parts trees) (facts : List NormalCondition) → All SideHolds (map (filled_condition v) facts) → (c : NormalCondition) → follows facts c ≡ true → SideHolds (filled_condition v c)
follows-sound v facts holds c h =
    ⊎_elim (one_of v c facts holds) (by_form v facts holds c) (or_cases (list_any (same_normal_condition c) facts) _ h)
