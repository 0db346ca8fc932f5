-- A statement that the test lets stand at things in normal form stands at these things filled in, and gives what the test says.
use Rattle.std.proofs.Common.{◌≡◌, ℕ, zero, suc, ◌≤◌, List, [], ◌∷◌, map, take, length, Bool, true, false, cond, refl, sym, ◌∙◌, ap, ap₂, subst, arith, Option, Some, None}
use Rattle.std.specs.Prelude.{option_map}
use Rattle.std.specs.List.{All, list_all}
use Rattle.std.proofs.lemmas.Bool.{leb-true}
use Rattle.std.proofs.lemmas.List.Elements.{All-nil, All-cons, All-head, All-tail}
use Rattle.substitution.specs.Forms.{drop}
use Rattle.substitution.proofs.ShiftBounds.{shift-then-bound}
use Rattle.trees.specs.declared.kind.PartKind.{PartKind}
use Rattle.trees.specs.declared.kind.PartKind.TheVariants as part
use Rattle.trees.specs.Trees.{shift_by}
use Rattle.trees.specs.Judgements.{trees}
use Rattle.trees.specs.Things.{Thing, ATree, ASubst, AContext, kind_of, meanings}
use Rattle.patterns.specs.Patterns.{JudgementPattern, ConditionPattern}
use Rattle.patterns.specs.Values.{Parts, parts_of, subst_at, judged_of, tested_of, judgement_of, condition_of}
use Rattle.patterns.specs.Normals.{NormalSubst, NShift, NPush, NRest, normals}
use Rattle.patterns.specs.Fillings.{Fits, filled_subst, filled_judgement, filled_condition}
use Rattle.patterns.specs.Tests.{NormalJudgement, NormalCondition, same_normal_judgement}
use Rattle.patterns.proofs.SameLaws.{both, same_normal_judgement-true}
use Rattle.patterns.proofs.Soundness.{filled-judged_of, filled-tested_of}
use Rattle.conditions.specs.Sides.{SideHolds}
use Rattle.recipes.specs.Statements.{Statement}
use Rattle.recipes.specs.Made.{ANode, ShiftIsAtMost, greatest_part_shift, thing_at, node_at}
use Rattle.recipes.specs.Derivations.{premises_at, SidesHold, conclusions_at}
use Rattle.recipes.specs.Normally.{NormalThing, NTree, NSubst, NContext, NormalMade, NNode, normal_kind, normal_parts, normal_at, normal_node_at}
use Rattle.recipes.specs.Checks.{SideTest, IsSound, most_shift, is_shift_within, same_kind, same_kinds, same_conclusions, may_use, given, used}
use Rattle.recipes.proofs.FilledThings.{filled_thing, filled_made, things_at-filled, nodes_at-filled, parts-fit, kinds-filled}

-- the tests of kinds and of conclusions

same_kind-true : (k l : PartKind) → same_kind k l ≡ true → k ≡ l
same_kind-true part.Term part.Term h = refl
same_kind-true part.Subst part.Subst h = refl
same_kind-true part.Context part.Context h = refl
same_kind-true _ _ h = absurd (cc h)

same_kinds-true : (ks ls : List PartKind) → same_kinds ks ls ≡ true → ks ≡ ls
same_kinds-true [] [] h = refl
same_kinds-true (k ∷ ks) (l ∷ ls) h =
    let f = both (same_kind k l) (same_kinds ks ls) h in
    ap₂ ◌∷◌ (same_kind-true k l f.0) (same_kinds-true ks ls f.1)
same_kinds-true _ _ h = absurd (cc h)

pub same_conclusions-true : (is js : List NormalJudgement) → same_conclusions is js ≡ true → is ≡ js
same_conclusions-true [] [] h = refl
same_conclusions-true (i ∷ is) (j ∷ js) h =
    let f = both (same_normal_judgement i j) (same_conclusions is js) h in
    ap₂ ◌∷◌ (same_normal_judgement-true i j f.0) (same_conclusions-true is js f.1)
same_conclusions-true _ _ h = absurd (cc h)

-- shifts

-- the shifts of the substitutions among the parts are small
pub record AreSmall (v : Parts trees) : Type 0 where
  pub small : (k : ℕ) → (v.subst k).shift ≤ greatest_part_shift

subst_at-small : (xs : List Thing) → All (ShiftIsAtMost greatest_part_shift) xs → (k : ℕ) → (subst_at xs k).shift ≤ greatest_part_shift
subst_at-small [] all k = omega arith
subst_at-small (ASubst d ∷ xs) all zero = All-head (ShiftIsAtMost greatest_part_shift) (ASubst d) xs all
subst_at-small (ATree t ∷ xs) all zero = omega arith
subst_at-small (AContext G ∷ xs) all zero = omega arith
subst_at-small (ASubst d ∷ xs) all (suc k) = subst_at-small xs (All-tail (ShiftIsAtMost greatest_part_shift) (ASubst d) xs all) k
subst_at-small (ATree t ∷ xs) all (suc k) = subst_at-small xs (All-tail (ShiftIsAtMost greatest_part_shift) (ATree t) xs all) k
subst_at-small (AContext G ∷ xs) all (suc k) = subst_at-small xs (All-tail (ShiftIsAtMost greatest_part_shift) (AContext G) xs all) k

pub parts-small : (xs : List Thing) → All (ShiftIsAtMost greatest_part_shift) xs → AreSmall (parts_of xs)
parts-small xs all = record { small = subst_at-small xs all }

shift-filled : (v : Parts trees) → AreSmall v → (s : NormalSubst) → (filled_subst v s).shift ≤ most_shift s
shift-filled v small (NShift n) = omega arith
shift-filled v small (NPush s t) = shift-filled v small s
shift-filled v small (NRest n k s) =
    let outer = shift-then-bound (drop trees n (v.subst k)) (filled_subst v s) in
    let inner = shift-then-bound (shift_by n) (v.subst k) in
    let part = small.small k in
    let rest = shift-filled v small s in
    omega (arith, outer, inner, part, rest)

pub within-filled : (v : Parts trees) → AreSmall v → (most : ℕ) (x : NormalThing) → is_shift_within most x ≡ true → ShiftIsAtMost most (filled_thing v x)
within-filled v small most (NSubst d) h =
    let a = shift-filled v small d in
    let b = leb-true (most_shift d) most h in
    omega (arith, a, b)
within-filled v small most (NTree t) h = tt
within-filled v small most (NContext G) h = tt

all_within-filled : (v : Parts trees) → AreSmall v → (most : ℕ) (xs : List NormalThing) → list_all (is_shift_within most) xs ≡ true → All (ShiftIsAtMost most) (map (filled_thing v) xs)
all_within-filled v small most [] h = All-nil (ShiftIsAtMost most)
all_within-filled v small most (x ∷ xs) h =
    let f = both (is_shift_within most x) _ h in
    All-cons (ShiftIsAtMost most) (filled_thing v x) (map (filled_thing v) xs)
    (within-filled v small most x f.0) (all_within-filled v small most xs f.1)

-- judgements and side conditions

pub judged-filled : (v : Parts trees) (u : Parts normals) (w : Parts trees) → Fits v u w → (js : List JudgementPattern) → map (filled_judgement v) (map (judged_of normals u) js) ≡ map (judgement_of w) js
judged-filled v u w fits [] = refl
judged-filled v u w fits (j ∷ js) = ap₂ ◌∷◌ (filled-judged_of v u w fits j) (judged-filled v u w fits js)

pub tested-filled : (v : Parts trees) (u : Parts normals) (w : Parts trees) → Fits v u w → (cs : List ConditionPattern) → map (filled_condition v) (map (tested_of normals u) cs) ≡ map (condition_of w) cs
tested-filled v u w fits [] = refl
tested-filled v u w fits (c ∷ cs) = ap₂ ◌∷◌ (filled-tested_of v u w fits c) (tested-filled v u w fits cs)

nodes-filled : (v : Parts trees) (u : Parts normals) (w : Parts trees) → Fits v u w → (js : List JudgementPattern) → map (filled_made v) (map (λ j. NNode (judged_of normals u j)) js) ≡ map ANode (map (judgement_of w) js)
nodes-filled v u w fits [] = refl
nodes-filled v u w fits (j ∷ js) = ap₂ ◌∷◌ (ap ANode (filled-judged_of v u w fits j)) (nodes-filled v u w fits js)

module _ (follows : SideTest) (sound : IsSound follows) (facts : List NormalCondition) (v : Parts trees) (small : AreSmall v) (holds : All SideHolds (map (filled_condition v) facts)) where
  sides-hold : (u : Parts normals) (w : Parts trees) → Fits v u w → (cs : List ConditionPattern) → list_all (λ c. follows facts (tested_of normals u c)) cs ≡ true → All SideHolds (map (condition_of w) cs)
  sides-hold u w fits [] h = All-nil SideHolds
  sides-hold u w fits (c ∷ cs) h =
      let f = both (follows facts (tested_of normals u c)) _ h in
      All-cons SideHolds (condition_of w c) (map (condition_of w) cs)
      (subst SideHolds (filled-tested_of v u w fits c) (sound v facts holds (tested_of normals u c) f.0))
      (sides-hold u w fits cs f.1)

  -- the statement at things that earlier rows made, of nodes that earlier rows made
  pub record Stands (known : List NormalMade) (most : ℕ) (ps ns : List ℕ) (s : Statement) (new : List NormalMade) : Type 0 where
    pub things : List Thing
    pub things_are : meanings (thing_at (map (filled_made v) known)) (take (length s.kinds) ps) ≡ Some things
    pub premises_are : meanings (node_at (map (filled_made v) known)) (take (length s.wants) ns) ≡ Some (premises_at s things)
    pub kinds : map kind_of things ≡ s.kinds
    pub shifts : All (ShiftIsAtMost most) things
    pub sides : SidesHold s things
    pub new_are : map (filled_made v) new ≡ map ANode (conclusions_at s things)

  by_test : (known : List NormalMade) (most : ℕ) (ps ns : List ℕ) (s : Statement) (new : List NormalMade) (xs : List NormalThing) (js : List NormalJudgement) → meanings (normal_at known) (take (length s.kinds) ps) ≡ Some xs → meanings (normal_node_at known) (take (length s.wants) ns) ≡ Some js → (b : Bool) → may_use follows facts most s xs js ≡ b → cond b (Some (map (λ j. NNode (judged_of normals (normal_parts xs) j)) s.gives)) None ≡ Some new → Stands known most ps ns s new
  by_test known most ps ns s new xs js xs_are js_are true may e =
      let u = normal_parts xs in
      let things = map (filled_thing v) xs in
      let w = parts_of things in
      let fits = parts-fit v xs in
      let f = both (same_kinds (map normal_kind xs) s.kinds) _ may in
      let g = both (list_all (is_shift_within most) xs) _ f.1 in
      let h = both (same_conclusions (map (judged_of normals u) s.wants) js) _ g.1 in
      let made : map (λ j. NNode (judged_of normals u j)) s.gives ≡ new = cc in
      record {
        things = things;
        things_are = things_at-filled v known (take (length s.kinds) ps) ∙ ap (option_map (map (filled_thing v))) xs_are;
        premises_are =
            nodes_at-filled v known (take (length s.wants) ns)
            ∙ ap (option_map (map (filled_judgement v))) js_are
            ∙ ap (λ z. Some (map (filled_judgement v) z)) (sym (same_conclusions-true (map (judged_of normals u) s.wants) js h.0))
            ∙ ap Some (judged-filled v u w fits s.wants);
        kinds = kinds-filled v xs ∙ same_kinds-true (map normal_kind xs) s.kinds f.0;
        shifts = all_within-filled v small most xs g.0;
        sides = sides-hold u w fits s.sides h.1;
        new_are = ap (map (filled_made v)) (sym made) ∙ nodes-filled v u w fits s.gives;
      }
  by_test known most ps ns s new xs js xs_are js_are false may e = absurd (cc e)

  by_premises : (known : List NormalMade) (most : ℕ) (ps ns : List ℕ) (s : Statement) (new : List NormalMade) (o : Option (List NormalThing)) (p : Option (List NormalJudgement)) → meanings (normal_at known) (take (length s.kinds) ps) ≡ o → meanings (normal_node_at known) (take (length s.wants) ns) ≡ p → given follows facts most s o p ≡ Some new → Stands known most ps ns s new
  by_premises known most ps ns s new (Some xs) (Some js) o_is p_is e =
      by_test known most ps ns s new xs js o_is p_is (may_use follows facts most s xs js) refl e
  by_premises known most ps ns s new _ _ o_is p_is e = absurd (cc e)

  pub stands : (known : List NormalMade) (most : ℕ) (ps ns : List ℕ) (s : Statement) (new : List NormalMade) → used follows facts known most ps ns s ≡ Some new → Stands known most ps ns s new
  stands known most ps ns s new e =
      by_premises known most ps ns s new _ _ refl refl e
