-- What the test finds a formula or a face is one at all values of the parts.
use Rattle.std.proofs.Common.{◌≡◌, ⊎_elim, ℕ, zero, suc, ◌==◌, List, [], ◌∷◌, map, Bool, true, false, cond, refl, sym, ◌∙◌, ap, subst, Option, Some, None}
use Rattle.std.specs.Prelude.{slice_get, unwrap_or}
use Rattle.std.specs.List.{All}
use Rattle.std.proofs.lemmas.Bool.{eqb-true}
use Rattle.std.proofs.lemmas.List.Elements.{All-head, All-tail}
use Rattle.trees.specs.declared.op.Op.TheVariants as op
use Rattle.trees.specs.Language.{IsFormula, IsFace}
use Rattle.trees.specs.Trees.{Tree, apply, shift_by}
use Rattle.trees.specs.Judgements.{Context, WithName, trees}
use Rattle.substitution.specs.Action.{look}
use Rattle.substitution.proofs.ThenLaws.{apply-id}
use Rattle.patterns.specs.Values.{Parts}
use Rattle.patterns.specs.Normals.{Normal, NormalSubst, NormalContext, NVar, NMake, NPart, NoNormals, MoreNormals, NShift, NPush, NRest, same_normal}
use Rattle.patterns.specs.Fillings.{filled, filled_subst, filled_context, filled_condition}
use Rattle.patterns.specs.Tests.{NormalCondition, same_normal_context}
use Rattle.patterns.proofs.SameLaws.{both, same_normal-true, same_normal_context-true}
use Rattle.conditions.specs.Sides.{is_name, is_formula, is_face, SideHolds}
use Rattle.pattern_sides.specs.Formulas.{names_of, base_of, names_over, formula_names, face_names, formula_told, face_told, first_told, found_names, shifts_names, is_told, is_formula_in, takes, is_face_in}
use Rattle.pattern_sides.proofs.Names.{AreNames, names-rest, names-more, names-filled, name-shifted}
use Rattle.pattern_sides.proofs.UnderLaws.{TakesNames, and_true, formula-under, face-under}
use Rattle.pattern_sides.proofs.ValueLaws.{or_cases}

-- a tree that is P over the names of a context, over this base
record IsDeclared (P : Context → Tree → Bool) (base : ℕ → Bool) (t : Tree) (ms : List Bool) : Type 0 where
  context : Context
  names : AreNames base ms (is_name context)
  is : P context t ≡ true

over-base : (v : Parts trees) (P : Context → Tree → Bool) (base G : NormalContext) (t : Tree) (ms : List Bool) (b : Bool) → same_normal_context (base_of G) base ≡ b → cond b (Some (names_of G)) None ≡ Some ms → P (filled_context v G) t ≡ true → IsDeclared P (is_name (filled_context v base)) t ms
over-base v P base G t ms true same e h =
    let names : names_of G ≡ ms = cc in
    record {
      context = filled_context v G;
      names =
          subst (λ ns. AreNames (is_name (filled_context v base)) ns (is_name (filled_context v G))) names
          (subst (λ B. AreNames (is_name (filled_context v B)) (names_of G) (is_name (filled_context v G))) (same_normal_context-true (base_of G) base same) (names-filled v G));
      is = h;
    }
over-base v P base G t ms false same e h = absurd (cc e)

-- the declaration is of this part
of-part : (v : Parts trees) (P : Context → Tree → Bool) (base G : NormalContext) (k l : ℕ) (ms : List Bool) (b : Bool) → (k == l) ≡ b → cond b (names_over base G) None ≡ Some ms → P (filled_context v G) (apply (v.tree l) (shift_by 0)) ≡ true → IsDeclared P (is_name (filled_context v base)) (v.tree k) ms
of-part v P base G k l ms true same e h =
    let R : ℕ → Type 0 = λ j. IsDeclared P (is_name (filled_context v base)) (v.tree j) ms in
    subst R (sym (eqb-true k l same))
    (over-base v P base G (v.tree l) ms (same_normal_context (base_of G) base) refl e (ap (P (filled_context v G)) (sym (apply-id (v.tree l))) ∙ h))
of-part v P base G k l ms false same e h = absurd (cc e)

formula-declared : (v : Parts trees) (base : NormalContext) (k : ℕ) (c : NormalCondition) (ms : List Bool) → formula_names base k c ≡ Some ms → SideHolds (filled_condition v c) → IsDeclared is_formula (is_name (filled_context v base)) (v.tree k) ms
formula-declared v base k (IsFormula G (NPart l (NShift zero))) ms e h = of-part v is_formula base G k l ms (k == l) refl e h
formula-declared v base k _ ms e h = absurd (cc e)

face-declared : (v : Parts trees) (base : NormalContext) (k : ℕ) (c : NormalCondition) (ms : List Bool) → face_names base k c ≡ Some ms → SideHolds (filled_condition v c) → IsDeclared is_face (is_name (filled_context v base)) (v.tree k) ms
face-declared v base k (IsFace G (NPart l (NShift zero))) ms e h = of-part v is_face base G k l ms (k == l) refl e h
face-declared v base k _ ms e h = absurd (cc e)

-- the declaration is of this tree
of-tree : (v : Parts trees) (P : Context → Tree → Bool) (base G : NormalContext) (t u : Normal) (ms : List Bool) (b : Bool) → same_normal t u ≡ b → cond b (names_over base G) None ≡ Some ms → P (filled_context v G) (filled v u) ≡ true → IsDeclared P (is_name (filled_context v base)) (filled v t) ms
of-tree v P base G t u ms true same e h =
    over-base v P base G (filled v t) ms (same_normal_context (base_of G) base) refl e (ap (λ z. P (filled_context v G) (filled v z)) (same_normal-true t u same) ∙ h)
of-tree v P base G t u ms false same e h = absurd (cc e)

told-formula : (v : Parts trees) (base : NormalContext) (t : Normal) (c : NormalCondition) (ms : List Bool) → formula_told base t c ≡ Some ms → SideHolds (filled_condition v c) → IsDeclared is_formula (is_name (filled_context v base)) (filled v t) ms
told-formula v base t (IsFormula G u) ms e h = of-tree v is_formula base G t u ms (same_normal t u) refl e h
told-formula v base t _ ms e h = absurd (cc e)

told-face : (v : Parts trees) (base : NormalContext) (t : Normal) (c : NormalCondition) (ms : List Bool) → face_told base t c ≡ Some ms → SideHolds (filled_condition v c) → IsDeclared is_face (is_name (filled_context v base)) (filled v t) ms
told-face v base t (IsFace G u) ms e h = of-tree v is_face base G t u ms (same_normal t u) refl e h
told-face v base t _ ms e h = absurd (cc e)

first-told : {X : Type 0} (o rest : Option (List Bool)) (ms : List Bool) → first_told o rest ≡ Some ms → (o ≡ Some ms → X) → (rest ≡ Some ms → X) → X
first-told (Some ns) rest ms e here later = here e
first-told None rest ms e here later = later e

found-declared : (v : Parts trees) (P : Context → Tree → Bool) (base : ℕ → Bool) (t : Tree) (f : NormalCondition → Option (List Bool)) → ((c : NormalCondition) (ms : List Bool) → f c ≡ Some ms → SideHolds (filled_condition v c) → IsDeclared P base t ms) → (facts : List NormalCondition) → All SideHolds (map (filled_condition v) facts) → (ms : List Bool) → found_names f facts ≡ Some ms → IsDeclared P base t ms
found-declared v P base t f tells [] holds ms e = absurd (cc e)
found-declared v P base t f tells (c ∷ cs) holds ms e =
    first-told (f c) (found_names f cs) ms e
    (λ g. tells c ms g (All-head SideHolds (filled_condition v c) (map (filled_condition v) cs) holds))
    (λ g. found-declared v P base t f tells cs (All-tail SideHolds (filled_condition v c) (map (filled_condition v) cs) holds) ms g)

module _ (v : Parts trees) (facts : List NormalCondition) (holds : All SideHolds (map (filled_condition v) facts)) (base : NormalContext) where
  abbrev is_base_name : ℕ → Bool
  is_base_name = is_name (filled_context v base)

  told-name : (K : Context) (names : List Bool) → AreNames is_base_name names (is_name K) → (k : ℕ) (o : Option Bool) → slice_get names k ≡ o → unwrap_or o false ≡ true → is_name K k ≡ true
  told-name K names over k None e h = absurd (cc h)
  told-name K names over k (Some b) e h = over.told k b e ∙ h

  -- the substitution takes the names of each list that it is found to take
  abbrev Takes : Context → List Bool → NormalSubst → Type 0
  Takes K names s =
      (ms : List Bool) (is : ℕ → Bool) → AreNames is_base_name ms is → takes facts base names (Some ms) s ≡ true → (k : ℕ) → is k ≡ true → is_formula K (look (filled_subst v s) k) ≡ true

  part-formula : (K : Context) (names : List Bool) (k : ℕ) (s : NormalSubst) (o : Option (List Bool)) → found_names (formula_names base k) facts ≡ o → takes facts base names o s ≡ true → Takes K names s → is_formula K (apply (v.tree k) (filled_subst v s)) ≡ true
  part-formula K names k s None e h all = absurd (cc h)
  part-formula K names k s (Some ms) e h all =
      let d = found-declared v is_formula is_base_name (v.tree k) (formula_names base k) (formula-declared v base k) facts holds ms e in
      formula-under d.context K (filled_subst v s) (record { takes = all ms (is_name d.context) d.names h }) (v.tree k) d.is

  -- where the names of a declaration are names, nothing is moved
  stays : (P : Context → Tree → Bool) (t : Tree) (K : Context) (names ms : List Bool) → AreNames is_base_name names (is_name K) → (d : IsDeclared P is_base_name t ms) → shifts_names ms 0 names ≡ true → TakesNames (is_name d.context) (shift_by 0) K
  stays P t K names ms over d h = record { takes = λ k e. name-shifted is_base_name ms 0 names (is_name d.context) (is_name K) h d.names over k e }

  formula-told : (K : Context) (names : List Bool) → AreNames is_base_name names (is_name K) → (t : Normal) (o : Option (List Bool)) → found_names (formula_told base t) facts ≡ o → is_told o names ≡ true → is_formula K (filled v t) ≡ true
  formula-told K names over t None e h = absurd (cc h)
  formula-told K names over t (Some ms) e h =
      let d = found-declared v is_formula is_base_name (filled v t) (formula_told base t) (told-formula v base t) facts holds ms e in
      ap (is_formula K) (sym (apply-id (filled v t))) ∙ formula-under d.context K (shift_by 0) (stays is_formula (filled v t) K names ms over d h) (filled v t) d.is

  face-told : (K : Context) (names : List Bool) → AreNames is_base_name names (is_name K) → (t : Normal) (o : Option (List Bool)) → found_names (face_told base t) facts ≡ o → is_told o names ≡ true → is_face K (filled v t) ≡ true
  face-told K names over t None e h = absurd (cc h)
  face-told K names over t (Some ms) e h =
      let d = found-declared v is_face is_base_name (filled v t) (face_told base t) (told-face v base t) facts holds ms e in
      ap (is_face K) (sym (apply-id (filled v t))) ∙ face-under (filled v t) d.context K (shift_by 0) (stays is_face (filled v t) K names ms over d h) d.is

  mutual
    pub formula-filled : (K : Context) (names : List Bool) → AreNames is_base_name names (is_name K) → (t : Normal) → is_formula_in facts base names t ≡ true → is_formula K (filled v t) ≡ true
    formula-filled K names over (NVar k) h = told-name K names over k (slice_get names k) refl h
    formula-filled K names over (NMake op.I0 NoNormals) h = refl
    formula-filled K names over (NMake op.I1 NoNormals) h = refl
    formula-filled K names over (NMake op.Neg (MoreNormals r NoNormals)) h = formula-filled K names over r h
    formula-filled K names over (NMake op.Min (MoreNormals r (MoreNormals s NoNormals))) h =
        let f = both (is_formula_in facts base names r) (is_formula_in facts base names s) h in
        and_true _ _ (formula-filled K names over r f.0) (formula-filled K names over s f.1)
    formula-filled K names over (NMake op.Max (MoreNormals r (MoreNormals s NoNormals))) h =
        let f = both (is_formula_in facts base names r) (is_formula_in facts base names s) h in
        and_true _ _ (formula-filled K names over r f.0) (formula-filled K names over s f.1)
    formula-filled K names over (NPart k s) h =
        ⊎_elim
        (λ e. part-formula K names k s (found_names (formula_names base k) facts) refl e (λ ms is own q j f. takes-filled K names over s ms is own q j f))
        (λ e. formula-told K names over (NPart k s) (found_names (formula_told base (NPart k s)) facts) refl e)
        (or_cases (takes facts base names (found_names (formula_names base k) facts) s) _ h)
    formula-filled K names over _ h = absurd (cc h)

    pub takes-filled : (K : Context) (names : List Bool) → AreNames is_base_name names (is_name K) → (s : NormalSubst) (ms : List Bool) (is : ℕ → Bool) → AreNames is_base_name ms is → takes facts base names (Some ms) s ≡ true → (k : ℕ) → is k ≡ true → is_formula K (look (filled_subst v s) k) ≡ true
    takes-filled K names over (NShift n) ms is own h k e = name-shifted is_base_name ms n names is (is_name K) h own over k e
    takes-filled K names over (NPush s t) [] is own h k e = absurd (cc h)
    takes-filled K names over (NPush s t) (true ∷ ms) is own h zero e =
        formula-filled K names over t (both (is_formula_in facts base names t) _ h).0
    takes-filled K names over (NPush s t) (true ∷ ms) is own h (suc k) e =
        takes-filled K names over s ms (λ j. is (suc j)) (names-rest is_base_name true ms is own) (both (is_formula_in facts base names t) _ h).1 k e
    takes-filled K names over (NPush s t) (false ∷ ms) is own h zero e =
        let no : false ≡ true = sym (own.told 0 false refl) ∙ e in absurd (cc no)
    takes-filled K names over (NPush s t) (false ∷ ms) is own h (suc k) e =
        takes-filled K names over s ms (λ j. is (suc j)) (names-rest is_base_name false ms is own) h k e
    takes-filled K names over (NRest n l s) ms is own h k e = absurd (cc h)

  part-face : (K : Context) (names : List Bool) → AreNames is_base_name names (is_name K) → (k : ℕ) (s : NormalSubst) (o : Option (List Bool)) → found_names (face_names base k) facts ≡ o → takes facts base names o s ≡ true → is_face K (apply (v.tree k) (filled_subst v s)) ≡ true
  part-face K names over k s None e h = absurd (cc h)
  part-face K names over k s (Some ms) e h =
      let d = found-declared v is_face is_base_name (v.tree k) (face_names base k) (face-declared v base k) facts holds ms e in
      face-under (v.tree k) d.context K (filled_subst v s) (record { takes = takes-filled K names over s ms (is_name d.context) d.names h }) d.is

  pub face-filled : (t : Normal) (K : Context) (names : List Bool) → AreNames is_base_name names (is_name K) → is_face_in facts base names t ≡ true → is_face K (filled v t) ≡ true
  face-filled (NMake op.F0 NoNormals) K names over h = refl
  face-filled (NMake op.F1 NoNormals) K names over h = refl
  face-filled (NMake op.Eq0 (MoreNormals r NoNormals)) K names over h = formula-filled K names over r h
  face-filled (NMake op.Eq1 (MoreNormals r NoNormals)) K names over h = formula-filled K names over r h
  face-filled (NMake op.Meet (MoreNormals p (MoreNormals q NoNormals))) K names over h =
      let f = both (is_face_in facts base names p) (is_face_in facts base names q) h in
      and_true _ _ (face-filled p K names over f.0) (face-filled q K names over f.1)
  face-filled (NMake op.Join (MoreNormals p (MoreNormals q NoNormals))) K names over h =
      let f = both (is_face_in facts base names p) (is_face_in facts base names q) h in
      and_true _ _ (face-filled p K names over f.0) (face-filled q K names over f.1)
  face-filled (NMake op.All (MoreNormals p NoNormals)) K names over h =
      face-filled p (WithName K) (true ∷ names) (names-more is_base_name true names (is_name (WithName K)) (is_name K) refl (λ k. refl) over) h
  face-filled (NPart k s) K names over h =
      ⊎_elim
      (λ e. part-face K names over k s (found_names (face_names base k) facts) refl e)
      (λ e. face-told K names over (NPart k s) (found_names (face_told base (NPart k s)) facts) refl e)
      (or_cases (takes facts base names (found_names (face_names base k) facts) s) _ h)
  face-filled _ K names over h = absurd (cc h)
