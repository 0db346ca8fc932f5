-- What atoms tell of formulas and faces is so, and what the tests find at all values of the atoms.
use Rattle.std.proofs.Common.{◌≡◌, ⊎_elim, List, [], ◌∷◌, ◌++◌, Bool, true, false, ◌&&◌, ◌||◌, cond, refl, sym, ◌∙◌, ap, ap₂, Option, Some, None}
use Rattle.std.specs.Prelude.{option_map}
use Rattle.std.specs.List.{list_all, list_any}
use Rattle.trees.specs.declared.op.Op.TheVariants as op
use Rattle.trees.specs.Judgements.{trees}
use Rattle.trees.proofs.OptionLaws.{both_of_some}
use Rattle.points.specs.Values.{Value, zero_value, one_value, free_value, negation, meet, join, Valuation}
use Rattle.points.specs.Points.{Point, valuation_of, LiesOver}
use Rattle.patterns.specs.Values.{Parts}
use Rattle.patterns.specs.Normals.{Normal, NMake, NoNormals, MoreNormals, same_normal}
use Rattle.patterns.specs.Fillings.{filled}
use Rattle.patterns.proofs.SameLaws.{both, same_normal-true}
use Rattle.conditions.specs.Sides.{value, is_true}
use Rattle.pattern_sides.specs.Truths.{Told, some_meet, some_join, some_and, some_or, fails_of, holds_of, value_told, truth_told, formula_atoms, value_atoms, face_atoms, all_atoms, distinct, Entry, told, at_all, told_false, told_true, truths, point_values, is_implied, follows_from, TwoValues, two, both_value, values_over, at_point_of, over_it_of, same_bool, told_same, Instance, instances_of, is_broken, are_refuted, follows_over, are_equal, agree_over, agree_under}
use Rattle.pattern_sides.proofs.InstanceLaws.{AllGiven, all-given}
use Rattle.pattern_sides.proofs.ValueLaws.{AllTrue, point-value, IsAbove, or_cases, worth, over-value}

record MapSome {A B : Type 0} (g : A → B) (o : Option A) (y : B) : Type 0 where
  value : A
  is : o ≡ Some value
  gives : g value ≡ y

map_some : {A B : Type 0} (g : A → B) (o : Option A) (y : B) → option_map g o ≡ Some y → MapSome g o y
map_some g None y e = absurd (cc e)
map_some g (Some x) y e = record { value = x; is = refl; gives = let same : g x ≡ y = cc in same }

-- what is told is so
record TellsTrue {X : Type 0} (f : Told X) (actual : Normal → X) : Type 0 where
  tells : (t : Normal) (x : X) → f t ≡ Some x → actual t ≡ x

module _ (v : Parts trees) (val : Valuation) (f : Told Value) (right : TellsTrue f (λ t. value val (filled v t))) where
  value-told : (t : Normal) (w : Value) → value_told f t ≡ Some w → value val (filled v t) ≡ w
  value-told (NMake op.I0 NoNormals) w e = let same : zero_value ≡ w = cc in same
  value-told (NMake op.I1 NoNormals) w e = let same : one_value ≡ w = cc in same
  value-told (NMake op.Neg (MoreNormals r NoNormals)) w e =
      let m = map_some negation (value_told f r) w e in ap negation (value-told r m.value m.is) ∙ m.gives
  value-told (NMake op.Min (MoreNormals r (MoreNormals s NoNormals))) w e =
      let b = both_of_some some_meet (value_told f r) (value_told f s) w e in
      let p = b.gives in
      let same : meet b.left b.right ≡ w = cc in
      ap₂ meet (value-told r b.left b.left_is) (value-told s b.right b.right_is) ∙ same
  value-told (NMake op.Max (MoreNormals r (MoreNormals s NoNormals))) w e =
      let b = both_of_some some_join (value_told f r) (value_told f s) w e in
      let p = b.gives in
      let same : join b.left b.right ≡ w = cc in
      ap₂ join (value-told r b.left b.left_is) (value-told s b.right b.right_is) ∙ same
  value-told t w e = right.tells t w e

module _ (v : Parts trees) (x : Point) (f : Told Value) (g : Told Bool) (values : TellsTrue f (λ t. value (valuation_of x) (filled v t))) (faces_are : TellsTrue g (λ t. is_true x (filled v t))) where
  truth-told : (p : Normal) (b : Bool) → truth_told f g p ≡ Some b → is_true x (filled v p) ≡ b
  truth-told (NMake op.F0 NoNormals) b e = let same : false ≡ b = cc in same
  truth-told (NMake op.F1 NoNormals) b e = let same : true ≡ b = cc in same
  truth-told (NMake op.Eq0 (MoreNormals r NoNormals)) b e =
      let m = map_some fails_of (value_told f r) b e in ap fails_of (value-told v (valuation_of x) f values r m.value m.is) ∙ m.gives
  truth-told (NMake op.Eq1 (MoreNormals r NoNormals)) b e =
      let m = map_some holds_of (value_told f r) b e in ap holds_of (value-told v (valuation_of x) f values r m.value m.is) ∙ m.gives
  truth-told (NMake op.Meet (MoreNormals p (MoreNormals q NoNormals))) b e =
      let o = both_of_some some_and (truth_told f g p) (truth_told f g q) b e in
      let h = o.gives in
      let same : (o.left && o.right) ≡ b = cc in
      ap₂ ◌&&◌ (truth-told p o.left o.left_is) (truth-told q o.right o.right_is) ∙ same
  truth-told (NMake op.Join (MoreNormals p (MoreNormals q NoNormals))) b e =
      let o = both_of_some some_or (truth_told f g p) (truth_told f g q) b e in
      let h = o.gives in
      let same : (o.left || o.right) ≡ b = cc in
      ap₂ ◌||◌ (truth-told p o.left o.left_is) (truth-told q o.right o.right_is) ∙ same
  truth-told p b e = faces_are.tells p b e

  told-false : (p : Normal) (o : Option Bool) → truth_told f g p ≡ o → told_false o ≡ true → is_true x (filled v p) ≡ false
  told-false p (Some false) e h = truth-told p false e
  told-false p (Some true) e h = absurd (cc h)
  told-false p None e h = absurd (cc h)

  -- none of the faces that are true is told false
  none-false : (ps : List Normal) → AllTrue v x ps → list_any (λ q. told_false (truth_told f g q)) ps ≡ true → ⊥
  none-false [] all h = absurd (cc h)
  none-false (p ∷ ps) all h =
      ⊎_elim
      (λ q. let no : true ≡ false = sym all.0 ∙ told-false p (truth_told f g p) refl q in absurd (cc no))
      (λ q. none-false ps all.1 q)
      (or_cases (told_false (truth_told f g p)) _ h)

  true-told : (p : Normal) (o : Option Bool) → truth_told f g p ≡ o → told_true o ≡ true → is_true x (filled v p) ≡ true
  true-told p (Some true) e h = truth-told p true e
  true-told p (Some false) e h = absurd (cc h)
  true-told p None e h = absurd (cc h)

  -- none of these instances is told false where its `all` is told true
  none-broken : (is : List Instance) → AllGiven v x is → list_any (is_broken f g) is ≡ true → ⊥
  none-broken [] given h = absurd (cc h)
  none-broken (i ∷ is) given h =
      ⊎_elim
      (λ q.
      let t = both (told_true (truth_told f g i.of_all)) _ q in
      let yes = given.0 (true-told i.of_all (truth_told f g i.of_all) refl t.0) in
      let no : true ≡ false = sym yes ∙ told-false i.is (truth_told f g i.is) refl t.1 in
      absurd (cc no))
      (λ q. none-broken is given.1 q)
      (or_cases (is_broken f g i) _ h)

  none-refuted : (is : List Instance) (faces : List Normal) → AllGiven v x is → AllTrue v x faces → are_refuted is faces f g ≡ true → ⊥
  none-refuted is faces given all h =
      ⊎_elim (none-false faces all) (none-broken is given) (or_cases (list_any (λ q. told_false (truth_told f g q)) faces) _ h)

  implied-true : (is : List Instance) (faces : List Normal) (p : Normal) → AllGiven v x is → AllTrue v x faces → is_implied is faces p f g ≡ true → is_true x (filled v p) ≡ true
  implied-true is faces p given all h =
      ⊎_elim
      (λ q. absurd (none-refuted is faces given all q))
      (λ q. true-told p (truth_told f g p) refl q)
      (or_cases (are_refuted is faces f g) _ h)

-- at all values

-- what passes each of these passes this
abbrev IsListed : {X : Type 0} → List X → X → Type 0
IsListed {X} xs x = (p : X → Bool) → list_all p xs ≡ true → p x ≡ true

told-none : {X : Type 0} (actual : Normal → X) → TellsTrue (told []) actual
told-none actual = record { tells = λ t x e. absurd (cc e) }

told-more : {X : Type 0} (actual : Normal → X) (a : Normal) (es : List (Entry X)) → TellsTrue (told es) actual → TellsTrue (told (record { atom = a; is = actual a } ∷ es)) actual
told-more {X} actual a es right = record { tells = λ t x e. by_test t x (same_normal a t) refl e }
  where
    by_test : (t : Normal) (x : X) (b : Bool) → same_normal a t ≡ b → cond b (Some (actual a)) (told es t) ≡ Some x → actual t ≡ x
    by_test t x true same e =
        let is : actual a ≡ x = cc in ap actual (sym (same_normal-true a t same)) ∙ is
    by_test t x false same e = right.tells t x e

-- some entries that are so pass the test
record Reached {X : Type 0} (actual : Normal → X) (test : List (Entry X) → Bool) : Type 0 where
  entries : List (Entry X)
  right : TellsTrue (told entries) actual
  passes : test entries ≡ true

reached : {X : Type 0} (xs : List X) (actual : Normal → X) → ((t : Normal) → IsListed xs (actual t)) → (ts : List Normal) (es : List (Entry X)) → TellsTrue (told es) actual → (test : List (Entry X) → Bool) → at_all xs ts es test ≡ true → Reached actual test
reached xs actual listed [] es right test h = record { entries = es; right = right; passes = h }
reached xs actual listed (t ∷ ts) es right test h =
    let more = listed t (λ x. at_all xs ts (record { atom = t; is = x } ∷ es) test) h in
    reached xs actual listed ts (record { atom = t; is = actual t } ∷ es) (told-more actual t es right) test more

-- the lists of values have all there are

listed-truth : (b : Bool) → IsListed truths b
listed-truth true p h = (both (p true) _ h).0
listed-truth false p h = (both (p false) _ (both (p true) _ h).1).0

listed-point : (a b : Bool) → (a && b) ≡ false → IsListed point_values (record { holds = a; fails = b })
listed-point true true e p h = absurd (cc e)
listed-point false true e p h = (both (p zero_value) _ h).0
listed-point true false e p h = (both (p one_value) _ (both (p zero_value) _ h).1).0
listed-point false false e p h = (both (p free_value) _ (both (p one_value) _ (both (p zero_value) _ h).1).1).0

follows-over : (v : Parts trees) (x : Point) (names : List Bool) (values truth faces : List Normal) (p : Normal) → AllTrue v x faces → follows_over names values truth faces p ≡ true → is_true x (filled v p) ≡ true
follows-over v x names values truth faces p all h =
    let is = instances_of names values truth in
    let value_of : Normal → Value = λ t. value (valuation_of x) (filled v t) in
    let truth_of : Normal → Bool = λ t. is_true x (filled v t) in
    let vs = reached point_values value_of (λ t. listed-point (value_of t).holds (value_of t).fails (point-value x (filled v t))) values [] (told-none value_of) (λ vs. at_all truths truth [] (λ ts. is_implied is faces p (told vs) (told ts))) h in
    let ts = reached truths truth_of (λ t. listed-truth (truth_of t)) truth [] (told-none truth_of) (λ ts. is_implied is faces p (told vs.entries) (told ts)) vs.passes in
    implied-true v x (told vs.entries) (told ts.entries) vs.right ts.right is faces p (all-given v x _ truth) all ts.passes

pub follows-true : (v : Parts trees) (x : Point) (names : List Bool) (faces : List Normal) (p : Normal) → AllTrue v x faces → follows_from names faces p ≡ true → is_true x (filled v p) ≡ true
follows-true v x names faces p all h =
    follows-over v x names (distinct (all_atoms value_atoms (p ∷ faces))) (distinct (all_atoms face_atoms (p ∷ faces))) faces p all h

-- two values

all_six : (p : TwoValues → Bool) → list_all p values_over ≡ true → (w : Value) → (p (two zero_value zero_value) ≡ true) × (p (two one_value one_value) ≡ true) × (p (two free_value w) ≡ true)
all_six p h w =
    let a = both (p (two zero_value zero_value)) _ h in
    let b = both (p (two one_value one_value)) _ a.1 in
    let c = both (p (two free_value zero_value)) _ b.1 in
    let d = both (p (two free_value one_value)) _ c.1 in
    let e = both (p (two free_value free_value)) _ d.1 in
    let f = both (p (two free_value both_value)) _ e.1 in
    (a.0, b.0, of_free w.holds w.fails c.0 d.0 e.0 f.0)
  where
    of_free : (a b : Bool) → p (two free_value zero_value) ≡ true → p (two free_value one_value) ≡ true → p (two free_value free_value) ≡ true → p (two free_value both_value) ≡ true → p (two free_value (record { holds = a; fails = b })) ≡ true
    of_free true true c d e f = f
    of_free true false c d e f = d
    of_free false true c d e f = c
    of_free false false c d e f = e

listed-two : (a b : Bool) (w : Value) → (a && b) ≡ false → IsAbove (record { holds = a; fails = b }) w → IsListed values_over (two (record { holds = a; fails = b }) w)
listed-two true true w e above p h = absurd (cc e)
listed-two true false w e above p h = ap (λ z. p (two one_value z)) (above.if_one refl) ∙ (all_six p h w).1
listed-two false true w e above p h = ap (λ z. p (two zero_value z)) (above.if_zero refl) ∙ (all_six p h w).0
listed-two false false w e above p h = (all_six p h w).2

same_bool-true : (a b : Bool) → same_bool a b ≡ true → a ≡ b
same_bool-true true true h = refl
same_bool-true false false h = refl
same_bool-true true false h = absurd (cc h)
same_bool-true false true h = absurd (cc h)

same-told : (v : Parts trees) (val : Valuation) (f : Told Value) → TellsTrue f (λ t. value val (filled v t)) → (r s : Normal) (o p : Option Value) → value_told f r ≡ o → value_told f s ≡ p → told_same o p ≡ true → value val (filled v r) ≡ value val (filled v s)
same-told v val f right r s (Some a) (Some b) o_is p_is h =
    let q = both (same_bool a.holds b.holds) _ h in
    let same : a ≡ b = ap₂ worth (same_bool-true a.holds b.holds q.0) (same_bool-true a.fails b.fails q.1) in
    value-told v val f right r a o_is ∙ same ∙ sym (value-told v val f right s b p_is)
same-told v val f right r s _ _ o_is p_is h = absurd (cc h)

of-two : (actual : Normal → TwoValues) (part : TwoValues → Value) (f : Told TwoValues) → TellsTrue f actual → TellsTrue (λ t. option_map part (f t)) (λ t. part (actual t))
of-two actual part f right = record { tells = λ t w e. let m = map_some part (f t) w e in ap part (right.tells t m.value m.is) ∙ m.gives }

agree-over : (v : Parts trees) (x : Point) (val : Valuation) → LiesOver x val → (names : List Bool) (values truth faces : List Normal) (r s : Normal) → AllTrue v x faces → agree_over names values truth faces r s ≡ true → value val (filled v r) ≡ value val (filled v s)
agree-over v x val over names values truth faces r s all h =
    let is = instances_of names values truth in
    let value_of : Normal → TwoValues = λ t. two (value (valuation_of x) (filled v t)) (value val (filled v t)) in
    let truth_of : Normal → Bool = λ t. is_true x (filled v t) in
    let vs = reached values_over value_of (λ t. listed-two (value_of t).at_point.holds (value_of t).at_point.fails (value_of t).over_it (point-value x (filled v t)) (over-value x val over (filled v t))) values [] (told-none value_of) (λ vs. at_all truths truth [] (λ ts. are_equal is faces r s (told vs) (told ts))) h in
    let ts = reached truths truth_of (λ t. listed-truth (truth_of t)) truth [] (told-none truth_of) (λ ts. are_equal is faces r s (told vs.entries) (told ts)) vs.passes in
    let f = at_point_of (told vs.entries) in
    let g = over_it_of (told vs.entries) in
    let points = of-two value_of (λ w. w.at_point) (told vs.entries) vs.right in
    let overs = of-two value_of (λ w. w.over_it) (told vs.entries) vs.right in
    ⊎_elim
    (λ q. absurd (none-refuted v x f (told ts.entries) points ts.right is faces (all-given v x _ truth) all q))
    (λ q. same-told v val g overs r s (value_told g r) (value_told g s) refl refl q)
    (or_cases (are_refuted is faces f (told ts.entries)) _ ts.passes)

pub agree-same : (v : Parts trees) (x : Point) (val : Valuation) → LiesOver x val → (names : List Bool) (faces : List Normal) (r s : Normal) → AllTrue v x faces → agree_under names faces r s ≡ true → value val (filled v r) ≡ value val (filled v s)
agree-same v x val over names faces r s all h =
    agree-over v x val over names (distinct (formula_atoms r ++ (formula_atoms s ++ all_atoms value_atoms faces))) (distinct (all_atoms face_atoms faces)) faces r s all h
