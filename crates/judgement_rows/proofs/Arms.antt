-- Operators over codes that were spelt one after another.
use Rattle.std.proofs.Common.{◌≡◌, ℕ, List, [], ◌∷◌, IsSome, refl, sym}
use Rattle.std.specs.Prelude.{option_and_then}
use Rattle.trees.specs.declared.op.Op.{Op}
use Rattle.trees.specs.declared.op.Op.TheVariants as op
use Rattle.trees.specs.Operators.{kids_of}
use Rattle.trees.specs.Trees.{Tree, Make, trees_of}
use Rattle.trees.specs.Things.{Meanings, Kept, meanings, made}
use Rattle.translation.specs.Terms.{comp, glue_type, glue, unglue, f0, empty}
use Rattle.translation.specs.Systems.{On, cover, body, line_body, filling}
use Rattle.translation.specs.Translated.{done, ◌>>=◌}
use Rattle.translation.specs.Forms.{Means, types, equivalences}
use Rattle.form_rows.specs.Meant.{Is}
use Rattle.form_rows.proofs.RowLaws.{kept_then, is_kept, are_none, are_one, are_three, are_four, is_made, may_make}
use Rattle.judgement_rows.specs.declared.places.Place.{Place}
use Rattle.judgement_rows.specs.declared.systems.System.{System}
use Rattle.judgement_rows.specs.declared.systems.PairSystem.{PairSystem}
use Rattle.judgement_rows.specs.Steps.{State, FitsSome, Spells, Row}
use Rattle.judgement_rows.specs.Words.{IsSystem, IsLineSystem, IsPairSystem}
use Rattle.judgement_rows.proofs.Moving.{Makes, given, some_after}
use Rattle.judgement_rows.proofs.FormSteps.{spells_map, spells_two, spells_three, spells_four}

-- the same state, with more rows
abbrev pub with_rows : State → Meanings → State
with_rows s f = record { means = f; bodies = s.bodies; claims = s.claims }

pub more_rows : {s : State} {f : Meanings} → Kept s.means f → Makes s (with_rows s f)
more_rows k = record { kept = k; bodies = refl; claims = refl }

module _ {s t : State} {p : Place} {f : Means ℕ Tree} {a : ℕ} (first : Spells s t p (Row a) f) where
  pub one_fits_here : (o : Op) → kids_of o ≡ 1 → FitsSome s p → IsSome (option_and_then (made o) (meanings t.means (a ∷ [])))
  one_fits_here o e h = may_make o (sym e) (are_one (given h first).1)

  pub one_made : {g : Meanings} {r : ℕ} (o : Op) → kids_of o ≡ 1 → Kept t.means g → g r ≡ option_and_then (made o) (meanings t.means (a ∷ []))
      → Spells s (with_rows t g) p (Row r) (λ H. f H >>= λ x. done (Make o (trees_of (x ∷ []))))
  one_made o e k made_is = spells_map (λ x. Make o (trees_of (x ∷ []))) first (more_rows k) (λ x h. is_made o (sym e) (are_one h) made_is)

  module _ {u : State} {g : Means ℕ Tree} {b : ℕ} (second : Spells t u p (Row b) g) where
    module _ {v : State} {h : Means ℕ Tree} {c : ℕ} (third : Spells u v p (Row c) h) where
      pub three_fit_here : (o : Op) → kids_of o ≡ 3 → FitsSome s p → IsSome (option_and_then (made o) (meanings v.means (a ∷ b ∷ c ∷ [])))
      three_fit_here o e fit = may_make o (sym e) (are_three
          (is_kept (kept_then second.kept third.kept) (given fit first).1)
          (is_kept third.kept (given (some_after fit first) second).1)
          (given (some_after (some_after fit first) second) third).1)

      pub three_made : {m : Meanings} {r : ℕ} (o : Op) → kids_of o ≡ 3 → Kept v.means m → m r ≡ option_and_then (made o) (meanings v.means (a ∷ b ∷ c ∷ []))
          → Spells s (with_rows v m) p (Row r) (λ H. f H >>= λ x. g H >>= λ y. h H >>= λ z. done (Make o (trees_of (x ∷ y ∷ z ∷ []))))
      three_made o e k made_is = spells_three (λ x y z. Make o (trees_of (x ∷ y ∷ z ∷ []))) first second third (more_rows k)
          (λ x y z i j l. is_made o (sym e) (are_three (is_kept (kept_then second.kept third.kept) i) (is_kept third.kept j) l) made_is)

      module _ {w : State} {i : Means ℕ Tree} {d : ℕ} (fourth : Spells v w p (Row d) i) where
        pub four_fit_here : (o : Op) → kids_of o ≡ 4 → FitsSome s p → IsSome (option_and_then (made o) (meanings w.means (a ∷ b ∷ c ∷ d ∷ [])))
        four_fit_here o e fit = may_make o (sym e) (are_four
            (is_kept (kept_then second.kept (kept_then third.kept fourth.kept)) (given fit first).1)
            (is_kept (kept_then third.kept fourth.kept) (given (some_after fit first) second).1)
            (is_kept fourth.kept (given (some_after (some_after fit first) second) third).1)
            (given (some_after (some_after (some_after fit first) second) third) fourth).1)

        pub four_made : {m : Meanings} {r : ℕ} (o : Op) → kids_of o ≡ 4 → Kept w.means m → m r ≡ option_and_then (made o) (meanings w.means (a ∷ b ∷ c ∷ d ∷ []))
            → Spells s (with_rows w m) p (Row r) (λ H. f H >>= λ x. g H >>= λ y. h H >>= λ z. i H >>= λ q. done (Make o (trees_of (x ∷ y ∷ z ∷ q ∷ []))))
        four_made o e k made_is = spells_four (λ x y z q. Make o (trees_of (x ∷ y ∷ z ∷ q ∷ []))) first second third fourth (more_rows k)
            (λ x y z q i' j l n. is_made o (sym e) (are_four (is_kept (kept_then second.kept (kept_then third.kept fourth.kept)) i') (is_kept (kept_then third.kept fourth.kept) j) (is_kept fourth.kept l) n) made_is)

    -- compositions without sides
    module _ {f' g' : Meanings} {c b' : ℕ} (cover_kept : Kept u.means f') (cover_is : f' c ≡ option_and_then (made op.F0) (meanings u.means [])) (body_kept : Kept f' g')
        (body_is : g' b' ≡ option_and_then (made op.Empty) (meanings f' [])) where
      covers : Is g' c (Make op.F0 (trees_of []))
      covers = is_kept body_kept (is_made op.F0 refl (are_none u.means) cover_is)

      holds : Is g' b' (Make op.Empty (trees_of []))
      holds = is_made op.Empty refl (are_none f') body_is

      later : Kept u.means g'
      later = kept_then cover_kept body_kept

      pub transport_fits : FitsSome s p → IsSome (option_and_then (made op.Comp) (meanings g' (a ∷ c ∷ b' ∷ b ∷ [])))
      transport_fits fit =
          may_make op.Comp refl (are_four (is_kept (kept_then second.kept later) (given fit first).1) covers holds (is_kept later (given (some_after fit first) second).1))

      pub transport_made : {m : Meanings} {r : ℕ} → Kept g' m → m r ≡ option_and_then (made op.Comp) (meanings g' (a ∷ c ∷ b' ∷ b ∷ []))
          → Spells s (with_rows u m) p (Row r) (λ H. f H >>= λ A. g H >>= λ t. done (comp A f0 empty t))
      transport_made k made_is = spells_two (λ A t. comp A f0 empty t) first second (more_rows (kept_then later k))
          (λ A t i j. is_made op.Comp refl (are_four (is_kept (kept_then second.kept later) i) covers holds (is_kept later j)) made_is)

    -- compositions
    module _ {v : State} {S : Means ℕ (List (On Tree))} {y : System} (third : Spells u v p (IsLineSystem y) S) where
      pub comp_fits : FitsSome s p → IsSome (option_and_then (made op.Comp) (meanings v.means (a ∷ y.cover ∷ y.body ∷ b ∷ [])))
      comp_fits fit =
          let sys = given (some_after (some_after fit first) second) third in
          may_make op.Comp refl (are_four (is_kept (kept_then second.kept third.kept) (given fit first).1) sys.1.cover sys.1.body (is_kept third.kept (given (some_after fit first) second).1))

      pub comp_made : {m : Meanings} {r : ℕ} → Kept v.means m → m r ≡ option_and_then (made op.Comp) (meanings v.means (a ∷ y.cover ∷ y.body ∷ b ∷ []))
          → Spells s (with_rows v m) p (Row r) (λ H. f H >>= λ A. g H >>= λ t. S H >>= λ ss. done (comp A (cover ss) (line_body ss) t))
      comp_made k made_is = spells_three (λ A t ss. comp A (cover ss) (line_body ss) t) first second third (more_rows k)
          (λ A t ss i j z. is_made op.Comp refl (are_four (is_kept (kept_then second.kept third.kept) i) z.cover z.body (is_kept third.kept j)) made_is)

      pub fill_made : {m : Meanings} {r : ℕ} → Kept v.means m → ((A q b' t' : Tree) → Is v.means a A → Is v.means y.cover q → Is v.means y.body b' → Is v.means b t' → Is m r (filling A q b' t'))
          → Spells s (with_rows v m) p (Row r) (λ H. f H >>= λ A. g H >>= λ t. S H >>= λ ss. done (filling A (cover ss) (line_body ss) t))
      fill_made k made_is = spells_three (λ A t ss. filling A (cover ss) (line_body ss) t) first second third (more_rows k)
          (λ A t ss i j z. made_is A (cover ss) (line_body ss) t (is_kept (kept_then second.kept third.kept) i) z.cover z.body (is_kept third.kept j))

  -- glueing
  module _ {u : State} {S : Means ℕ (List (On (Tree × Tree)))} {y : PairSystem} (second : Spells t u p (IsPairSystem y) S) where
    pub glue_type_fits : FitsSome s p → IsSome (option_and_then (made op.GlueType) (meanings u.means (a ∷ y.cover ∷ y.types ∷ y.equivalences ∷ [])))
    glue_type_fits fit =
        let sides = given (some_after fit first) second in
        may_make op.GlueType refl (are_four (is_kept second.kept (given fit first).1) sides.1.cover sides.1.types sides.1.equivalences)

    pub unglue_fits : FitsSome s p → IsSome (option_and_then (made op.Unglue) (meanings u.means (y.cover ∷ y.types ∷ y.equivalences ∷ a ∷ [])))
    unglue_fits fit =
        let sides = given (some_after fit first) second in
        may_make op.Unglue refl (are_four sides.1.cover sides.1.types sides.1.equivalences (is_kept second.kept (given fit first).1))

    pub glue_type_made : {m : Meanings} {r : ℕ} → Kept u.means m → m r ≡ option_and_then (made op.GlueType) (meanings u.means (a ∷ y.cover ∷ y.types ∷ y.equivalences ∷ []))
        → Spells s (with_rows u m) p (Row r) (λ H. f H >>= λ A. S H >>= λ ss. done (glue_type A (cover ss) (body (types ss)) (body (equivalences ss))))
    glue_type_made k made_is = spells_two (λ A ss. glue_type A (cover ss) (body (types ss)) (body (equivalences ss))) first second (more_rows k)
        (λ A ss i z. is_made op.GlueType refl (are_four (is_kept second.kept i) z.cover z.types z.equivalences) made_is)

    pub unglue_made : {m : Meanings} {r : ℕ} → Kept u.means m → m r ≡ option_and_then (made op.Unglue) (meanings u.means (y.cover ∷ y.types ∷ y.equivalences ∷ a ∷ []))
        → Spells s (with_rows u m) p (Row r) (λ H. f H >>= λ b. S H >>= λ ss. done (unglue (cover ss) (body (types ss)) (body (equivalences ss)) b))
    unglue_made k made_is = spells_two (λ b ss. unglue (cover ss) (body (types ss)) (body (equivalences ss)) b) first second (more_rows k)
        (λ b ss i z. is_made op.Unglue refl (are_four z.cover z.types z.equivalences (is_kept second.kept i)) made_is)

  module _ {u : State} {S : Means ℕ (List (On Tree))} {y : System} (second : Spells t u p (IsSystem y) S) where
    pub glue_fits : FitsSome s p → IsSome (option_and_then (made op.Glue) (meanings u.means (y.cover ∷ y.body ∷ a ∷ [])))
    glue_fits fit =
        let sides = given (some_after fit first) second in
        may_make op.Glue refl (are_three sides.1.cover sides.1.body (is_kept second.kept (given fit first).1))

    pub glue_made : {m : Meanings} {r : ℕ} → Kept u.means m → m r ≡ option_and_then (made op.Glue) (meanings u.means (y.cover ∷ y.body ∷ a ∷ []))
        → Spells s (with_rows u m) p (Row r) (λ H. f H >>= λ b. S H >>= λ ss. done (glue (cover ss) (body ss) b))
    glue_made k made_is = spells_two (λ b ss. glue (cover ss) (body ss) b) first second (more_rows k)
        (λ b ss i z. is_made op.Glue refl (are_three z.cover z.body (is_kept second.kept i)) made_is)
