-- Formulas among what was read.
use Rattle.std.proofs.Common.{◌≡◌, ◌↔◌, Bool, List, Option, Some, None, is_some, option_copied, Bor, refl, sym, ◌∙◌, ap, subst}
use Rattle.std.specs.Prelude.{IsTrue, IsSome, option_and_then}
use Rattle.trees.specs.Trees.{Tree}
use Rattle.trees.specs.Judgements.{Context}
use Rattle.trees.specs.Things.{Meanings}
use Rattle.rows.specs.Tables.{Grows}
use Rattle.closures.specs.Environments.{Waiting}
use Rattle.closures.specs.Closures.{IsClosure, closure_meaning}
use Rattle.closures.specs.declared.closure.Closure.{Closure}
use Rattle.closures.proofs.HeadLaws.{closure_meaning-grows}
use Rattle.interval.specs.declared.literals.Literal.{Literal}
use Rattle.conditions.specs.Sides.{is_formula, is_face}
use Rattle.side_conditions.specs.declared.subtree.Subtree.{Subtree}
use Rattle.side_conditions.specs.declared.reading.Reading.{Reading}
use Rattle.side_conditions.specs.declared.reading.Reading.TheVariants as reading
use Rattle.side_conditions.specs.declared.readings.Readings.{Readings}
use Rattle.side_conditions.specs.Shown.{reading_at, IsFormAt, IsFaceAt}
use Rattle.faces.specs.declared.equations.Equation.{Equation}
use Rattle.side_conditions.specs.Levels.{indices}
use Rattle.side_conditions.specs.Formulas.{IsFormOr, IsFaceOr}
use Rattle.side_conditions.specs.Readings.{Reads, form_in, face_in}
use Rattle.side_conditions.specs.Shapes.{tree_of, tree_at}
use Rattle.side_conditions.specs.Tables.{Table}
use Rattle.side_conditions.specs.Walks.{Remembers}
use Rattle.side_conditions.proofs.CombineLaws.{apart}
use Rattle.side_conditions.proofs.CombinedLaws.{formula_readable, face_readable}
use Rattle.side_conditions.proofs.WalkLaws.{root_reads}

form-read : (Valued : Type 0) → Valued → (G : Context) (t : Tree) (found : Option Reading) → Reads Valued G t found → IsFormOr G t (option_and_then form_in found)
form-read Valued v G t None unread = λ h. unread (formula_readable G t h)
form-read Valued v G t (Some (reading.Form form)) r = r.1 v
form-read Valued v G t (Some (reading.Face face)) r = λ h. apart G t h r.0

face-read : (Valued : Type 0) → Valued → (G : Context) (t : Tree) (found : Option Reading) → Reads Valued G t found → IsFaceOr G t (option_and_then face_in found)
face-read Valued v G t None unread = λ h. unread (face_readable G t h)
face-read Valued v G t (Some (reading.Form form)) r = λ h. apart G t r.0 h
face-read Valued v G t (Some (reading.Face face)) r = r.1 v

-- whether it is a formula, or a face, is told where no value is
pub formula-told : (Valued : Type 0) (G : Context) (t : Tree) (found : Option Reading) → Reads Valued G t found → IsTrue (is_some (option_and_then form_in found)) ↔ IsTrue (is_formula G t)
formula-told Valued G t None unread = (λ no. cc, λ h. absurd (unread (formula_readable G t h)))
formula-told Valued G t (Some (reading.Form form)) r = (λ yes. r.0, λ h. refl)
formula-told Valued G t (Some (reading.Face face)) r = (λ no. cc, λ h. absurd (apart G t h r.0))

pub face-told : (Valued : Type 0) (G : Context) (t : Tree) (found : Option Reading) → Reads Valued G t found → IsTrue (is_some (option_and_then face_in found)) ↔ IsTrue (is_face G t)
face-told Valued G t None unread = (λ no. cc, λ h. absurd (unread (face_readable G t h)))
face-told Valued G t (Some (reading.Form form)) r = (λ no. cc, λ h. absurd (apart G t r.0 h))
face-told Valued G t (Some (reading.Face face)) r = (λ yes. r.0, λ h. refl)

-- the form of a closure that was read, over nodes that were added since
pub form-at : (Valued : Type 0) → Valued → (f : Meanings) (known newer : List (List Waiting)) (names : List Bool) (table : Table) (root : Subtree) (c : Closure) (form : Option (List (List Literal)))
    → Grows known newer → IsClosure f known 0 c → root.closure ≡ c → root.depth ≡ 0 → Remembers Valued f newer names table → IsSome (table root)
    → ((found : Option Reading) → table root ≡ Some found → form ≡ option_and_then form_in found)
    → (G : Context) → indices G ≡ names → IsFormOr G (tree_of (closure_meaning f known c)) form
form-at Valued v f known newer names table root c form g stands is outermost remembers there exact G same = by (table root) refl there
  where
    tree_is : tree_at f newer root ≡ tree_of (closure_meaning f known c)
    tree_is = ap (λ x. tree_of (closure_meaning f newer x)) is ∙ ap tree_of (closure_meaning-grows f known newer c g stands.environment.within)

    by : (o : Option (Option Reading)) → table root ≡ o → IsSome o → IsFormOr G (tree_of (closure_meaning f known c)) form
    by None e some = cc
    by (Some found) e some =
        subst (IsFormOr G (tree_of (closure_meaning f known c))) (sym (exact found e))
        (form-read Valued v G (tree_of (closure_meaning f known c)) found
        (subst (λ t. Reads Valued G t found) tree_is (root_reads Valued f newer names table root found remembers outermost (sym e) G same)))

-- what a reading that is there tells of a tree

pub copied-some : {T : Type 0} (o : Option (Bor T)) → is_some (option_copied o) ≡ is_some o
copied-some None = refl
copied-some (Some x) = refl

module _ (Valued : Type 0) (G : Context) (t : Tree) (r : Readings) (root : Subtree) (there : IsSome (reading_at r root)) (reads : (found : Option Reading) → reading_at r root ≡ Some found → Reads Valued G t found) where
  by-reading : (P : Type 0) → ((found : Option Reading) → reading_at r root ≡ Some found → Reads Valued G t found → P) → P
  by-reading P then = by (reading_at r root) refl there
    where
      by : (o : Option (Option Reading)) → reading_at r root ≡ o → IsSome o → P
      by None e some = cc
      by (Some found) e some = then found e (reads found e)

  pub formula-accepted : (form : Option (List (List Literal))) → IsFormAt r root form → IsTrue (is_some form) ↔ IsTrue (is_formula G t)
  formula-accepted form is =
      by-reading (IsTrue (is_some form) ↔ IsTrue (is_formula G t)) λ found e reads.
      subst (λ o. IsTrue (is_some o) ↔ IsTrue (is_formula G t)) (sym (is found e)) (formula-told Valued G t found reads)

  pub face-accepted : (face : Option (List (List Equation))) → IsFaceAt r root face → IsTrue (is_some face) ↔ IsTrue (is_face G t)
  face-accepted face is =
      by-reading (IsTrue (is_some face) ↔ IsTrue (is_face G t)) λ found e reads.
      subst (λ o. IsTrue (is_some o) ↔ IsTrue (is_face G t)) (sym (is found e)) (face-told Valued G t found reads)

  pub face-or : Valued → (face : Option (List (List Equation))) → IsFaceAt r root face → IsFaceOr G t face
  face-or v face is =
      by-reading (IsFaceOr G t face) λ found e reads. subst (IsFaceOr G t) (sym (is found e)) (face-read Valued v G t found reads)
