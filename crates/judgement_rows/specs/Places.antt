-- Places of codes, further in than others.
use Rattle.std.specs.Prelude.{◌≡◌, ◌+◌, ℕ, zero, suc, List, [], ◌∷◌, ◌++◌, Some}
use Rattle.trees.specs.Trees.{Tree}
use Rattle.trees.specs.Judgements.{Context, WithVar, WithName, WithFace}
use Rattle.trees.specs.Things.{Meanings, AContext}
use Rattle.translation.specs.Terms.{lifted}
use Rattle.codes.specs.declared.formula.Equation.{Equation}
use Rattle.form_rows.specs.Meant.{Is, Are}
use Rattle.form_rows.specs.Formulas.{face_tree}
use Rattle.judgement_rows.specs.declared.places.Place.{Place}
use Rattle.judgement_rows.specs.declared.places.Faced.{Faced}
use Rattle.judgement_rows.specs.declared.places.Under.{Under}

-- one variable, name or face further in

pub record OpenedIn (f g : Meanings) (p : Place) (ty : ℕ) (q : Place) : Type 0 where
  pub context : (G : Context) (A : Tree) → f p.context ≡ Some (AContext G) → Is f ty A
      → g q.context ≡ Some (AContext (WithVar G A))
  pub depth : q.depth ≡ p.depth + 1

pub record NamedIn (f g : Meanings) (p q : Place) : Type 0 where
  pub context : (G : Context) → f p.context ≡ Some (AContext G)
      → g q.context ≡ Some (AContext (WithName G))
  pub depth : q.depth ≡ p.depth + 1

pub record FacedIn (f g : Meanings) (p : Place) (face : ℕ) (q : Place) : Type 0 where
  pub context : (G : Context) (t : Tree) → f p.context ≡ Some (AContext G) → Is f face t
      → g q.context ≡ Some (AContext (WithFace G t))
  pub depth : q.depth ≡ p.depth

-- the face of equations, and the place where they hold
pub record HoldIn (f g : Meanings) (p : Place) (es : List Equation) (q : Faced) : Type 0 where
  pub face : Is g q.face (face_tree es)
  pub context : (G : Context) → f p.context ≡ Some (AContext G)
      → g q.place.context ≡ Some (AContext (WithFace G (face_tree es)))
  pub depth : q.place.depth ≡ p.depth

-- under so many names

abbrev pub with_names : ℕ → Context → Context
with_names zero G = G
with_names (suc n) G = with_names n (WithName G)

pub record AllNamedIn (f g : Meanings) (p : Place) (n : ℕ) (q : Place) : Type 0 where
  pub context : (G : Context) → f p.context ≡ Some (AContext G)
      → g q.context ≡ Some (AContext (with_names n G))
  pub depth : q.depth ≡ p.depth + n

-- under so many variables of one type, which stands before them all

abbrev pub copies : ℕ → Tree → List Tree
copies zero A = []
copies (suc n) A = A ∷ copies n (lifted A)

abbrev pub with_variables : ℕ → Tree → Context → Context
with_variables zero A G = G
with_variables (suc n) A G = with_variables n (lifted A) (WithVar G A)

pub record BoundIn (f g : Meanings) (p q : Under) (ty n : ℕ) : Type 0 where
  pub more : List ℕ
  pub types : q.types.items ≡ p.types.items ++ more
  pub are : (A : Tree) → Is f ty A → Are g more (copies n A)
  pub context : (G : Context) (A : Tree) → f p.place.context ≡ Some (AContext G) → Is f ty A
      → g q.place.context ≡ Some (AContext (with_variables n A G))
  pub depth : q.place.depth ≡ p.place.depth + n
