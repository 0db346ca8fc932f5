-- What spelling a code does, said of the scope of the code.
use Rattle.std.specs.Prelude.{◌≡◌, ◌-◌, ◌≤◌, ℕ, zero, suc, List, [], ◌∷◌, ◌++◌, map}
use Rattle.std.specs.Prelude.{Option, Some, None}
use Rattle.trees.specs.Trees.{Tree, apply, shift_by}
use Rattle.trees.specs.Things.{Meanings, AContext, Kept}
use Rattle.trees.specs.Claimed.{claimed}
use Rattle.trees.specs.declared.claim.Claim.{Claim}
use Rattle.trees.specs.declared.claim.Claim.TheVariants.{Ty, Tm}
use Rattle.trees.specs.declared.op.Op.TheVariants.{Pi, Lam}
use Rattle.translation.specs.Terms.{universe}
use Rattle.translation.specs.Scopes.{Scope, Variable, Interval, Face, Definition, context_of}
use Rattle.translation.specs.Translated.{Translated, Stated, judgements_of}
use Rattle.translation.specs.Forms.{Means}
use Rattle.codes.specs.Codes.{body_of}
use Rattle.form_rows.specs.Meant.{Is, Are, nest}
use Rattle.judgement_rows.specs.declared.places.Place.{Place}
use Rattle.numbered_scope.specs.declared.numbered.Numbered.{Numbered}
use Rattle.judgement_rows.specs.declared.bodies.Body.{Body}
use Rattle.judgement_rows.specs.declared.terms.Spelling.{Spelling}
use Rattle.numbered_scope.specs.Newest.{newest}

-- what rows mean, the bodies in scope and the claims so far
pub record State : Type 0 where
  pub means : Meanings
  pub bodies : List (Numbered Body)
  pub claims : List Claim

abbrev pub state : Meanings → Spelling → State
state f s = record { means = f; bodies = s.bodies.items.items; claims = s.claims.items }

-- the number of variables and names
abbrev pub depth_of : Scope ℕ → ℕ
depth_of [] = zero
depth_of (Variable x A ∷ G) = suc (depth_of G)
depth_of (Interval i ∷ G) = suc (depth_of G)
depth_of (Face p ∷ G) = depth_of G
depth_of (Definition x t ∷ G) = depth_of G

-- the tree of a body, weakened to this depth
pub record Stands (f : Meanings) (depth : ℕ) (b : Body) (t : Tree) : Type 0 where
  pub tree : Tree
  pub row : Is f b.row tree
  pub within : b.depth ≤ depth
  pub weakened : t ≡ apply tree (shift_by (depth - b.depth))

abbrev pub StandsFor : Meanings → ℕ → Option Body → Tree → Type 0
StandsFor f depth None t = t ≡ universe
StandsFor f depth (Some b) t = Stands f depth b t

-- the state and the place are those of a code in the scope H
pub record Fits (s : State) (p : Place) (H : Scope ℕ) : Type 0 where
  pub context : s.means p.context ≡ Some (AContext (context_of H))
  pub depth : p.depth ≡ depth_of H
  pub bodies : (n : ℕ) → StandsFor s.means p.depth (newest s.bodies n) (body_of H n)

-- there is such a scope
abbrev pub FitsSome : State → Place → Type 0
FitsSome s p = (H : Scope ℕ) × Fits s p H

-- the judgements of these definitions were claimed
pub record Claims (old new : State) (ds : List (Stated ℕ)) : Type 0 where
  pub more : List Claim
  pub claims : new.claims ≡ old.claims ++ more
  pub say : map (claimed new.means) more ≡ map Some (judgements_of ds)

-- What was made stands in the relation R to what the code means.
pub record Moves (old new : State) {A : Type 0} (R : State → A → Type 0)
    (m : Translated ℕ A) : Type 0 where
  pub value : R new m.value
  pub states : Claims old new m.stated

pub record Spells (old new : State) (p : Place) {A : Type 0} (R : State → A → Type 0)
    (m : Means ℕ A) : Type 0 where
  pub kept : Kept old.means new.means
  pub bodies : new.bodies ≡ old.bodies
  pub moves : (H : Scope ℕ) → Fits old p H → Moves old new R (m H)

abbrev pub Row : ℕ → State → Tree → Type 0
Row row s t = Is s.means row t

-- A type and a body were closed over variables of these types and claimed, and the body is kept.
pub record Closed (old new : State) (p : Place) (number : ℕ) (types : List ℕ) (ty body : ℕ)
    : Type 0 where
  pub closed_ty : ℕ
  pub closed_body : ℕ
  pub ty_is : (As : List Tree) (B : Tree) → Are old.means types As → Is old.means ty B
      → Is new.means closed_ty (nest Pi As B)
  pub body_is : (As : List Tree) (b : Tree) → Are old.means types As → Is old.means body b
      → Is new.means closed_body (nest Lam As b)
  pub claims : new.claims
      ≡ old.claims ++ Ty p.context closed_ty ∷ Tm p.context closed_body closed_ty ∷ []
  pub bodies : new.bodies ≡ old.bodies
      ++ record { number = number; value = record { row = closed_body; depth = p.depth } } ∷ []
