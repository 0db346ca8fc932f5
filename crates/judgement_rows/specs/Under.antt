-- Binders, as the trees of their types and the scope under them.
use Rattle.std.specs.Prelude.{ℕ, zero, suc, List, [], ◌∷◌, ◌++◌}
use Rattle.trees.specs.Trees.{Tree}
use Rattle.translation.specs.Terms.{lifted}
use Rattle.translation.specs.Scopes.{Scope, Variable, Interval}
use Rattle.translation.specs.Translated.{done, ◌>>=◌}
use Rattle.translation.specs.Forms.{Means}
use Rattle.codes.specs.declared.code.Binder.{Binder}
use Rattle.codes.specs.Codes.{meaning}
use Rattle.judgement_rows.specs.Places.{copies}

-- under so many names
abbrev pub intervals : ℕ → Scope ℕ → Scope ℕ
intervals zero H = H
intervals (suc n) H = intervals n (Interval 0 ∷ H)

-- under so many variables of the type A, which stands before them all
abbrev pub variables : ℕ → Tree → Scope ℕ → Scope ℕ
variables zero A H = H
variables (suc n) A H = variables n (lifted A) (Variable 0 A ∷ H)

-- the types of the variables of binders, the outermost first, and the scope under them
abbrev pub entered : List Binder → Means ℕ (List Tree × Scope ℕ)
entered [] G = done ([], G)
entered (b ∷ bs) G = do
  A ← meaning b.ty G
  e ← entered bs (variables b.names A G)
  done (copies b.names A ++ e.0, e.1)

abbrev pub folded : {B : Type 0} → (Tree → B → B) → List Tree → B → B
folded make [] b = b
folded make (A ∷ As) b = make A (folded make As b)
