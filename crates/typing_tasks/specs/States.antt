-- States of trees: what a checker knows at a place, and what it found.
use Rattle.std.specs.Prelude.{ℕ, zero, suc, List, [], ◌∷◌, ◌++◌, Option, None, Some}
use Rattle.trees.specs.Trees.{Tree}
use Rattle.trees.specs.Judgements.{Context, Judgement}
use Rattle.translation.specs.Scopes.{context_of}
use Rattle.translation.specs.Translated.{Stated}
use Rattle.translation.specs.Forms.{Means}
use Rattle.direct.specs.Known.{Entry, Known, Variable, Interval, Definition, scope_of}

-- a term that was inferred, with its type
pub record Inferred : Type 0 where
  pub context : Context
  pub term : Tree
  pub type : Tree

-- What is known at the place; what was found, and what was inferred, the last first; and the
-- definitions that were stated, in order.
pub record State : Type 0 where
  pub known : Known
  pub found : List Judgement
  pub inferred : List Inferred
  pub stated : List (Stated ℕ)

abbrev pub place_of : Known → Context
place_of G = context_of (scope_of G)

abbrev pub place : State → Context
place S = place_of S.known

abbrev pub with_known : Known → State → State
with_known G S =
    record { known = G; found = S.found; inferred = S.inferred; stated = S.stated }

abbrev pub with_found : List Judgement → State → State
with_found js S =
    record { known = S.known; found = js; inferred = S.inferred; stated = S.stated }

abbrev pub with_inferred : List Inferred → State → State
with_inferred rs S = record { known = S.known; found = S.found; inferred = rs; stated = S.stated }

abbrev pub with_stated : List (Stated ℕ) → State → State
with_stated ds S =
    record { known = S.known; found = S.found; inferred = S.inferred; stated = S.stated ++ ds }

-- one more judgement is found
abbrev pub finding : Judgement → State → State
finding J S = with_found (J ∷ S.found) S

-- one more term of the place is inferred
abbrev pub inferring : Tree → Tree → State → State
inferring a A S =
    with_inferred (record { context = place S; term = a; type = A } ∷ S.inferred) S

-- the place is under one more entry
abbrev pub under : Entry → State → State
under x S = with_known (x ∷ S.known) S

abbrev pub nothing : State
nothing = record { known = []; found = []; inferred = []; stated = [] }

-- one more definition is stated, and known
abbrev pub stating : ℕ → Tree → Tree → State → State
stating n A t S =
    let d : Stated ℕ = record { name = n; context = place S; type = A; body = t } in
    under (Definition n t A) (with_stated (d ∷ []) S)

-- what a text at the place states
abbrev pub stated_at : {A : Type 0} → Known → Means ℕ A → List (Stated ℕ)
stated_at G m = (m (scope_of G)).stated

-- the state after a text at the place
abbrev pub after : {A : Type 0} → Means ℕ A → State → State
after m S = with_stated (stated_at S.known m) S

-- without the last so many definitions
abbrev pub forgetting : ℕ → Known → Option Known
forgetting zero G = Some G
forgetting (suc n) (Definition m t A ∷ G) = forgetting n G
forgetting (suc n) (Variable A ∷ G) = None
forgetting (suc n) (Interval ∷ G) = None
forgetting (suc n) [] = None
