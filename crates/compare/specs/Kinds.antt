-- The kinds of what the rows of a claim mean.
use Rattle.std.specs.Prelude.{◌≡◌, ℕ, List, [], ◌∷◌, IsSome}
use Rattle.trees.specs.declared.kind.PartKind.{PartKind}
use Rattle.trees.specs.declared.claim.JudgementForm.{JudgementForm}
use Rattle.trees.specs.declared.claim.Claim.{Claim}
use Rattle.trees.specs.Claims.{form_of, rows_of}
use Rattle.trees.specs.Things.{Meanings}
use Rattle.trees.specs.Claimed.{claimed}
use Rattle.rows.specs.Views.{IsOfKind}

-- there are as many kinds as rows, and each row means a thing of its kind
abbrev pub AreOfKinds : Meanings → List PartKind → List ℕ → Type 0
AreOfKinds f [] [] = Unit {0}
AreOfKinds f (kind ∷ kinds) (row ∷ rows) = IsOfKind kind (f row) × AreOfKinds f kinds rows
AreOfKinds f _ _ = ⊥

-- the rows of each claim of the form that means a judgement mean things of these kinds
abbrev pub AreKindsOf : JudgementForm → List PartKind → Type 0
AreKindsOf form kinds = (f : Meanings) (claim : Claim) → form_of claim ≡ form →
    IsSome (claimed f claim) → AreOfKinds f kinds (rows_of claim)
