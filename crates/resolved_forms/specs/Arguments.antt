-- The argument that stands first among what a head is applied to.
use Rattle.std.specs.Prelude.{◌≡◌, List, ◌∷◌, Option, Some, None}
use denote.Ref.{Bor}
use Rattle.syntax.specs.declared.exp.Exp.{Exp}
use Rattle.syntax.specs.declared.exp.Element.{Element, Argument as Argument'}

-- the argument and what stands behind it; none where no argument stands first
abbrev pub Leads : List Element → Option (Bor Exp × Bor (List Element)) → Type 0
Leads es (Some found) = es ≡ Argument' found.0.now ∷ found.1.now
Leads es None = (e : Exp) (rest : List Element) → es ≡ Argument' e ∷ rest → ⊥
