-- What is in sight in a context or a type.
use Rattle.std.specs.Prelude.{◌≡◌, None}
use Rattle.trees.specs.Trees.{Tree}
use Rattle.trees.specs.Judgements.{Context, WithVar, WithName, Judgement, trees}
use Rattle.trees.specs.Language.{Ctx, Ty, Tm}
use Rattle.rules.specs.Table.{at, i0, i1}
use Rattle.presuppositions.specs.declared.source.Label.{Label}
use Rattle.presuppositions.specs.declared.source.Label.TheVariants as label
use Rattle.presuppositions.specs.Behind.{behind}

-- the type of the last entry, and what is before an entry without a type
abbrev pub IsInSight : Label → Context → Type 0
IsInSight label.Type G = Unit {0}
IsInSight label.Context G = behind label.Type (Ctx G) ≡ None
IsInSight _ G = ⊥

-- J is the part with that label of a type of functions or pairs, or of paths, in G

abbrev pub FamilyHas : Label → Context → Tree → Tree → Judgement → Type 0
FamilyHas label.Domain G A B J = J ≡ Ty G A
FamilyHas label.Codomain G A B J = J ≡ Ty (WithVar G A) B
FamilyHas _ G A B J = ⊥

abbrev pub LineHas : Label → Context → Tree → Tree → Tree → Judgement → Type 0
LineHas label.Line G A u v J = J ≡ Ty (WithName G) A
LineHas label.LeftEnd G A u v J = J ≡ Tm G u (at trees A (i0 trees))
LineHas label.RightEnd G A u v J = J ≡ Tm G v (at trees A (i1 trees))
LineHas _ G A u v J = ⊥
