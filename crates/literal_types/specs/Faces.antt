-- Contexts and substitutions past a face, in every language.
use Rattle.std.specs.Prelude.{List, [], ◌∷◌}
use Rattle.trees.specs.declared.kind.PartKind.{PartKind}
use Rattle.trees.specs.declared.kind.PartKind.TheVariants.{Context, Subst, Term}
use Rattle.trees.specs.Language.{Language, Ctx, Sb, IsFace}
use Rattle.patterns.specs.Patterns.{patterns}
use Rattle.recipes.specs.Statements.{Stated, Statement, stated}

-- A context with one more face.
abbrev with_face_kinds : List PartKind
with_face_kinds = Term ∷ Context ∷ []

abbrev pub with_face : (L : Language) → Stated L with_face_kinds
with_face L = λ p H. record {
  wants = Ctx H ∷ [];
  sides = IsFace H p ∷ [];
  gives = Ctx (L.with_face H p) ∷ [];
}

abbrev pub with_face_statement : Statement
with_face_statement = stated with_face_kinds (with_face patterns)

-- A substitution from past one more face.
abbrev past_face_kinds : List PartKind
past_face_kinds = Term ∷ Context ∷ Subst ∷ Context ∷ []

abbrev pub past_face : (L : Language) → Stated L past_face_kinds
past_face L = λ p H d G. record {
  wants = Sb H d G ∷ [];
  sides = IsFace H p ∷ [];
  gives = Sb (L.with_face H p) d G ∷ [];
}

abbrev pub past_face_statement : Statement
past_face_statement = stated past_face_kinds (past_face patterns)
