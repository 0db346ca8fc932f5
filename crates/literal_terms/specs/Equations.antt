-- Equations of types under substitutions and one after the other, in every language.
use Rattle.std.specs.Prelude.{List, [], ◌∷◌}
use Rattle.trees.specs.declared.kind.PartKind.{PartKind}
use Rattle.trees.specs.declared.kind.PartKind.TheVariants.{Context, Subst, Term}
use Rattle.trees.specs.Language.{Language, Sb, TyEq}
use Rattle.patterns.specs.Patterns.{patterns}
use Rattle.recipes.specs.Statements.{Stated, Statement, stated}

-- An equation of types under a substitution.
abbrev equation_instance_kinds : List PartKind
equation_instance_kinds = Context ∷ Subst ∷ Context ∷ Term ∷ Term ∷ []

abbrev pub equation_instance : (L : Language) → Stated L equation_instance_kinds
equation_instance L = λ H d G A B. record {
  wants = Sb H d G ∷ TyEq G A B ∷ [];
  sides = [];
  gives = TyEq H (L.apply A d) (L.apply B d) ∷ [];
}

abbrev pub equation_instance_statement : Statement
equation_instance_statement = stated equation_instance_kinds (equation_instance patterns)

-- Two equations of types, one after the other.
abbrev equations_joined_kinds : List PartKind
equations_joined_kinds = Context ∷ Term ∷ Term ∷ Term ∷ []

abbrev pub equations_joined : (L : Language) → Stated L equations_joined_kinds
equations_joined L = λ G A B C. record {
  wants = TyEq G A B ∷ TyEq G B C ∷ [];
  sides = [];
  gives = TyEq G A C ∷ [];
}

abbrev pub equations_joined_statement : Statement
equations_joined_statement = stated equations_joined_kinds (equations_joined patterns)
