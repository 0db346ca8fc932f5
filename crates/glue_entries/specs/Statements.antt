-- What the congruence of types of equivalences states, in every language.
use Rattle.std.specs.Prelude.{List, [], ◌∷◌}
use Rattle.trees.specs.declared.kind.PartKind.{PartKind}
use Rattle.trees.specs.declared.kind.PartKind.TheVariants.{Context, Term}
use Rattle.trees.specs.Language.{Language, Ctx, Ty, TyEq}
use Rattle.patterns.specs.Patterns.{patterns}
use Rattle.rules.specs.Table.{equiv}
use Rattle.recipes.specs.Statements.{Stated, Statement, stated}

abbrev equiv_tycong_kinds : List PartKind
equiv_tycong_kinds = Context ∷ Term ∷ Term ∷ Term ∷ Term ∷ []

abbrev pub equiv_tycong : (L : Language) → Stated L equiv_tycong_kinds
equiv_tycong L = λ G T A V B. record {
  wants = Ctx G ∷ Ty G T ∷ Ty G A ∷ Ty G V ∷ Ty G B ∷ TyEq G T V ∷ TyEq G A B ∷ [];
  sides = [];
  gives = TyEq G (equiv L T A) (equiv L V B) ∷ [];
}

abbrev pub equiv_tycong_statement : Statement
equiv_tycong_statement = stated equiv_tycong_kinds (equiv_tycong patterns)
