-- Applications with an element or more.
use Rattle.std.proofs.Common.{◌≡◌, List, [], ◌∷◌, length, refl}
use Rattle.layout_lexer.specs.declared.token.Span.{Span}
use Rattle.syntax.specs.Tree.{Tree, Apply}
use Rattle.syntax.specs.declared.exp.Element.{Element}
use Rattle.syntax.specs.View.{element_of, tree_list}
use Rattle.productions.specs.Grammar.{applied}

pub some_applied : (s : Span) (f : Tree) (xs : List Element) → (length xs ≡ 0 → ⊥) → Apply s f (tree_list element_of xs) ≡ applied s f (tree_list element_of xs)
some_applied s f [] some = absurd (some refl)
some_applied s f (x ∷ xs) some = refl
