-- What a type literally is.
use Rattle.std.specs.Prelude.{◌≡◌}
use Rattle.trees.specs.Trees.{Tree}
use Rattle.trees.specs.Judgements.{Context, trees}
use Rattle.rules.specs.Table.{pathp, pi, sig}
use Rattle.book.specs.Contents.{Contents}
use Rattle.typed_nodes.specs.Typed.{IsFamily, IsLine}
use Rattle.literal_types.specs.declared.forms.Literal.{Literal}
use Rattle.literal_types.specs.declared.forms.Literal.TheVariants as literal

-- it is no type of functions, of pairs or of paths
pub record IsNoForm (T : Tree) : Type 0 where
  pub no_pi : (A B : Tree) → T ≡ pi trees A B → ⊥
  pub no_sigma : (A B : Tree) → T ≡ sig trees A B → ⊥
  pub no_path : (A u v : Tree) → T ≡ pathp trees A u v → ⊥

-- T, in H, is that form of parts by these nodes
abbrev pub IsLiteral : Contents → Literal → Context → Tree → Type 0
IsLiteral b (literal.Pi family) H T =
    (A B : Tree) × (T ≡ pi trees A B) × IsFamily b family H A B
IsLiteral b (literal.Sigma family) H T =
    (A B : Tree) × (T ≡ sig trees A B) × IsFamily b family H A B
IsLiteral b (literal.Path line) H T =
    (A u v : Tree) × (T ≡ pathp trees A u v) × IsLine b line H A u v
IsLiteral b literal.Other H T = IsNoForm T
