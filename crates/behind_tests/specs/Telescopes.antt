-- Functions of many arguments, and the contexts of these.
use Rattle.std.specs.Prelude.{◌≡◌, List, [], ◌∷◌}
use Rattle.trees.specs.Trees.{Tree, Var}
use Rattle.trees.specs.Judgements.{Context, Nil, WithVar, trees}
use Rattle.trees.specs.Language.{Ctx, Tm, Ty}
use Rattle.rules.specs.Table.{universe, weakened}
use Rattle.book.specs.Contents.{Contents}
use Rattle.book.specs.declared.kernel.NodeId.{NodeId}
use Rattle.typed_nodes.specs.declared.types.Typed.{Typed}
use Rattle.typed_nodes.specs.Typed.{IsTyped, Says}
use Rattle.behind_tests.specs.declared.telescope.Arguments.{Arguments}

-- a type, and an element of it
abbrev pub with_two : Context → Context
with_two G = WithVar (WithVar G (universe trees)) (Var 0)

-- the two variables more of G
pub record AreArguments (b : Contents) (two : Arguments) (G : Context) : Type 0 where
  pub universe_is : Says b two.universe (Ty G (universe trees))
  pub ty_is : Says b two.ty (Ty (WithVar G (universe trees)) (Var 0))
  pub ctx_is : Says b two.ctx (Ctx (with_two G))
  pub element_is : Says b two.element (Tm (with_two G) (Var 0) (weakened trees (Var 0)))

-- the variables of G are these, the last ones first
abbrev pub AreAll : Contents → List Arguments → Context → Type 0
AreAll b [] G = G ≡ Nil
AreAll b (two ∷ rest) G =
    (H : Context) × (G ≡ with_two H) × AreArguments b two H × AreAll b rest H

abbrev pub IsTerm : Contents → NodeId → Context → Type 0
IsTerm b term G = (t T : Tree) × Says b term (Tm G t T)

-- a term under those variables
abbrev pub IsUnder : Contents → List Arguments → NodeId → Type 0
IsUnder b arguments body = (G : Context) × AreAll b arguments G × IsTerm b body G

abbrev pub IsClosed : Contents → NodeId → Type 0
IsClosed b term = IsTerm b term Nil

abbrev pub IsTypedClosed : Contents → Typed → Type 0
IsTypedClosed b typed = (t T : Tree) × IsTyped b typed Nil t T
