-- Terms of the empty context.
use Rattle.std.specs.Prelude.{◌≡◌, true}
use Rattle.trees.specs.Trees.{Tree}
use Rattle.trees.specs.Judgements.{Nil, trees}
use Rattle.trees.specs.Language.{Tm, TyEq}
use Rattle.rules.specs.Table.{nat}
use Rattle.book.specs.Contents.{Contents}
use Rattle.book.specs.declared.kernel.NodeId.{NodeId}
use Rattle.typed_nodes.specs.Typed.{Says}
use Rattle.literal_terms.specs.Forms.{is_literal}

abbrev pub IsNumber : Contents → NodeId → Type 0
IsNumber b node = (t : Tree) × Says b node (Tm Nil t (nat trees))

abbrev pub IsTerm : Contents → NodeId → Type 0
IsTerm b node = (t : Tree) × (A : Tree) × Says b node (Tm Nil t A)

-- a term that is literally a form
abbrev pub IsForm : Contents → NodeId → Type 0
IsForm b node = (t T : Tree) × Says b node (Tm Nil t T) × (is_literal t ≡ true)

-- the type of numbers equals itself
abbrev pub IsEquation : Contents → NodeId → Type 0
IsEquation b node = Says b node (TyEq Nil (nat trees) (nat trees))
