-- Questions, and of what they may be asked.
use Rattle.std.specs.Prelude.{◌≡◌, ◌≤◌, true, Some}
use Rattle.trees.specs.Trees.{Tree}
use Rattle.trees.specs.Judgements.{Context, Judgement}
use Rattle.trees.specs.Language.{Ty, TyEq, Tm, TmEq}
use Rattle.book.specs.Contents.{Contents}
use Rattle.book.specs.Nodes.{Node}
use Rattle.book.specs.Shown.{book_nodes}
use Rattle.book.specs.declared.kernel.NodeId.{NodeId}
use Rattle.typed_nodes.specs.Typed.{Says}
use Rattle.presuppositions.specs.declared.source.Label.TheVariants as label
use Rattle.presuppositions.specs.Behind.{behind}
use Rattle.presuppositions.specs.Entries.{is_unfolded}
use Rattle.presuppositions.specs.Sought.{goes_on}
use Rattle.presupposed.specs.declared.memory.Question.{Question}

abbrev pub IsJudgedIn : Judgement → Context → Type 0
IsJudgedIn (Ty H A) G = H ≡ G
IsJudgedIn (TyEq H A B) G = H ≡ G
IsJudgedIn (Tm H a A) G = H ≡ G
IsJudgedIn (TmEq H a b A) G = H ≡ G
IsJudgedIn _ G = ⊥

abbrev pub IsJudgedAt : Judgement → Context → Tree → Type 0
IsJudgedAt (Tm H a B) G A = (H ≡ G) × (B ≡ A)
IsJudgedAt (TmEq H a b B) G A = (H ≡ G) × (B ≡ A)
IsJudgedAt _ G A = ⊥

abbrev pub IsEquation : Judgement → Judgement → Judgement → Type 0
IsEquation (TyEq G A B) left right = (left ≡ Ty G A) × (right ≡ Ty G B)
IsEquation (TmEq G a b A) left right = (left ≡ Tm G a A) × (right ≡ Tm G b A)
IsEquation _ left right = ⊥

-- J stands behind the conclusion of the node that is asked about
abbrev pub Stands : Contents → Question → Judgement → Type 0
Stands b q J = (K : Judgement) × Says b q.node K × (behind q.label K ≡ Some J)

-- the node concludes a type, a term or an equation in G
abbrev pub IsIn : Contents → NodeId → Context → Type 0
IsIn b node G = (J : Judgement) × Says b node J × IsJudgedIn J G

-- the node concludes a term, or an equation of terms, of that type
abbrev pub IsAt : Contents → NodeId → Context → Tree → Type 0
IsAt b node G A = (J : Judgement) × Says b node J × IsJudgedAt J G A

-- the node concludes an equation of what is typed so
abbrev pub Equates : Contents → NodeId → Judgement → Judgement → Type 0
Equates b node left right = (J : Judgement) × Says b node J × IsEquation J left right

-- The node concludes this equation of terms, by a rule of composition whose right sides are typed
-- as they are unfolded.
pub record Unfolds (b : Contents) (node : NodeId) (G : Context) (a c A : Tree) : Type 0 where
  pub says : Says b node (TmEq G a c A)
  pub made : Node
  pub made_is : book_nodes b node.0 ≡ Some made
  pub of : is_unfolded made.rule label.Right ≡ true

-- the question is asked on the way to that one: of that node or an earlier one
pub record IsOnTheWay (top q : Question) : Type 0 where
  pub earlier : q.node.0 ≤ top.node.0
  pub goes : goes_on top.label q.label ≡ true
