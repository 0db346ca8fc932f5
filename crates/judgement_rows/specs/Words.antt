-- Codes by what they mean, and the rows that were made of them.
--
-- These words are closed, so that a goal shows their names.
use Rattle.std.specs.Prelude.{◌≡◌, ℕ, List, [], ◌∷◌, map, length, take}
use Rattle.trees.specs.declared.op.Op.{Op}
use Rattle.trees.specs.Trees.{Tree, Make, trees_of}
use Rattle.trees.specs.Things.{Kept}
use Rattle.translation.specs.Scopes.{Scope}
use Rattle.translation.specs.Systems.{On}
use Rattle.translation.specs.Forms.{Means, all, apply_all, under, system}
use Rattle.codes.specs.declared.code.Code.{Code}
use Rattle.codes.specs.declared.code.CodeDef.{CodeDef}
use Rattle.codes.specs.declared.code.Opened.{Opened}
use Rattle.codes.specs.declared.code.Binder.{Binder}
use Rattle.codes.specs.declared.code.Element.{Element}
use Rattle.codes.specs.declared.code.Side.{Side}
use Rattle.codes.specs.declared.code.LineSide.{LineSide}
use Rattle.codes.specs.declared.code.PairSide.{PairSide}
use Rattle.codes.specs.Codes.{meaning, at_name, at_variable, binder, element, term_side, line_side}
use Rattle.codes.specs.Codes.{pair_side, definition, definitions}
use Rattle.form_rows.specs.Meant.{Are}
use Rattle.judgement_rows.specs.declared.places.Place.{Place}
use Rattle.judgement_rows.specs.declared.places.Under.{Under}
use Rattle.judgement_rows.specs.declared.systems.System.{System}
use Rattle.judgement_rows.specs.declared.systems.PairSystem.{PairSystem}
use Rattle.judgement_rows.specs.Steps.{State, Fits, Moves}
use Rattle.judgement_rows.specs.Systems.{SystemOf, LineSystemOf, PairSystemOf}
use Rattle.judgement_rows.specs.Under.{entered}

unfoldable pub code_tree : Code → Means ℕ Tree
code_tree = meaning

unfoldable pub code_trees : List Code → Means ℕ (List Tree)
code_trees cs = all (map meaning cs)

unfoldable pub line_tree : Opened → Means ℕ Tree
line_tree = at_name

unfoldable pub motive_tree : Opened → Means ℕ Tree
motive_tree = at_variable

-- a body under binders, over each of which the operator stands
unfoldable pub over_tree : Op → List Binder → Code → Means ℕ Tree
over_tree o bs c = under (λ A b. Make o (trees_of (A ∷ b ∷ []))) (map binder bs) (meaning c)

-- a tree, applied
unfoldable pub applied_tree : Tree → List Element → Means ℕ Tree
applied_tree t es = apply_all t (map element es)

unfoldable pub side_trees : List Side → Means ℕ (List (On Tree))
side_trees ss = system (map term_side ss)

unfoldable pub line_side_trees : List LineSide → Means ℕ (List (On Tree))
line_side_trees ss = system (map line_side ss)

unfoldable pub pair_side_trees : List PairSide → Means ℕ (List (On (Tree × Tree)))
pair_side_trees ss = system (map pair_side ss)

unfoldable pub under_trees : List Binder → Means ℕ (List Tree × Scope ℕ)
under_trees = entered

unfoldable pub def_scope : CodeDef → Means ℕ (Scope ℕ)
def_scope = definition

unfoldable pub block_scope : List CodeDef → Means ℕ (Scope ℕ)
block_scope = definitions

-- what was made of them

abbrev pub Rows : List ℕ → State → List Tree → Type 0
Rows rows s ts = Are s.means rows ts

pub record IsUnder (u : Under) (s : State) (e : List Tree × Scope ℕ) : Type 0 where
  pub types : Are s.means u.types.items e.0
  pub fits : Fits s u.place e.1

abbrev pub IsSystem : System → State → List (On Tree) → Type 0
IsSystem y s ss = SystemOf s.means y ss

abbrev pub IsLineSystem : System → State → List (On Tree) → Type 0
IsLineSystem y s ss = LineSystemOf s.means y ss

abbrev pub IsPairSystem : PairSystem → State → List (On (Tree × Tree)) → Type 0
IsPairSystem y s ss = PairSystemOf s.means y ss

-- Definitions, after which the place is in the scope that they give: those that were in scope are
-- there still.
pub record Defines (old new : State) (p : Place) (m : Means ℕ (Scope ℕ)) : Type 0 where
  pub kept : Kept old.means new.means
  pub bodies : take (length old.bodies) new.bodies ≡ old.bodies
  pub moves : (H : Scope ℕ) → Fits old p H → Moves old new (λ s G. Fits s p G) (m H)
