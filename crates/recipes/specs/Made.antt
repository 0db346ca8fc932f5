-- What the rows of a recipe make at given parts: things and nodes.
use Rattle.std.specs.Prelude.{◌≤◌, ◌^◌, ℕ, List, [], ◌∷◌, take}
use Rattle.std.specs.Prelude.{slice_get, Option, Some, None, option_and_then}
use Rattle.trees.specs.Operators.{kids_of}
use Rattle.trees.specs.Trees.{Var, shift_by}
use Rattle.trees.specs.Language.{Ctx, Ty, TyEq, Tm, TmEq, Sb}
use Rattle.trees.specs.Judgements.{Nil, Judgement}
use Rattle.trees.specs.Things.{Thing, ATree, ASubst, AContext, both, meanings, made}
use Rattle.trees.specs.Things.{instance_of, pushed_on, then_of, with_variable, with_a_name}
use Rattle.trees.specs.Things.{with_a_face}
use Rattle.recipes.specs.declared.row.Row.{Row}
use Rattle.recipes.specs.declared.row.Row.TheVariants as row

pub data Made : Type 0 where
  AThing : Thing → Made
  -- a node that concludes this
  ANode : Judgement → Made

abbrev pub only_thing : Made → Option Thing
only_thing (AThing x) = Some x
only_thing (ANode J) = None

abbrev pub only_node : Made → Option Judgement
only_node (AThing x) = None
only_node (ANode J) = Some J

-- the thing, or the conclusion of the node, that the row of that number made
abbrev pub thing_at : List Made → ℕ → Option Thing
thing_at known n = option_and_then only_thing (slice_get known n)

abbrev pub node_at : List Made → ℕ → Option Judgement
node_at known n = option_and_then only_node (slice_get known n)

-- the context, the substitution and the trees of a judgement, in order
abbrev pub fields_of : Judgement → List Thing
fields_of (Ctx G) = AContext G ∷ []
fields_of (Ty G A) = AContext G ∷ ATree A ∷ []
fields_of (TyEq G A B) = AContext G ∷ ATree A ∷ ATree B ∷ []
fields_of (Tm G a A) = AContext G ∷ ATree a ∷ ATree A ∷ []
fields_of (TmEq G a b A) = AContext G ∷ ATree a ∷ ATree b ∷ ATree A ∷ []
fields_of (Sb H d G) = AContext H ∷ ASubst d ∷ AContext G ∷ []

abbrev pub field_at : ℕ → Judgement → Option Thing
field_at k J = slice_get (fields_of J) k

-- the thing that a row makes of parts and of what earlier rows made
abbrev pub built_by : List Thing → List Made → Row → Option Thing
built_by parts known (row.Part k) = slice_get parts k
built_by parts known (row.Field n k) = option_and_then (field_at k) (node_at known n)
built_by parts known (row.Var k) = Some (ATree (Var k))
built_by parts known (row.Make op ks) =
    option_and_then (made op) (meanings (thing_at known) (take (kids_of op) ks))
built_by parts known (row.Instance t d) = both instance_of (thing_at known t) (thing_at known d)
built_by parts known (row.Shift n) = Some (ASubst (shift_by n))
built_by parts known (row.Push d t) = both pushed_on (thing_at known d) (thing_at known t)
built_by parts known (row.Then d e) = both then_of (thing_at known d) (thing_at known e)
built_by parts known row.Nil = Some (AContext Nil)
built_by parts known (row.WithVar G t) = both with_variable (thing_at known G) (thing_at known t)
built_by parts known (row.WithName G) = option_and_then with_a_name (thing_at known G)
built_by parts known (row.WithFace G p) = both with_a_face (thing_at known G) (thing_at known p)
built_by parts known _ = None

-- the shift of a substitution is at most that

abbrev pub ShiftIsAtMost : ℕ → Thing → Type 0
ShiftIsAtMost most (ASubst d) = d.shift ≤ most
ShiftIsAtMost most (ATree t) = Unit {0}
ShiftIsAtMost most (AContext G) = Unit {0}

-- the greatest shift of a substitution that is a part of a recipe: 1,152,921,504,606,846,976
abbrev pub greatest_part_shift : ℕ
greatest_part_shift = 2 ^ 60
