use Rattle.std.proofs.Common.{take}
use Rattle.trees.specs.Trees.{Tree}
use Rattle.form_rows.specs.Meant.{Is}
use Rattle.judgement_rows.specs.Steps.{Row, Spells, state}
use Rattle.judgement_rows.specs.Words.{Defines, IsUnder, Rows, applied_tree, block_scope, code_trees, line_side_trees, pair_side_trees, side_trees, under_trees}
use Rattle.judgement_rows.proofs.SideSteps.{IsSides, Pairs}
use Rattle.judgement_rows.proofs.terms.Spelling.+spell.Given as goal

abbrev pub invariant-under-loop-binder : goal.invariant-under-loop-binder
invariant-under-loop-binder g l =
    Spells (state (g.M.Rows.means l.fn.maker) l.fn.self) (state (g.M.Rows.means l.maker) l.self) l.fn.place (IsUnder l.under) (under_trees (take l.binder-index l.binders))

abbrev pub invariant-applied-loop-element : goal.invariant-applied-loop-element
invariant-applied-loop-element g l =
    (t : Tree) → Is (g.M.Rows.means l.fn.maker) l.fn.head t
    → Spells (state (g.M.Rows.means l.fn.maker) l.fn.self) (state (g.M.Rows.means l.maker) l.self) l.fn.place (Row l.row) (applied_tree t (take l.element-index l.elements))

abbrev pub invariant-codes-loop-code : goal.invariant-codes-loop-code
invariant-codes-loop-code g l =
    Spells (state (g.M.Rows.means l.fn.maker) l.fn.self) (state (g.M.Rows.means l.maker) l.self) l.fn.place (Rows l.rows.items) (code_trees (take l.code-index l.codes))

abbrev pub invariant-sides-loop-side : goal.invariant-sides-loop-side
invariant-sides-loop-side g l =
    Spells (state (g.M.Rows.means l.fn.maker) l.fn.self) (state (g.M.Rows.means l.maker) l.self) l.fn.place (IsSides l.rows.faces.items (Rows l.rows.values.items)) (side_trees (take l.side-index l.sides))

abbrev pub invariant-line_sides-loop-side : goal.invariant-line_sides-loop-side
invariant-line_sides-loop-side g l =
    Spells (state (g.M.Rows.means l.fn.maker) l.fn.self) (state (g.M.Rows.means l.maker) l.self) l.fn.place (IsSides l.rows.faces.items (Rows l.rows.values.items)) (line_side_trees (take l.side-index l.sides))

abbrev pub invariant-pair_sides-loop-side : goal.invariant-pair_sides-loop-side
invariant-pair_sides-loop-side g l =
    Spells (state (g.M.Rows.means l.fn.maker) l.fn.self) (state (g.M.Rows.means l.maker) l.self) l.fn.place (IsSides l.rows.faces.items (Pairs l.rows.types.items l.rows.equivalences.items)) (pair_side_trees (take l.side-index l.sides))

abbrev pub invariant-block-loop-def : goal.invariant-block-loop-def
invariant-block-loop-def g l =
    Defines (state (g.M.Rows.means l.fn.maker) l.fn.self) (state (g.M.Rows.means l.maker) l.self) l.fn.place (block_scope (take l.def-index l.defs))
