use Rattle.std.proofs.Common.{◌≡◌, map, take}
use Rattle.rows.specs.Tables.{Grows}
use Rattle.closures.specs.Shown.{lists}
use Rattle.normal_formulas.specs.Atoms.{atom_tree}
use Rattle.normal_formulas.specs.Reads.{trees_at}
use Rattle.normal_formulas.proofs.reading.product_of.Given as goal

abbrev pub invariant-loop-part : goal.invariant-loop-part
invariant-loop-part g l =
    let begin = lists l.initial.environments in
    Grows begin (lists l.environments)
    × (map (atom_tree l.sort) l.atoms.items ≡ take l.part-index (trees_at (g.R.Rows.means l.rows) begin l.part-items))
