use Rattle.std.proofs.Common.{◌-◌}
use Rattle.rows.specs.Tables.{Grows}
use Rattle.closures.specs.Environments.{deepest}
use Rattle.closures.specs.Shown.{lists}
use Rattle.tree_frames.specs.Frames.{tree_in, weight}
use Rattle.normal_formulas.proofs.PartLaws.{Splitting}
use Rattle.normal_formulas.proofs.reading.parts.Given as goal

abbrev pub invariant-loop-parts : goal.invariant-loop-parts
invariant-loop-parts g l =
    let f = g.R.Rows.means l.rows in
    let begin = lists l.fn.environments in
    let now = lists l.environments in
    Grows begin now × Splitting f now (deepest - 1) l.joiner (tree_in f begin l.fn.closure) l.parts.items l.rest

abbrev pub decreases-loop-parts : goal.decreases-loop-parts
decreases-loop-parts g l = weight (tree_in (g.R.Rows.means l.rows) (lists l.environments) l.rest)
