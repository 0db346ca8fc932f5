use Rattle.std.proofs.Common.{◌-◌}
use Rattle.rows.specs.Tables.{Grows}
use Rattle.closures.specs.Environments.{deepest}
use Rattle.closures.specs.Shown.{lists}
use Rattle.tree_frames.specs.Frames.{tree_in, weight}
use Rattle.normal_formulas.specs.Atoms.{lists_of}
use Rattle.normal_formulas.proofs.PartLaws.{Covering}
use Rattle.normal_formulas.proofs.reading.cover_of.Given as goal

abbrev pub invariant-loop-conjunctions : goal.invariant-loop-conjunctions
invariant-loop-conjunctions g l =
    let f = g.R.Rows.means l.rows in
    let begin = lists l.fn.environments in
    let now = lists l.environments in
    Grows begin now × Covering f now (deepest - 1) (tree_in f begin l.fn.closure) (lists_of l.conjunctions.items) l.rest

abbrev pub decreases-loop-conjunctions : goal.decreases-loop-conjunctions
decreases-loop-conjunctions g l = weight (tree_in (g.R.Rows.means l.rows) (lists l.environments) l.rest)
