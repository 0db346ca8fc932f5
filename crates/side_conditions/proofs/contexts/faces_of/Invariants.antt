use Rattle.std.proofs.Common.{◌≤◌, length}
use Rattle.side_conditions.specs.Contexts.{context_of}
use Rattle.side_conditions.proofs.ContextLaws.{Gathered}
use Rattle.side_conditions.proofs.contexts.faces_of.Given as goal

-- these faces stand further in than those of the context that is left
abbrev pub invariant-loop-faces : goal.invariant-loop-faces
invariant-loop-faces g l =
    let f = g.R.Rows.means l.rows in
    Gathered f (context_of (f l.fn.ctx.0)) l.names l.inner l.ctx.0 l.faces.items × (l.inner ≤ length l.names)

abbrev pub decreases-loop-faces : goal.decreases-loop-faces
decreases-loop-faces g l = l.ctx.0
