use Rattle.side_conditions.specs.Contexts.{context_of}
use Rattle.side_conditions.proofs.ContextLaws.{Listed}
use Rattle.side_conditions.proofs.contexts.names_of.Given as goal

-- these indices stand further in than those of the context that is left
abbrev pub invariant-loop-names : goal.invariant-loop-names
invariant-loop-names g l = let f = g.R.Rows.means l.rows in Listed f (context_of (f l.fn.ctx.0)) l.ctx.0 l.names.items

abbrev pub decreases-loop-names : goal.decreases-loop-names
decreases-loop-names g l = l.ctx.0
