use Rattle.closures.specs.Shown.{lists}
use Rattle.closures.specs.Closures.{subst_of}
use Rattle.closures.specs.Substs.{subst_closure_meaning}
use Rattle.compare.proofs.SubstAskLaws.{trees_in}
use Rattle.conditions.specs.Sides.{AlikeIn}
use Rattle.side_conditions.specs.Contexts.{context_of}
use Rattle.side_conditions.specs.Held.{StandsFor}
use Rattle.side_conditions.specs.Shown.{reading_at}
use Rattle.side_conditions.specs.declared.reading.Detail.TheVariants as detail
use Rattle.side_conditions.specs.Readings.{IsValued}
use Rattle.side_conditions.specs.Walks.{Remembers}
use Rattle.side_conditions.proofs.AlikeLaws.{Places}
use Rattle.side_conditions.proofs.alike.ask_places.Given as goal

-- two closures are left to compare, in the same context
abbrev pub invariant-loop-left : goal.invariant-loop-left
invariant-loop-left g l =
    let f = g.R.Rows.means l.rows in
    let H = context_of (f l.fn.faces.ctx.0) in
    Places f H (AlikeIn H (subst_of (f l.fn.left.0)) (subst_of (f l.fn.right.0))) (lists l.environments) l.left l.right l.pairs.keys
    × StandsFor f l.fn.faces.ctx l.faces
    × Remembers (IsValued detail.Value) f (lists l.environments) l.faces.names.items (reading_at l.readings)

-- the trees of the left one
abbrev pub decreases-loop-left : goal.decreases-loop-left
decreases-loop-left g l = trees_in (subst_closure_meaning (g.R.Rows.means l.rows) (lists l.environments) l.left)
