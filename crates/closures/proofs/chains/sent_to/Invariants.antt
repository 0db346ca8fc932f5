use Rattle.std.proofs.Common.{reverse}
use Rattle.closures.specs.Chains.{AreRight, Leads}
use Rattle.closures.specs.declared.notes.Source.TheVariants as source
use Rattle.closures.proofs.chains.sent_to.Given as goal

-- which variable this is tells which one the root is
abbrev pub invariant-loop : goal.invariant-loop
invariant-loop g l =
    let f = g.R.Rows.means l.rows in
    Leads f (source.Entry l.fn.subst l.fn.index) (reverse l.waits.items) l.at × AreRight f l.notes
