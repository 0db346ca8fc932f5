use Rattle.std.proofs.Common.{ap}
use Rattle.rows.specs.declared.views.TermId.{TermId}
use Rattle.closures.specs.Shown.{lists}
use Rattle.compare.proofs.AskLaws.{asks-rows}
use Rattle.compare.proofs.comparison.Comparison.ask_trees.Goals as goal

pub returns-clause-asks : goal.returns-clause-asks
returns-clause-asks g c =
    asks-rows (g.R.Rows.means c.args.rows.now) (lists c.args.self.now.environments) c.args.left c.args.right _ c.args.self.now.pairs.keys c.add_pair.new.pairs.keys
    (ap (λ (r : TermId). r.0) c.of_row.ensures.row) c.of_row.ensures.environment (ap (λ (r : TermId). r.0) c.of_row-2.ensures.row) c.of_row-2.ensures.environment c.requires.left c.requires.right c.in_ok-add_pair.ensures
