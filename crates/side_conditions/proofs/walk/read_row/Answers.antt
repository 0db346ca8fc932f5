use Rattle.std.proofs.Common.{◌≡◌, ◌∙◌, ap, subst}
use Rattle.rows.specs.declared.views.TermId.{TermId}
use Rattle.closures.specs.Shown.{lists}
use Rattle.closures.specs.declared.closure.Closure.{Closure}
use Rattle.closures.specs.declared.environments.Environment.TheVariants as env
use Rattle.closures.proofs.HeadLaws.{row-stands}
use Rattle.side_conditions.specs.Readings.{IsValued, Reads}
use Rattle.side_conditions.specs.Shown.{reading_at}
use Rattle.side_conditions.proofs.WalkLaws.{remembers_nothing, row_tree, root_reads}
use Rattle.side_conditions.proofs.walk.read_row.Goals as goal

pub read-requires-clause-stands : goal.read-requires-clause-stands
read-requires-clause-stands g c =
    let root = c.outermost-root.result in
    let row : root.closure.row.0 ≡ c.args.tree.0 = ap (λ (x : Closure). x.row.0) c.outermost-root.ensures.closure ∙ ap (λ (r : TermId). r.0) c.of_row.ensures.row in
    let none : root.closure.environment ≡ env.Empty = ap (λ (x : Closure). x.environment) c.outermost-root.ensures.closure ∙ c.of_row.ensures.environment in
    row-stands (g.R.Rows.means c.args.rows.now) (lists c.new-environments.result) 0 c.args.tree.0 root.closure c.requires.tree row none

pub read-requires-clause-remembers : goal.read-requires-clause-remembers
read-requires-clause-remembers g c =
    remembers_nothing (IsValued c.args.detail) (g.R.Rows.means c.args.rows.now) (lists c.new-environments.result) c.args.names.now (reading_at c.new-readings.result) c.new-readings.ensures.nothing

pub returns : goal.returns
returns g c = λ G same.
    let f = g.R.Rows.means c.args.rows.now in
    let root = c.outermost-root.result in
    let known = lists c.read.new.environments in
    let row : root.closure.row.0 ≡ c.args.tree.0 = ap (λ (x : Closure). x.row.0) c.outermost-root.ensures.closure ∙ ap (λ (r : TermId). r.0) c.of_row.ensures.row in
    let none : root.closure.environment ≡ env.Empty = ap (λ (x : Closure). x.environment) c.outermost-root.ensures.closure ∙ c.of_row.ensures.environment in
    subst (λ t. Reads (IsValued c.args.detail) G t c.take.result) (row_tree f known c.args.tree.0 root c.requires.tree row none)
    (root_reads (IsValued c.args.detail) f known c.args.names.now (reading_at c.read.new.readings) root c.take.result c.in_ok-read.ensures.remembers c.outermost-root.ensures.depth c.take.ensures G same)
