use Rattle.std.proofs.Common.{reverse}
use Rattle.side_conditions.specs.Shapes.{tree_of}
use Rattle.normal_parts.specs.Normal.{Normal}
use Rattle.normality.specs.Worlds.{world, fix_each}
use Rattle.normality.specs.Tests.{all_steps}
use Rattle.normality.proofs.WalkLaws.{Walks}
use Rattle.normality.proofs.normality.is_normal_where.Given as goal

-- the tree is normal exactly where what is left to test passes
abbrev pub invariant-loop-test : goal.invariant-loop-test
invariant-loop-test g l =
    let f = g.R.Rows.means l.rows in
    Walks (world f l.environments l.scopes) (Normal (fix_each l.fn.fixed) (tree_of (f l.fn.term.0))) l.passed.keys (reverse l.tests.items)

abbrev pub decreases-loop-test : goal.decreases-loop-test
decreases-loop-test g l = all_steps (world (g.R.Rows.means l.rows) l.environments l.scopes) (reverse l.tests.items)
