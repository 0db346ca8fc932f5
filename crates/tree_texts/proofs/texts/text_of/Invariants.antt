use Rattle.std.proofs.Common.{reverse}
use Rattle.closures.specs.Shown.{lists}
use Rattle.side_conditions.specs.Shapes.{tree_of}
use Rattle.tree_texts.specs.Layouts.{text_as}
use Rattle.tree_texts.specs.Tasks.{all_steps}
use Rattle.tree_texts.proofs.WriteLaws.{Writes}
use Rattle.tree_texts.proofs.texts.text_of.Given as goal

-- what is written, and what is left to write, are the text
abbrev pub invariant-loop-task : goal.invariant-loop-task
invariant-loop-task g l =
    let f = g.R.Rows.means l.rows in
    Writes f l.fn.level (text_as l.fn.sort l.fn.level (tree_of (f l.fn.term.0))) (lists l.environments) l.text.items (reverse l.tasks.items)

abbrev pub decreases-loop-task : goal.decreases-loop-task
decreases-loop-task g l = all_steps (g.R.Rows.means l.rows) (lists l.environments) (reverse l.tasks.items)
