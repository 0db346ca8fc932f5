use Rattle.std.proofs.Common.{reverse, refl, sym, subst}
use Rattle.closures.specs.Chains.{IsSource, SentFrom}
use Rattle.closures.proofs.chains.step.Goals as goal

pub returns-in-Some : goal.returns-in-Some
returns-in-Some g c = λ root. (refl, c.requires.right c.args.at c.in-Some.index (sym c.in-Some.ensures))

pub enter_row-requires : goal.enter_row-requires
enter_row-requires g c = subst (IsSource (g.R.Rows.means c.args.rows.now)) c.in-Entry.is c.requires.stands

pub enter_tree-requires : goal.enter_tree-requires
enter_tree-requires g c = subst (IsSource (g.R.Rows.means c.args.rows.now)) c.in-Tree.is c.requires.stands

pub returns-in_ok-enter_row-in-Entry : goal.returns-in_ok-enter_row-in-Entry
returns-in_ok-enter_row-in-Entry g c = λ root.
    let f = g.R.Rows.means c.args.rows.now in
    subst (λ at. SentFrom f root (reverse c.args.waits.now.items) (reverse c.enter_row.new.waits.items) at c.in_ok-enter_row-in-Entry.field-0) (sym c.in-Entry.is) (c.in_ok-enter_row-in-Entry.ensures root)

pub returns-in_ok-enter_tree-in-Tree : goal.returns-in_ok-enter_tree-in-Tree
returns-in_ok-enter_tree-in-Tree g c = λ root.
    let f = g.R.Rows.means c.args.rows.now in
    subst (λ at. SentFrom f root (reverse c.args.waits.now.items) (reverse c.enter_tree.new.waits.items) at c.in_ok-enter_tree-in-Tree.field-0) (sym c.in-Tree.is) (c.in_ok-enter_tree-in-Tree.ensures root)
