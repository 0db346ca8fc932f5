use Rattle.trees.specs.Trees.{Var}
use Rattle.form_rows.proofs.RowLaws.{is_of, tree_kept, tree_of_is, two_fit}
use Rattle.form_rows.proofs.terms.applied_inside.Goals as goal

pub make-requires : goal.make-requires
make-requires g c =
    let before = g.M.Rows.means c.lifted.new.maker in
    let now = g.M.Rows.means c.var.new.self in
    let outside = tree_of_is before c.in_ok-outside.outside (c.in_ok-outside.ensures.lifted c.requires.tree.0 (is_of (g.M.Rows.means c.args.maker.now) c.args.row c.requires.tree)) in
    two_fit now c.in_ok-outside.outside c.in_ok-innermost.innermost c.args.op c.requires.two
    (tree_kept before now c.in_ok-outside.outside c.var.ensures.kept outside)
    (Var 0, c.in_ok-innermost.ensures.meaning)
