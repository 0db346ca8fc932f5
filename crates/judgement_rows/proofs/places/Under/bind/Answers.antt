use Rattle.form_rows.proofs.RowLaws.{is_of, tree_of_is}
use Rattle.judgement_rows.proofs.PlaceLaws.{binding_none, binding_more, binding_tree}
use Rattle.judgement_rows.proofs.places.Under.bind.Goals as goal

pub loop-name-init : goal.loop-name-init
loop-name-init g c = binding_none _ _ _ c.requires.context

pub lifted-requires : goal.lifted-requires
lifted-requires g c = binding_tree c.requires.ty c.loop-name.invariant

pub under_variable-requires-clause-context : goal.under_variable-requires-clause-context
under_variable-requires-clause-context g c =
    let here = c.loop-name.invariant.context in
    (here.0, c.lifted.ensures.kept.keeps _ _ here.1)

pub under_variable-requires-clause-ty : goal.under_variable-requires-clause-ty
under_variable-requires-clause-ty g c =
    let tree = binding_tree c.requires.ty c.loop-name.invariant in
    tree_of_is (g.M.Rows.means c.lifted.new.maker) c.in_ok-here.here (c.in_ok-here.ensures.lifted tree.0 (is_of (g.M.Rows.means c.loop-name.maker) c.loop-name.here tree))

pub loop-name-preserved : goal.loop-name-preserved
loop-name-preserved g c =
    binding_more c.requires.ty c.loop-name.invariant c.min.ensures c.lifted.ensures.kept c.in_ok-here.ensures.lifted c.under_variable.ensures.kept c.in_ok-self.ensures.opened c.in_ok-push.ensures.items
