use Rattle.std.proofs.Common.{◌∙◌, refl}
use Rattle.trees.specs.Language.{Ty}
use Rattle.trees.specs.Things.{ATree}
use Rattle.recipe_runner.proofs.BuildLaws.{some-is}
use Rattle.typed_nodes.proofs.TypeLaws.{tree_here}
use Rattle.typed_nodes.proofs.types.TypeAt.row.Goals as goal

pub subject_row-ty-requires : goal.subject_row-ty-requires
subject_row-ty-requires c =
    let (H, A, is) = c.requires in
    (Ty is.home is.tree, is.tree, is.type_is, refl)

pub substitution_row-sub-requires : goal.substitution_row-sub-requires
substitution_row-sub-requires c =
    let (H, A, is) = c.requires in
    (H, is.home, is.sub, is.sub_is)

pub instance-requires : goal.instance-requires
instance-requires c =
    let (H, A, is) = c.requires in
    let at_tree = c.subject_row-ty.ensures (Ty is.home is.tree) is.tree is.type_is refl in
    let at_sub = c.substitution_row-sub.ensures H is.home is.sub is.sub_is in
    some-is _ (ATree A) (tree_here _ _ A is.tree is.sub at_tree at_sub is.is)

pub returns-clause-meaning : goal.returns-clause-meaning
returns-clause-meaning c = λ H A is.
    let at_tree = c.subject_row-ty.ensures (Ty is.home is.tree) is.tree is.type_is refl in
    let at_sub = c.substitution_row-sub.ensures H is.home is.sub is.sub_is in
    c.in_ok-instance.ensures.meaning ∙ tree_here _ _ A is.tree is.sub at_tree at_sub is.is
