use Rattle.std.proofs.Common.{◌∙◌, sym, ap, Some}
use Rattle.trees.specs.Language.{Ty}
use Rattle.typed_nodes.proofs.types.TypeAt.node.Goals as goal

pub type_instance-requires : goal.type_instance-requires
type_instance-requires c =
    let (H, A, is) = c.requires in
    (H, is.home, is.sub, is.tree, is.sub_is, is.type_is)

pub returns-clause-typed : goal.returns-clause-typed
returns-clause-typed c = λ H A is.
    c.in_ok-type_instance.ensures.typed H is.home is.sub is.tree is.sub_is is.type_is ∙ ap (λ T. Some (Ty H T)) (sym is.is)
