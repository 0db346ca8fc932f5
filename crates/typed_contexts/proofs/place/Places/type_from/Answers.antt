use Rattle.std.proofs.Common.{◌∙◌, ◌-◌}
use Rattle.typed_contexts.proofs.ContextLaws.{type-here}
use Rattle.trees.specs.Trees.{shift_by}
use Rattle.trees.specs.Language.{Ty}
use Rattle.typed_nodes.proofs.GrowthLaws.{says_later}
use Rattle.typed_contexts.specs.Contexts.{depth_of, at_depth}
use Rattle.typed_contexts.proofs.GrowthLaws.{further}
use Rattle.typed_contexts.proofs.place.Places.type_from.Goals as goal

pub returns-then-level-depth-clause-typed : goal.returns-then-level-depth-clause-typed
returns-then-level-depth-clause-typed c = λ H A place says.
    type-here c.args.level H A (c.if-level-depth.true ∙ c.depth.ensures.place c.args.book.now H place) says

pub type_instance-requires : goal.type_instance-requires
type_instance-requires c =
    let H = c.requires.0 in
    let A = c.requires.1 in
    let place = c.requires.2 in
    let says = c.requires.4 in
    (H, at_depth c.args.level H, shift_by (depth_of H - c.args.level), A, c.in_ok-sub.ensures.weakens H place, says_later _ _ c.args.ty (Ty (at_depth c.args.level H) A) c.in_ok-sub.ensures.extends says)

pub returns-in_err-type_instance-clause-extends : goal.returns-in_err-type_instance-clause-extends
returns-in_err-type_instance-clause-extends c = further c.in_ok-sub.ensures.extends c.type_instance.ensures.extends

pub returns-clause-extends : goal.returns-clause-extends
returns-clause-extends c = further c.in_ok-sub.ensures.extends c.in_ok-type_instance.ensures.extends

pub returns-clause-typed : goal.returns-clause-typed
returns-clause-typed c = λ H A place says.
    c.in_ok-type_instance.ensures.typed H (at_depth c.args.level H) (shift_by (depth_of H - c.args.level)) A (c.in_ok-sub.ensures.weakens H place) (says_later _ _ c.args.ty (Ty (at_depth c.args.level H) A) c.in_ok-sub.ensures.extends says)
