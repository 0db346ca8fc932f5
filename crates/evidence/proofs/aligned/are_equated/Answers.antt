use Rattle.evidence.proofs.AlignedLaws.{equated}
use Rattle.evidence.proofs.aligned.are_equated.Goals as goal

pub same_context-requires-clause-left : goal.same_context-requires-clause-left
same_context-requires-clause-left c =
    let found = c.types_of-2.ensures c.in-Some-types_of.found c.in-Some-types_of.is in
    (found.context, found.context_is)

pub same_context-requires-clause-right : goal.same_context-requires-clause-right
same_context-requires-clause-right c =
    let types = c.types_of.ensures c.in-Some.types c.in-Some.is in
    (types.context, types.context_is)

pub same_context-requires-2-clause-left : goal.same_context-requires-2-clause-left
same_context-requires-2-clause-left c =
    let wanted = c.types_of-3.ensures c.in-Some-types_of-2.wanted c.in-Some-types_of-2.is in
    (wanted.context, wanted.context_is)

pub same_context-requires-2-clause-right : goal.same_context-requires-2-clause-right
same_context-requires-2-clause-right c =
    let types = c.types_of.ensures c.in-Some.types c.in-Some.is in
    (types.context, types.context_is)

pub same_tree-requires-clause-left : goal.same_tree-requires-clause-left
same_tree-requires-clause-left c =
    let found = c.types_of-2.ensures c.in-Some-types_of.found c.in-Some-types_of.is in
    (found.left, found.left_is)

pub same_tree-requires-clause-right : goal.same_tree-requires-clause-right
same_tree-requires-clause-right c =
    let types = c.types_of.ensures c.in-Some.types c.in-Some.is in
    (types.left, types.left_is)

pub same_tree-requires-2-clause-left : goal.same_tree-requires-2-clause-left
same_tree-requires-2-clause-left c =
    let wanted = c.types_of-3.ensures c.in-Some-types_of-2.wanted c.in-Some-types_of-2.is in
    (wanted.left, wanted.left_is)

pub same_tree-requires-2-clause-right : goal.same_tree-requires-2-clause-right
same_tree-requires-2-clause-right c =
    let types = c.types_of.ensures c.in-Some.types c.in-Some.is in
    (types.right, types.right_is)

pub returns : goal.returns
returns c = λ yes.
    let types = c.types_of.ensures c.in-Some.types c.in-Some.is in
    let found = c.types_of-2.ensures c.in-Some-types_of.found c.in-Some-types_of.is in
    let wanted = c.types_of-3.ensures c.in-Some-types_of-2.wanted c.in-Some-types_of-2.is in
    equated c.args.book.now c.args.nodes c.in-Some.types c.in-Some-types_of.found c.in-Some-types_of-2.wanted types found wanted
    (c.in_ok-same_context.ensures c.if-not-branch.false) (c.in_ok-same_context-2.ensures c.if-not-branch-2.false)
    (c.in_ok-same_tree.ensures.0 c.if-not-branch-3.false) (c.in_ok-same_tree-2.ensures.0 yes)
