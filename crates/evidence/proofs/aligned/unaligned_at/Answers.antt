use Rattle.std.proofs.Common.{◌≡◌, List, [], ◌∷◌, subst}
use Rattle.trees.specs.Judgements.{Judgement}
use Rattle.trees.specs.Language.{TyEq}
use Rattle.side_conditions.specs.Contexts.{context_of}
use Rattle.book.specs.Shown.{book_means}
use Rattle.evidence.specs.Told.{IsOf}
use Rattle.evidence.proofs.AlignedLaws.{concluded_three, three_there, unaligned_shown}
use Rattle.evidence.proofs.aligned.unaligned_at.Goals as goal

pub shown_two-requires-clause-left : goal.shown_two-requires-clause-left
shown_two-requires-clause-left c =
    let t = c.in_ok-left.ensures c.in-Some.left c.in-Some.right c.in-Some.is in
    (t.one, t.left_is)

pub shown_two-requires-clause-right : goal.shown_two-requires-clause-right
shown_two-requires-clause-right c =
    let t = c.in_ok-left.ensures c.in-Some.left c.in-Some.right c.in-Some.is in
    (t.other, t.right_is)

pub with_file-requires : goal.with_file-requires
with_file-requires c = three_there c.args.book.now c.args.nodes (c.in_ok-are_equated.ensures c.if-not-branch.false)

pub returns : goal.returns
returns c = λ e is.
    let book = c.args.book.now in
    let nodes = c.args.nodes in
    let G = context_of (book_means book c.args.place.now.ctx.0) in
    let a = c.in_ok-are_equated.ensures c.if-not-branch.false in
    let t = c.in_ok-left.ensures c.in-Some.left c.in-Some.right c.in-Some.is in
    let Js : List Judgement = TyEq a.context a.left a.right ∷ TyEq a.context a.left a.one ∷ TyEq a.context a.right a.other ∷ [] in
    let same : c.in_ok-with_file.field-0 ≡ e = cc in
    let told = subst (IsOf c.in-Some-2.shown Js) same (c.in_ok-with_file.ensures Js (concluded_three book nodes.types nodes.found nodes.wanted _ _ _ a.types_is a.found_is a.wanted_is)) in
    unaligned_shown book nodes G c.in-Some.left.0 c.in-Some.right.0 c.in-Some-2.shown e t a (c.in_ok-shown.ensures c.in-Some-2.shown c.in-Some-2.is) told
