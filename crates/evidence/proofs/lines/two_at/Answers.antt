use Rattle.std.proofs.Common.{◌≡◌, [], ◌∷◌, get_or, subst}
use Rattle.std.specs.Prelude.{option_map}
use Rattle.rows.specs.declared.views.TermId.{TermId}
use Rattle.side_conditions.specs.Contexts.{context_of}
use Rattle.side_conditions.specs.Shapes.{tree_of}
use Rattle.book.specs.declared.kernel.NodeId.{NodeId}
use Rattle.book.specs.Shown.{book_means}
use Rattle.evidence.specs.Told.{IsOf}
use Rattle.evidence.proofs.LineLaws.{are_shown, concluded_two, roots_of, two_shown, two_there}
use Rattle.evidence.proofs.lines.two_at.Goals as goal

pub shown_two-requires-clause-left : goal.shown_two-requires-clause-left
shown_two-requires-clause-left c =
    let t = c.in_ok-left.ensures c.in-Some.left c.in-Some.right c.in-Some.is in
    (t.one, t.left_is)

pub shown_two-requires-clause-right : goal.shown_two-requires-clause-right
shown_two-requires-clause-right c =
    let t = c.in_ok-left.ensures c.in-Some.left c.in-Some.right c.in-Some.is in
    (t.other, t.right_is)

pub with_file-requires : goal.with_file-requires
with_file-requires c =
    let book = c.args.book.now in
    let G = context_of (book_means book c.args.place.now.ctx.0) in
    let found : NodeId = get_or c.args.equations 0 (record { 0 = 0 }) in
    let wanted : NodeId = get_or c.args.equations 1 (record { 0 = 0 }) in
    let t = c.in_ok-left.ensures c.in-Some.left c.in-Some.right c.in-Some.is in
    let roots = roots_of book G found.0 wanted.0 c.in-Some.left.0 c.in-Some.right.0 t in
    two_there book found wanted roots.first roots.second roots.first_is roots.second_is

pub returns : goal.returns
returns c = λ e is.
    let book = c.args.book.now in
    let G = context_of (book_means book c.args.place.now.ctx.0) in
    let found : NodeId = get_or c.args.equations 0 (record { 0 = 0 }) in
    let wanted : NodeId = get_or c.args.equations 1 (record { 0 = 0 }) in
    let t = c.in_ok-left.ensures c.in-Some.left c.in-Some.right c.in-Some.is in
    let roots = roots_of book G found.0 wanted.0 c.in-Some.left.0 c.in-Some.right.0 t in
    let Js = roots.first ∷ roots.second ∷ [] in
    let same : c.in_ok-with_file.field-0 ≡ e = cc in
    let told = subst (IsOf c.in-Some-2.shown Js) same (c.in_ok-with_file.ensures Js (concluded_two book found wanted roots.first roots.second roots.first_is roots.second_is)) in
    let tree = λ (row : TermId). tree_of (book_means book row.0) in
    let texts = c.in_ok-shown.ensures c.in-Some-2.shown c.in-Some-2.is in
    are_shown tree c.args.face e
    (two_shown book G found.0 wanted.0 c.in-Some.left.0 c.in-Some.right.0 (option_map tree c.args.face) c.in-Some-2.shown e t roots texts told)
