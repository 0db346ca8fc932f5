use Rattle.std.proofs.Common.{◌≡◌, [], ◌∷◌, subst}
use Rattle.trees.specs.Language.{TyEq}
use Rattle.side_conditions.specs.Contexts.{context_of}
use Rattle.book.specs.Shown.{book_means}
use Rattle.evidence.specs.declared.texts.Shown.TheVariants as shown
use Rattle.evidence.specs.Told.{IsOf}
use Rattle.evidence.proofs.LineLaws.{one_there, universe_shown, concluded_one}
use Rattle.evidence.proofs.lines.universe_at.Goals as goal

pub begins_with-requires : goal.begins_with-requires
begins_with-requires c =
    let t = c.in_ok-right.ensures c.in-Some.right c.in-Some.is in
    (t.normal, t.right_is)

pub with_file-requires : goal.with_file-requires
with_file-requires c =
    let t = c.in_ok-right.ensures c.in-Some.right c.in-Some.is in
    one_there c.args.book.now c.args.equation (TyEq (context_of (book_means c.args.book.now c.args.place.now.ctx.0)) t.type t.normal) t.equation_is

pub returns : goal.returns
returns c = λ e is.
    let book = c.args.book.now in
    let G = context_of (book_means book c.args.place.now.ctx.0) in
    let t = c.in_ok-right.ensures c.in-Some.right c.in-Some.is in
    let Js = TyEq G t.type t.normal ∷ [] in
    let same : c.in_ok-with_file.field-0 ≡ e = cc in
    let told = subst (IsOf shown.Nothing Js) same (c.in_ok-with_file.ensures Js (concluded_one book c.args.equation (TyEq G t.type t.normal) t.equation_is)) in
    universe_shown book G c.args.equation.0 c.in-Some.right.0 e t (c.in_ok-begins_with.ensures.0 c.if-not-branch.false) told
