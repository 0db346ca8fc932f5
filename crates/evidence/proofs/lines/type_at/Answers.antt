use Rattle.std.proofs.Common.{◌≡◌, [], ◌∷◌, ◌∙◌, rules, subst, sym}
use Rattle.std.specs.Prelude.{IfSome}
use Rattle.std.proofs.lemmas.Bool.{true≢false}
use Rattle.side_conditions.specs.Shapes.{tree_of}
use Rattle.normal_parts.specs.Normal.{Begins}
use Rattle.evidence.proofs.lines.type_at.Goals.{in-Some-unwanted+in_ok-begins_with+else-branch, in_default-unwanted}
use Rattle.trees.specs.Language.{TyEq}
use Rattle.side_conditions.specs.Contexts.{context_of}
use Rattle.book.specs.Shown.{book_means}
use Rattle.evidence.specs.declared.texts.Shown.TheVariants as shown
use Rattle.evidence.specs.Told.{IsOf}
use Rattle.evidence.proofs.LineLaws.{one_there, type_shown, concluded_one}
use Rattle.evidence.proofs.lines.type_at.Goals as goal

pub begins_with-requires : goal.begins_with-requires
begins_with-requires c =
    let t = c.in_ok-right.ensures c.in-Some.right c.in-Some.is in
    (t.normal, t.right_is)

pub text_at-requires-clause-tree : goal.text_at-requires-clause-tree
text_at-requires-clause-tree c =
    let t = c.in_ok-right.ensures c.in-Some.right c.in-Some.is in
    (t.normal, t.right_is)

pub with_file-requires : goal.with_file-requires
with_file-requires c =
    let t = c.in_ok-right.ensures c.in-Some.right c.in-Some.is in
    one_there c.args.book.now c.args.equation (TyEq (context_of (book_means c.args.book.now c.args.place.now.ctx.0)) t.type t.normal) t.equation_is

pub returns : goal.returns
returns c = λ e is.
    let book = c.args.book.now in
    let G = context_of (book_means book c.args.place.now.ctx.0) in
    let n = tree_of (book_means book c.in-Some.right.0) in
    let t = c.in_ok-right.ensures c.in-Some.right c.in-Some.is in
    let Js = TyEq G t.type t.normal ∷ [] in
    let shows = shown.Type c.in-Some-2.text in
    let same : c.in_ok-with_file.field-0 ≡ e = cc in
    let told = subst (IsOf shows Js) same (c.in_ok-with_file.ensures Js (concluded_one book c.args.equation (TyEq G t.type t.normal) t.equation_is)) in
    let other : IfSome c.args.unwanted (λ o. Begins o n → ⊥) = elim c.match-unwanted.branch [
      | in-Some-unwanted+in_ok-begins_with+else-branch w ↦ subst (λ found. IfSome found (λ o. Begins o n → ⊥)) (sym w.in-Some-unwanted.is) (λ b. true≢false (sym (w.in_ok-begins_with.ensures.1 b) ∙ w.if-branch.false))
      | in_default-unwanted w ↦ search rules
    ] in
    type_shown book G c.args.equation.0 c.in-Some.right.0 c.args.unwanted shows e t other (c.in_ok-text.ensures c.in-Some-2.text c.in-Some-2.is) told
