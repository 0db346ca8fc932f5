use Rattle.std.proofs.Common.{◌≡◌, ◌∙◌, ◌++◌, ◌∷◌, [], ℕ, String, Vec, Global, ap, subst, string_bytes}
use Rattle.book.specs.Shown.{book_means}
use Rattle.side_conditions.specs.Shapes.{tree_of}
use Rattle.stated_roots.specs.Equations.{EquatesClosed}
use Rattle.tree_texts.specs.Show.{shown}
use Rattle.session.specs.Normals.{IsNormalText}
use Rattle.session.proofs.NormalLaws.{text_of_equation}
use Rattle.session.proofs.normal_command.normal_text.Goals as goal
use Rattle.session.proofs.normal_command.normal_text.Goals.{In-Some}

equates : (c : In-Some) → EquatesClosed c.args.book.now c.args.equation.0 c.args.body.0 c.in-Some.right.0
equates c = c.in_ok-right.ensures c.in-Some.right c.in-Some.is

pub is_normal_where-requires : goal.is_normal_where-requires
is_normal_where-requires c =
    let e = equates ((goal.at.is_normal_where-requires c).In-Some) in
    (e.other, e.means)

pub show-requires-clause-tree : goal.show-requires-clause-tree
show-requires-clause-tree c =
    let e = equates ((goal.at.show-requires-clause-tree c).In-Some) in
    (e.other, e.means)

pub returns : goal.returns
returns c =
    let b = c.args.book.now in
    let e = equates ((goal.at.returns c).In-Some) in
    let normal = c.in_ok-is_normal_where.ensures.0 c.if-not-branch.false in
    let shows = c.in_ok-show.ensures.ok ∙ ap (λ bs. bs ++ shown 0 (tree_of (book_means b c.in-Some.right.0))) c.new-text.ensures.items in
    let text : string_bytes c.in-Ok.text ≡ shown 0 (tree_of (book_means b c.in-Some.right.0)) ++ 10 ∷ [] = ap (λ (v : Vec ℕ Global). v.items) c.in-Ok.ensures.ok ∙ c.in_ok-push.ensures.items ∙ ap (λ bs. bs ++ 10 ∷ []) shows in
    λ s is.
    let same : c.in-Ok.text ≡ s = cc in
    subst (λ (t : String Global). IsNormalText b c.args.equation.0 c.args.body.0 (string_bytes t)) same (text_of_equation b c.args.equation.0 c.args.body.0 c.in-Some.right.0 e (string_bytes c.in-Ok.text) normal text)
