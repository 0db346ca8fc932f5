use Rattle.std.proofs.Common.{refl, subst}
use Rattle.theory.specs.declared.rule.RuleName.TheVariants.{Equality}
use Rattle.theory.specs.declared.rule.EqualityRule.TheVariants.{TmConv}
use Rattle.trees.specs.Language.{Tm}
use Rattle.trees.specs.Things.{AContext, ATree}
use Rattle.book.specs.Right.{IsMadeBy}
use Rattle.book.specs.Shown.{book_nodes}
use Rattle.literal_types.proofs.GrowthLaws.{extends_extends}
use Rattle.presupposed.proofs.AnchorLaws.{conv-shifts, conv-use, reflexive_grows}
use Rattle.presupposed.proofs.anchors.anchor.Goals as goal

pub context_row-ctx-requires : goal.context_row-ctx-requires
context_row-ctx-requires c =
    let (G, a, A, typing, ty) = c.requires in
    (G, a, A, typing)

pub subject_row-term-requires : goal.subject_row-term-requires
subject_row-term-requires c =
    let (G, a, A, typing, ty) = c.requires in
    (Tm G a A, a, typing, refl)

pub type_row-tree-requires : goal.type_row-tree-requires
type_row-tree-requires c =
    let (G, a, A, typing, ty) = c.requires in
    (G, a, A, typing)

pub reflexive-requires : goal.reflexive-requires
reflexive-requires c =
    let (G, a, A, typing, ty) = c.requires in
    (G, A, c.context_row-ctx.ensures G a A typing, c.type_row-tree.ensures G a A typing, ty)

pub conclude-requires-clause-right : goal.conclude-requires-clause-right
conclude-requires-clause-right c =
    let (G, a, A, typing, ty) = c.requires in
    let ctx = c.context_row-ctx.ensures G a A typing in
    let tree = c.type_row-tree.ensures G a A typing in
    let e = c.in_ok-same.ensures in
    let keeps = e.extends.rows.keeps in (
      Tm G a A,
      conv-use c.reflexive.new.book c.context_row-ctx.result c.subject_row-term.result c.type_row-tree.result G a A (keeps _ (AContext G) ctx) (keeps _ (ATree a) (c.subject_row-term.ensures (Tm G a A) a typing refl)) (keeps _ (ATree A) tree) c.of.result c.of-2.result
          c.args.typing.0 c.in_ok-same.same.0 c.of.ensures c.of-2.ensures (e.extends.conclusions c.args.typing.0 (Tm G a A) typing) (e.typed G A ctx tree ty),
    )

pub conclude-requires-clause-shifts : goal.conclude-requires-clause-shifts
conclude-requires-clause-shifts c =
    let (G, a, A, typing, ty) = c.requires in
    let keeps = c.in_ok-same.ensures.extends.rows.keeps in
    conv-shifts c.reflexive.new.book c.context_row-ctx.result c.subject_row-term.result c.type_row-tree.result G a A (keeps _ (AContext G) (c.context_row-ctx.ensures G a A typing)) (keeps _ (ATree a) (c.subject_row-term.ensures (Tm G a A) a typing refl)) (keeps _ (ATree A) (c.type_row-tree.ensures G a A typing)) c.of.result c.of.ensures

pub returns-in_err-conclude-clause-extends : goal.returns-in_err-conclude-clause-extends
returns-in_err-conclude-clause-extends c = extends_extends c.in_ok-same.ensures.extends c.in_err-conclude.ensures.extends

pub returns-clause-extends : goal.returns-clause-extends
returns-clause-extends c = extends_extends c.in_ok-same.ensures.extends c.in_ok-conclude.ensures.extends

pub returns-clause-typed : goal.returns-clause-typed
returns-clause-typed c = λ G a A typing ty.
    let ctx = c.context_row-ctx.ensures G a A typing in
    let tree = c.type_row-tree.ensures G a A typing in
    let e = c.in_ok-same.ensures in
    let keeps = e.extends.rows.keeps in
    c.in_ok-conclude.ensures.concludes (Tm G a A)
    (conv-use c.reflexive.new.book c.context_row-ctx.result c.subject_row-term.result c.type_row-tree.result G a A (keeps _ (AContext G) ctx) (keeps _ (ATree a) (c.subject_row-term.ensures (Tm G a A) a typing refl)) (keeps _ (ATree A) tree) c.of.result c.of-2.result
    c.args.typing.0 c.in_ok-same.same.0 c.of.ensures c.of-2.ensures (e.extends.conclusions c.args.typing.0 (Tm G a A) typing) (e.typed G A ctx tree ty))

pub returns-clause-anchored : goal.returns-clause-anchored
returns-clause-anchored c =
    (c.of.result, c.in_ok-same.same, reflexive_grows c.reflexive.new.book c.conclude.new.self c.in_ok-same.same c.args.ty c.in_ok-conclude.ensures.extends c.in_ok-same.ensures.made, subst (λ ks. IsMadeBy (Equality TmConv) c.of.result ks (book_nodes c.conclude.new.self c.in_ok-conclude.field-0.0)) c.of-2.ensures c.in_ok-conclude.ensures.made)
