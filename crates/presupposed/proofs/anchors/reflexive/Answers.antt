use Rattle.std.proofs.Common.{subst}
use Rattle.theory.specs.declared.rule.RuleName.TheVariants.{Equality}
use Rattle.theory.specs.declared.rule.EqualityRule.TheVariants.{TyEqRefl}
use Rattle.book.specs.Right.{IsMadeBy}
use Rattle.book.specs.Shown.{book_nodes}
use Rattle.trees.specs.Language.{TyEq}
use Rattle.presupposed.proofs.AnchorLaws.{refl-shifts, refl-use}
use Rattle.presupposed.proofs.anchors.reflexive.Goals as goal

pub conclude-requires-clause-right : goal.conclude-requires-clause-right
conclude-requires-clause-right c =
    let a = c.args in
    let (G, A, ctx, tree, says) = c.requires in
    (TyEq G A A, refl-use a.book.now a.ctx a.tree G A ctx tree c.of.result c.of-2.result a.ty.0 c.of.ensures c.of-2.ensures says)

pub conclude-requires-clause-shifts : goal.conclude-requires-clause-shifts
conclude-requires-clause-shifts c =
    let a = c.args in
    let (G, A, ctx, tree, says) = c.requires in
    refl-shifts a.book.now a.ctx a.tree G A ctx tree c.of.result c.of.ensures

pub returns-clause-typed : goal.returns-clause-typed
returns-clause-typed c = λ G A ctx tree says.
    let a = c.args in
    c.in_ok-conclude.ensures.concludes (TyEq G A A) (refl-use a.book.now a.ctx a.tree G A ctx tree c.of.result c.of-2.result a.ty.0 c.of.ensures c.of-2.ensures says)

pub returns-clause-made : goal.returns-clause-made
returns-clause-made c = (c.of.result, subst (λ ks. IsMadeBy (Equality TyEqRefl) c.of.result ks (book_nodes c.conclude.new.self c.in_ok-conclude.field-0.0)) c.of-2.ensures c.in_ok-conclude.ensures.made)
