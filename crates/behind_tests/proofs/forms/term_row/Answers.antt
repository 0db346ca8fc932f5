use Rattle.std.proofs.Common.{refl, ◌∙◌, subst}
use Rattle.trees.specs.declared.op.Op.TheVariants as op
use Rattle.trees.specs.Trees.{Make, More, NoTrees}
use Rattle.trees.specs.Judgements.{WithVar, WithName, trees}
use Rattle.trees.specs.Language.{Ty, Tm}
use Rattle.trees.specs.Things.{ATree}
use Rattle.rules.specs.Table.{at}
use Rattle.book.specs.Shown.{book_means}
use Rattle.book_tests.proofs.RunLaws.{made-of-one}
use Rattle.recipe_runner.proofs.BuildLaws.{some-is}
use Rattle.presupposed.specs.Terms.{AreKids}
use Rattle.behind_tests.proofs.FormLaws.{over, two_made}
use Rattle.behind_tests.proofs.forms.term_row.Goals as goal

pub subject_row-ty-requires : goal.subject_row-ty-requires
subject_row-ty-requires c =
    let (G, t, S, kids) = c.requires in
    let (A, s, B, tree, type, domain, body) = subst (λ k. AreKids c.args.book.now k G t S) c.in-Function.is kids in
    (Ty G A, A, domain, refl)

pub subject_row-value-requires : goal.subject_row-value-requires
subject_row-value-requires c =
    let (G, t, S, kids) = c.requires in
    let (A, s, B, tree, type, domain, body) = subst (λ k. AreKids c.args.book.now k G t S) c.in-Function.is kids in
    (Tm (WithVar G A) s B, s, body, refl)

pub make-requires : goal.make-requires
make-requires c =
    let (G, t, S, kids) = c.requires in
    let (A, s, B, tree, type, domain, body) = subst (λ k. AreKids c.args.book.now k G t S) c.in-Function.is kids in
    some-is _ (ATree (over op.Lam A s)) (two_made (book_means c.args.book.now) op.Lam c.subject_row-ty.result c.subject_row-value.result A s refl (c.subject_row-ty.ensures (Ty G A) A domain refl) (c.subject_row-value.ensures (Tm (WithVar G A) s B) s body refl))

pub returns-in_ok-make-in-Function-clause-row : goal.returns-in_ok-make-in-Function-clause-row
returns-in_ok-make-in-Function-clause-row c =
    let (G, t, S, kids) = c.requires in
    let (A, s, B, tree, type, domain, body) = subst (λ k. AreKids c.args.book.now k G t S) c.in-Function.is kids in
    (over op.Lam A s, c.in_ok-make-in-Function.ensures.meaning ∙ two_made (book_means c.args.book.now) op.Lam c.subject_row-ty.result c.subject_row-value.result A s refl (c.subject_row-ty.ensures (Ty G A) A domain refl) (c.subject_row-value.ensures (Tm (WithVar G A) s B) s body refl))

pub subject_row-first-requires : goal.subject_row-first-requires
subject_row-first-requires c =
    let (G, t, S, kids) = c.requires in
    let (A, B, u, v, tree, type, domain, codomain, left, right) = subst (λ k. AreKids c.args.book.now k G t S) c.in-Pair.is kids in
    (Tm G u A, u, left, refl)

pub subject_row-second-requires : goal.subject_row-second-requires
subject_row-second-requires c =
    let (G, t, S, kids) = c.requires in
    let (A, B, u, v, tree, type, domain, codomain, left, right) = subst (λ k. AreKids c.args.book.now k G t S) c.in-Pair.is kids in
    (Tm G v (at trees B u), v, right, refl)

pub make-requires-in-Pair : goal.make-requires-in-Pair
make-requires-in-Pair c =
    let (G, t, S, kids) = c.requires in
    let (A, B, u, v, tree, type, domain, codomain, left, right) = subst (λ k. AreKids c.args.book.now k G t S) c.in-Pair.is kids in
    some-is _ (ATree (over op.Pair u v)) (two_made (book_means c.args.book.now) op.Pair c.subject_row-first.result c.subject_row-second.result u v refl (c.subject_row-first.ensures (Tm G u A) u left refl) (c.subject_row-second.ensures (Tm G v (at trees B u)) v right refl))

pub returns-in_ok-make-in-Pair-clause-row : goal.returns-in_ok-make-in-Pair-clause-row
returns-in_ok-make-in-Pair-clause-row c =
    let (G, t, S, kids) = c.requires in
    let (A, B, u, v, tree, type, domain, codomain, left, right) = subst (λ k. AreKids c.args.book.now k G t S) c.in-Pair.is kids in
    (over op.Pair u v, c.in_ok-make-in-Pair.ensures.meaning ∙ two_made (book_means c.args.book.now) op.Pair c.subject_row-first.result c.subject_row-second.result u v refl (c.subject_row-first.ensures (Tm G u A) u left refl) (c.subject_row-second.ensures (Tm G v (at trees B u)) v right refl))

pub subject_row-point-requires : goal.subject_row-point-requires
subject_row-point-requires c =
    let (G, t, S, kids) = c.requires in
    let (A, s, u, v, tree, type, body, left, right) = subst (λ k. AreKids c.args.book.now k G t S) c.in-Path.is kids in
    (Tm (WithName G) s A, s, body, refl)

pub make-requires-in-Path : goal.make-requires-in-Path
make-requires-in-Path c =
    let (G, t, S, kids) = c.requires in
    let (A, s, u, v, tree, type, body, left, right) = subst (λ k. AreKids c.args.book.now k G t S) c.in-Path.is kids in
    some-is _ (ATree (Make op.PLam (More s NoTrees))) (made-of-one (book_means c.args.book.now) op.PLam c.subject_row-point.result (ATree s) (c.subject_row-point.ensures (Tm (WithName G) s A) s body refl))

pub returns-in_ok-make-in-Path-clause-row : goal.returns-in_ok-make-in-Path-clause-row
returns-in_ok-make-in-Path-clause-row c =
    let (G, t, S, kids) = c.requires in
    let (A, s, u, v, tree, type, body, left, right) = subst (λ k. AreKids c.args.book.now k G t S) c.in-Path.is kids in
    (Make op.PLam (More s NoTrees), c.in_ok-make-in-Path.ensures.meaning ∙ made-of-one (book_means c.args.book.now) op.PLam c.subject_row-point.result (ATree s) (c.subject_row-point.ensures (Tm (WithName G) s A) s body refl))

pub subject_row-requires : goal.subject_row-requires
subject_row-requires c =
    let (G, t, S, kids) = c.requires in
    let f = subst (λ k. AreKids c.args.book.now k G t S) c.in-Type.is kids in
    (Tm G t S, t, f.2, refl)

pub returns-in-Type-clause-row : goal.returns-in-Type-clause-row
returns-in-Type-clause-row c =
    let (G, t, S, kids) = c.requires in
    let f = subst (λ k. AreKids c.args.book.now k G t S) c.in-Type.is kids in
    (t, c.subject_row.ensures (Tm G t S) t f.2 refl)
