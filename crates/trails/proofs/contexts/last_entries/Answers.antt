use Rattle.std.proofs.Common.{sym, ap, ◌∙◌}
use Rattle.book.specs.Shown.{book_means}
use Rattle.book.proofs.FitLaws.{extends-refl}
use Rattle.trails.proofs.ContextLaws.{row_last, with-face, apart, not-name, not-variable, not-face, before-faces, apart-faces}
use Rattle.trails.proofs.contexts.last_entries.Goals as goal

pub returns-then-branch-2-clause-compared : goal.returns-then-branch-2-clause-compared
returns-then-branch-2-clause-compared c = λ G H left right.
    let f = book_means c.args.book.now in
    let rows = c.in-Face-Face in
    let l = with-face f rows.field-0-0.0 rows.field-1-0.0 G (sym rows.ensures.meaning ∙ left) in
    let r = with-face f rows.field-0-1.0 rows.field-1-1.0 H (sym rows.ensures'.meaning ∙ right) in
    let told = c.in_ok-same_faces-in-Face-Face.ensures.same l.before l.entry r.entry l.before_is l.entry_is r.entry_is in
    before-faces f (book_means c.same_faces.new.book) c.in_ok-same_faces-in-Face-Face.ensures.extends.rows _ _ _ _ G H l r (told.0 c.if-branch-2.true)

pub returns-else-branch-2-clause-compared : goal.returns-else-branch-2-clause-compared
returns-else-branch-2-clause-compared c = λ G H left right.
    let f = book_means c.args.book.now in
    let rows = c.in-Face-Face in
    let l = with-face f rows.field-0-0.0 rows.field-1-0.0 G (sym rows.ensures.meaning ∙ left) in
    let r = with-face f rows.field-0-1.0 rows.field-1-1.0 H (sym rows.ensures'.meaning ∙ right) in
    let told = c.in_ok-same_faces-in-Face-Face.ensures.same l.before l.entry r.entry l.before_is l.entry_is r.entry_is in
    apart-faces f _ _ _ _ G H l r (λ same. let wrong = sym c.if-branch-2.false ∙ told.1 same in cc)

pub returns-in_default-2 : goal.returns-in_default-2
returns-in_default-2 c = record {
  extends = extends-refl c.args.book.now;
  compared = λ G H left right.
      apart (book_means c.args.book.now) c.context.result c.context-2.result G H (sym c.context.ensures.meaning ∙ left) (sym c.context-2.ensures.meaning ∙ right)
      (λ same. not-name c.context-2.result c.in_default.not-Name-1 (sym (ap row_last c.in_default.is-0) ∙ same));
}

pub returns-in_default-3 : goal.returns-in_default-3
returns-in_default-3 c = record {
  extends = extends-refl c.args.book.now;
  compared = λ G H left right.
      apart (book_means c.args.book.now) c.context.result c.context-2.result G H (sym c.context.ensures.meaning ∙ left) (sym c.context-2.ensures.meaning ∙ right)
      (λ same. not-variable c.context-2.result c.in_default.not-Var-1 (sym (ap row_last c.in_default.is-0) ∙ same));
}

pub returns-in_default-4 : goal.returns-in_default-4
returns-in_default-4 c = record {
  extends = extends-refl c.args.book.now;
  compared = λ G H left right.
      apart (book_means c.args.book.now) c.context.result c.context-2.result G H (sym c.context.ensures.meaning ∙ left) (sym c.context-2.ensures.meaning ∙ right)
      (λ same. not-face c.context-2.result c.in_default.not-Face-1 (sym (ap row_last c.in_default.is-0) ∙ same));
}
