use Rattle.std.proofs.Common.{◌∙◌, Some, ap, subst}
use Rattle.trees.specs.Things.{ASubst}
use Rattle.book_writer.specs.Held.{row_of}
use Rattle.book_writer.specs.Means.{IsFile}
use Rattle.book_writer.proofs.SubLaws.{line-within, sub-line, sub-shift, sub-push}
use Rattle.book_writer.proofs.LineLaws.{not-sub, push-row}
use Rattle.book_writer.proofs.lines.Lines.sub_line.Goals as goal

pub line-head-requires : goal.line-head-requires
line-head-requires c = line-within c.args.self.now c.args.at (ASubst c.requires.0) c.requires.1

pub unreachable-requires : goal.unreachable-requires
unreachable-requires c =
    let rows = c.args.self.now in
    let line = c.line-head.result in
    not-sub line.0 line.1.now (sub-line rows (subst IsFile c.self.view_is c.self.invariant.1) c.args.at (row_of line.0 line.1.now) c.requires.0 c.line-head.ensures.row c.requires.1) c.in_default.not-Shift c.in_default.not-Push

pub returns-in-Shift : goal.returns-in-Shift
returns-in-Shift c = λ d e.
    let line = c.line-head.result in
    sub-shift c.args.self.now (subst IsFile c.self.view_is c.self.invariant.1) c.args.at c.in-Shift.by d (c.line-head.ensures.row ∙ ap (λ h. Some (row_of h line.1.now)) c.in-Shift.is) e

pub returns-in-Push : goal.returns-in-Push
returns-in-Push c = λ d e.
    let line = c.line-head.result in
    sub-push c.args.self.now (subst IsFile c.self.view_is c.self.invariant.1) c.args.at _ _ d (c.line-head.ensures.row ∙ ap Some (push-row line.0 line.1.now c.in-Push.is c.line-head.ensures.count)) e
