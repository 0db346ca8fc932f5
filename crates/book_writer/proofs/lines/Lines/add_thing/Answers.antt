use Rattle.std.proofs.Common.{◌∙◌, sym, ap₂, subst, List}
use Rattle.trees.specs.Things.{Kept}
use Rattle.rows.proofs.MeaningLaws.{is_some-value}
use Rattle.derivation.specs.Right.{thing_made}
use Rattle.deriv_file.specs.declared.row.Row.{Row}
use Rattle.book_writer.specs.Held.{row_of}
use Rattle.book_writer.specs.Means.{lines_mean, IsFile}
use Rattle.book_writer.proofs.MeansLaws.{thing-means, lines-kept, lines-next}
use Rattle.book_writer.proofs.lines.Lines.add_thing.Goals as goal

pub add-requires-clause-right : goal.add-requires-clause-right
add-requires-clause-right c =
    let rows = c.args.self.now in
    let r = row_of c.args.head c.args.names.now in
    let x = is_some-value (thing_made (lines_mean rows) r) c.requires.means in
    (thing-means rows (subst IsFile c.self.view_is c.self.invariant.1) r x.0 x.1).0

pub returns-clause-kept : goal.returns-clause-kept
returns-clause-kept c =
    let rows = c.args.self.now in
    subst (λ (new : List Row). Kept (lines_mean rows) (lines_mean new)) (sym c.in_ok-add.ensures.row) (lines-kept rows (row_of c.args.head c.args.names.now))

pub returns-clause-meaning : goal.returns-clause-meaning
returns-clause-meaning c =
    let rows = c.args.self.now in
    let r = row_of c.args.head c.args.names.now in
    let x = is_some-value (thing_made (lines_mean rows) r) c.requires.means in
    ap₂ lines_mean c.in_ok-add.ensures.row c.in_ok-add.ensures.place ∙ lines-next rows (subst IsFile c.self.view_is c.self.invariant.1) r x.0 x.1 ∙ sym x.1
