use Rattle.std.proofs.Common.{◌∙◌, ◌++◌, List, ℕ, Some, false, ap, subst, arith}
use Rattle.std.proofs.lemmas.Option.{slice_get-get_or}
use Rattle.deriv_file.specs.declared.row.Row.{Row}
use Rattle.deriv_file.specs.Spelling.{spelled}
use Rattle.book_writer.specs.Means.{IsFile}
use Rattle.book_writer.proofs.SubLaws.{there-at}
use Rattle.book_writer.proofs.NumberLaws.{held-renamed, line-more, line-skip, lines-all}
use Rattle.book_writer.proofs.lines.Lines.append_marked.Goals.{then-marks-at+in_ok-append_row, else-marks-at}
use Rattle.book_writer.proofs.lines.Lines.append_marked.Goals as goal

pub loop-at-preserved : goal.loop-at-preserved
loop-at-preserved c =
    let rows = c.args.self.now in
    let marks = c.args.marks.now in
    let l = c.loop-at in
    let old = c.args.into.now.items in
    let r = there-at rows l.at (omega arith) in
    let mark = slice_get-get_or marks l.at false (omega arith) in
    elim c.if-marks-at.branch [
      | then-marks-at+in_ok-append_row w ↦
          rw w.into-is (line-more marks rows l.at r.0 old l.into.items w.append_row.new.into.items (mark ∙ ap Some w.if-marks-at.true) r.1 l.invariant
          (w.in_ok-append_row.ensures.ok r.0 r.1 ∙ ap (λ (q : Row). l.into.items ++ spelled q) (held-renamed rows (subst IsFile c.self.view_is c.self.invariant.1) marks c.args.numbers.now c.requires.count c.requires.numbers l.at r.0 (omega arith) r.1)))
      | else-marks-at w ↦ rw w.into-is (l.invariant ∙ ap (λ (bs : List ℕ). old ++ bs) (line-skip marks rows l.at (omega arith) (mark ∙ ap Some w.if-marks-at.false)))
    ]

pub returns-clause-ok : goal.returns-clause-ok
returns-clause-ok c =
    c.loop-at.invariant ∙ ap (λ (bs : List ℕ). c.args.into.now.items ++ bs) (lines-all c.args.marks.now c.args.self.now c.loop-at.at c.requires.count (omega arith))
