use Rattle.std.proofs.Common.{◌≡◌, ◌∙◌, ◌++◌, ℕ, Some, length, sym, ap, subst, arith}
use Rattle.std.specs.Prelude.{slice_index_or}
use Rattle.std.proofs.lemmas.List.{length-map}
use Rattle.deriv_file.specs.Spelling.{spelled}
use Rattle.deriv_file.specs.declared.row.Row.{Row}
use Rattle.book_writer.specs.Held.{row_of}
use Rattle.book_writer.specs.Means.{IsFile}
use Rattle.book_writer.specs.Names.{renamed}
use Rattle.book_writer.proofs.NumberLaws.{line-names, renamed-row}
use Rattle.book_writer.proofs.lines.Lines.append_row.Goals as goal

pub placed-names-requires-clause-there : goal.placed-names-requires-clause-there
placed-names-requires-clause-there c =
    let line = c.line-head.result in
    line-names c.args.self.now (subst IsFile c.self.view_is c.self.invariant.1) c.args.at line.0 line.1.now c.line-head.ensures.row c.line-head.ensures.count (length c.args.numbers.now) (omega (arith, c.requires.row, c.requires.all))

pub file_row-requires : goal.file_row-requires
file_row-requires c =
    let line = c.line-head.result in
    ap length (c.as_slice.ensures.value ∙ c.placed-names.ensures) ∙ length-map line.1.now (λ k. slice_index_or c.args.numbers.now k 0) ∙ c.line-head.ensures.count

pub returns-clause-ok : goal.returns-clause-ok
returns-clause-ok c = λ r e.
    let line = c.line-head.result in
    let at : ℕ → ℕ = λ k. slice_index_or c.args.numbers.now k 0 in
    let same : Some r ≡ Some (row_of line.0 line.1.now) = sym e ∙ c.line-head.ensures.row in
    let is : r ≡ row_of line.0 line.1.now = cc in
    let row : c.in_ok-row.row ≡ renamed at r =
    c.in_ok-row.ensures ∙ ap (row_of line.0) (c.as_slice.ensures.value ∙ c.placed-names.ensures) ∙ renamed-row at line.0 line.1.now c.line-head.ensures.count ∙ ap (renamed at) (sym is) in
    c.in_ok-write_row.ensures.ok ∙ ap (λ (q : Row). c.args.into.now.items ++ spelled q) row
