use Rattle.std.proofs.Common.{◌<◌, length, ap, subst, arith}
use Rattle.std.proofs.lemmas.List.Elements.{All-weaker}
use Rattle.rows.proofs.MeaningLaws.{is_some-value}
use Rattle.trees.specs.Things.{meanings}
use Rattle.book_writer.specs.Means.{IsFile, lines_conclude}
use Rattle.book_writer.proofs.LineLaws.{on_err, extends-on}
use Rattle.book_writer.proofs.PlaceLaws.{all-low, concludes-within}
use Rattle.book_writer.proofs.WriteLaws.{appended}
use Rattle.book_writer.proofs.lines.Lines.append_file.Goals as goal

pub served-requires : goal.served-requires
served-requires c =
    let rows = c.args.self.now in
    let Js = is_some-value (meanings (lines_conclude rows) c.args.roots.now) c.requires in
    all-low (lines_conclude rows) (length rows) (concludes-within rows) c.args.roots.now Js.0 Js.1

pub append_roots-requires : goal.append_roots-requires
append_roots-requires c =
    let rows = c.args.self.now in
    let Js = is_some-value (meanings (lines_conclude rows) c.args.roots.now) c.requires in
    let low = all-low (lines_conclude rows) (length rows) (concludes-within rows) c.args.roots.now Js.0 Js.1 in
    let marks = c.in_ok-marks.ensures.count in
    let of = rw c.deref.ensures.value at c.in_ok-of.ensures.of.count in
    All-weaker (λ k. k < length rows) (λ k. k < length c.deref-4.result.now) (λ k lt. omega (arith, marks, of, ap length c.deref-4.ensures.value)) c.args.roots.now low

pub returns-in_err-append_roots-clause-err : goal.returns-in_err-append_roots-clause-err
returns-in_err-append_roots-clause-err c = on_err c.from_residual-in_err-append_roots.result (extends-on c.args.into.now.items c.append_marked.new.into.items c.append_roots.new.into.items _ c.in_ok-append_marked.ensures.ok c.in_err-append_roots.ensures.err)

pub returns-clause-ok : goal.returns-clause-ok
returns-clause-ok c = λ Js e.
    let rows = c.args.self.now in
    let numbering = c.in_ok-of.field-0 in
    appended rows (subst IsFile c.self.view_is c.self.invariant.1) c.args.roots.now c.in_ok-marks.marks.items c.in_ok-marks.ensures numbering.of.items (rw c.deref.ensures.value at c.in_ok-of.ensures.of) c.args.into.now.items c.append_marked.new.into.items c.append_roots.new.into.items (rw c.deref-2.ensures.value at c.in_ok-append_marked.ensures.ok) (rw c.deref-4.ensures.value at c.in_ok-append_roots.ensures.ok) numbering.count c.in-Some.rows (rw c.deref.ensures.value at c.in_ok-of.ensures.count) (omega arith) (omega arith) Js e
