use Rattle.std.proofs.Common.{◌++◌, ◌∙◌, ap, refl, subst, sym}
use Rattle.book_writer.specs.Written.{Appends, IsWritten}
use Rattle.evidence.proofs.lines.with_file.Goals as goal

pub returns : goal.returns
returns c = λ Js conclude.
    let appended : Appends c.new-bytes.result.items c.write.new.into.items c.in_ok-_rows._rows Js = c.in_ok-_rows.ensures.ok Js conclude in
    let file = appended.is ∙ ap (λ old. old ++ appended.file) c.new-bytes.ensures.items in
    record {
      shown_is = refl;
      rows = c.in_ok-_rows._rows;
      written = subst (λ bytes. IsWritten bytes c.in_ok-_rows._rows Js) (sym file) appended.written;
    }
