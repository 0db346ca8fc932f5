use Rattle.std.proofs.Common.{◌++◌, ◌∙◌, ap, sym, subst}
use Rattle.book_writer.specs.Written.{Appends, IsWritten}
use Rattle.session.proofs.found.derivation_of.Goals as goal

pub returns : goal.returns
returns c = λ Js conclude.
    let appended : Appends c.new-bytes.result.items c.write.new.into.items c.in_ok-_rows._rows Js = c.in_ok-_rows.ensures.ok Js conclude in
    let is = appended.is ∙ ap (λ old. old ++ appended.file) c.new-bytes.ensures.items in
    (c.in_ok-_rows._rows, subst (λ file. IsWritten file c.in_ok-_rows._rows Js) (sym is) appended.written)
