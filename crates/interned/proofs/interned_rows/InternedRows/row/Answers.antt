use Rattle.std.proofs.Common.{◌∙◌, sym, ap, take}
use Rattle.std.specs.Prelude.{slice_get, option_and_then}
use Rattle.interned.specs.Coding.{thing_coded}
use Rattle.interned.specs.Names.{row_names}
use Rattle.interned.specs.Shown.{things}
use Rattle.interned.proofs.CodedLaws.{earlier-names}
use Rattle.interned.proofs.NameLaws.{row_names-mean}
use Rattle.interned.proofs.interned_rows.InternedRows.row.Goals as goal

pub returns-clause-earlier : goal.returns-clause-earlier
returns-clause-earlier c =
    let k = c.args.row in
    let xs = things c.args.self.now in
    let f = slice_get (take k xs) in
    let row = c.coded_row.result in
    earlier-names k xs (row_names row) (row_names-mean f row c.words.ensures.row.thing (sym (c.coded_row.ensures f) ∙ c.words.ensures.row.before))

pub returns-clause-over : goal.returns-clause-over
returns-clause-over c = λ f. ap (option_and_then (thing_coded f)) c.words.ensures.words ∙ c.coded_row.ensures f
