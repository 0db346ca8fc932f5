use Rattle.std.proofs.Common.{◌∙◌, sym}
use Rattle.interned.specs.Shown.{rows_mean}
use Rattle.interned.proofs.CodingLaws.{row_of_context}
use Rattle.interned.proofs.interned_rows.InternedRowsReader.context.Goals as goal

pub unreachable-requires : goal.unreachable-requires
unreachable-requires c =
    let r = row_of_context (rows_mean c.args.self.now) c.row.result (c.requires.0, sym c.row.ensures.meaning ∙ c.requires.1) in
    c.in_default.not-Context r.0 r.1
