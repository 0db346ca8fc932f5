use Rattle.std.proofs.Common.{◌∙◌, sym}
use Rattle.trees.specs.Things.{ASubst}
use Rattle.interned.specs.Shown.{rows_mean}
use Rattle.interned.proofs.CodingLaws.{term_meaning-kind}
use Rattle.interned.proofs.interned_rows.InternedRows.add_term.Goals as goal

pub add-requires-clause-sized : goal.add-requires-clause-sized
add-requires-clause-sized c = λ d e.
    let f = rows_mean c.args.self.now in
    let kind = term_meaning-kind f c.args.row.now (ASubst d) (sym (c.term_words.ensures.meaning f) ∙ e) in
    cc
