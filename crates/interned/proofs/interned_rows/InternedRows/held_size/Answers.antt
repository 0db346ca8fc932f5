use Rattle.std.proofs.Common.{◌∙◌, sym}
use Rattle.interned.proofs.interned_rows.InternedRows.held_size.Goals as goal

pub sub_size-requires-clause-few : goal.sub_size-requires-clause-few
sub_size-requires-clause-few c = (c.words.ensures.row.sized c.requires.0 (sym c.words.ensures.row.is ∙ c.requires.1)).few
