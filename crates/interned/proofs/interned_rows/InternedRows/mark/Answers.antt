use Rattle.std.proofs.Common.{◌∙◌, sym}
use Rattle.rows.proofs.TableLaws.{length-built}
use Rattle.interned.specs.Coded.{thing_of}
use Rattle.interned.proofs.interned_rows.InternedRows.mark.Goals as goal

pub returns : goal.returns
returns c = c.mark.ensures ∙ sym (length-built thing_of c.args.self.now.region.rows)
