use Rattle.std.proofs.Common.{sym, ◌∙◌}
use Rattle.rows.specs.Held.{thing_of}
use Rattle.rows.proofs.TableLaws.{length-built}
use Rattle.rows.proofs.store.RowStore.len.Goals as goal

pub returns : goal.returns
returns c =
    let s = c.args.self.now in
    c.len.ensures ∙ s.rows.ok.0 ∙ sym (length-built (thing_of s.kids.items s.subs.items) s.rows.items)
