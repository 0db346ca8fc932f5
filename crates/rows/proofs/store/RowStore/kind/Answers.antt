use Rattle.std.proofs.Common.{sym, ◌∙◌, ap, Some}
use Rattle.std.specs.Prelude.{option_map}
use Rattle.trees.specs.Things.{kind_of}
use Rattle.rows.proofs.HeldLaws.{means_there}
use Rattle.rows.proofs.store.RowStore.kind.Goals as goal

pub returns : goal.returns
returns c =
    let s = c.args.self.now in
    let m = means_there s.rows.items s.kids.items s.subs.items s.held c.args.row c.row.result c.row.ensures in
    ap (option_map kind_of) m.at ∙ ap Some (m.kind ∙ sym c.kind.ensures)
