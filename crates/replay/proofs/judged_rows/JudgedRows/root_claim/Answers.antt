use Rattle.std.proofs.Common.{◌<◌, length, arith, refl, sym, ◌∙◌}
use Rattle.std.proofs.lemmas.Option.{slice_get_read}
use Rattle.replay.specs.Meant.{meant_by}
use Rattle.replay.proofs.RootLaws.{roots_counted, root_there, root_is}
use Rattle.replay.proofs.judged_rows.JudgedRows.root_claim.Goals as goal

pub index-requires : goal.index-requires
index-requires c =
    let s = c.args.self.now in
    omega (arith, c.requires, s.roots.ok.0, roots_counted (meant_by s.judge) s.roots.items s.are_nodes)

pub conclusion-requires : goal.conclusion-requires
conclusion-requires c =
    let s = c.args.self.now in
    let ks = s.roots.items in
    let within : c.args.at < length ks = omega (arith, c.requires, roots_counted (meant_by s.judge) ks s.are_nodes) in
    root_there (meant_by s.judge) ks c.args.at c.index.result.now s.are_nodes (slice_get_read ks (length ks) c.args.at c.index.result.now refl within c.index.ensures)

pub returns : goal.returns
returns c =
    let s = c.args.self.now in
    let ks = s.roots.items in
    let within : c.args.at < length ks = omega (arith, c.requires, roots_counted (meant_by s.judge) ks s.are_nodes) in
    c.conclusion.ensures ∙ sym (root_is (meant_by s.judge) ks c.args.at c.index.result.now s.are_nodes (slice_get_read ks (length ks) c.args.at c.index.result.now refl within c.index.ensures))
