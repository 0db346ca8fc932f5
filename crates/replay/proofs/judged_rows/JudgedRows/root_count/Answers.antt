use Rattle.std.proofs.Common.{arith}
use Rattle.replay.specs.Meant.{meant_by}
use Rattle.replay.proofs.RootLaws.{roots_counted}
use Rattle.replay.proofs.judged_rows.JudgedRows.root_count.Goals as goal

pub returns : goal.returns
returns c =
    let s = c.args.self.now in
    omega (arith, c.len.ensures, s.roots.ok.0, roots_counted (meant_by s.judge) s.roots.items s.are_nodes)
