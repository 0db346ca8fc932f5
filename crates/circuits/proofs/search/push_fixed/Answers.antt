use Rattle.std.proofs.Common.{◌^◌, IsTrue}
use Rattle.std.proofs.lemmas.Bool.{both_ways}
use Rattle.circuits.specs.Circuits.{Labels, wire_truth}
use Rattle.circuits.specs.Branches.{Fits, weight}
use Rattle.circuits.proofs.SpreadLaws.{adds_one, adds_none}
use Rattle.circuits.proofs.search.push_fixed.Goals as goal

pub returns-in_ok-push : goal.returns-in_ok-push
returns-in_ok-push c =
    let Q : Labels → Type 0 = λ w. Fits w c.args.branch × IsTrue (wire_truth w c.args.wire) in
    adds_one c.args.gates.now Q (weight c.args.branch) c.fix.new.self c.args.branches.now.items c.push.new.self.items c.in_ok-push.ensures.items c.in_ok-fix.ensures.within
    (λ w o q. (c.in_ok-fix.ensures.fits w o q.0 q.1).1) (c.in_ok-fix.ensures.less c.requires.unfixed)

pub returns-else-branch : goal.returns-else-branch
returns-else-branch c =
    let Q : Labels → Type 0 = λ w. Fits w c.args.branch × IsTrue (wire_truth w c.args.wire) in
    adds_none c.args.gates.now Q (3 ^ weight c.args.branch) c.args.branches.now.items
    (λ w o q. both_ways c.in_ok-fix.field-0 c.if-branch.false (c.in_ok-fix.ensures.fits w o q.0 q.1).0)
