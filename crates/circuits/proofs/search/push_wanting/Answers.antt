use Rattle.std.proofs.Common.{◌+◌, ◌++◌, IsTrue, length, length-append, ap, arith}
use Rattle.std.proofs.lemmas.List.Elements.{All-same, All-append}
use Rattle.circuits.specs.declared.gates.Wire.{Wire}
use Rattle.circuits.specs.declared.branch.Branch.{Branch}
use Rattle.circuits.specs.Circuits.{Labels, wire_truth, AreTrue, IsIn}
use Rattle.circuits.specs.Branches.{Fits, weight}
use Rattle.circuits.proofs.SpreadLaws.{adds_one}
use Rattle.circuits.proofs.search.push_wanting.Goals as goal

pub returns : goal.returns
returns c = λ gates within wires_in.
    let old = c.args.branch.wanted.items in
    let wires = c.args.wires.now in
    let new : Branch = record c.args.branch { wanted = c.extend_from_slice.new.self } in
    let items = c.in_ok-extend_from_slice.ensures.items in
    let Q : Labels → Type 0 = λ w. Fits w c.args.branch × AreTrue w wires in
    adds_one gates Q (weight c.args.branch + length wires + 1) new c.args.branches.now.items c.push.new.self.items c.in_ok-push.ensures.items
    record {
      known = within.known;
      wanted = All-same (IsIn gates) new.wanted.items (old ++ wires) items (All-append (IsIn gates) old wires within.wanted wires_in);
      unsettled = within.unsettled;
    }
    (λ w o q.
    let P : Wire → Type 0 = λ x. IsTrue (wire_truth w x) in
    record {
      known = (q.0).known;
      wanted = All-same P new.wanted.items (old ++ wires) items (All-append P old wires (q.0).wanted q.1);
      unsettled = (q.0).unsettled;
    })
    (let e = ap length items in omega (arith, length-append old wires))
