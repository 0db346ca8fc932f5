use Rattle.std.proofs.Common.{◌≡◌, ◌++◌, ◌∷◌, [], get_or, IsTrue, sym, ◌∙◌, arith}
use Rattle.std.proofs.lemmas.List.Elements.{All-same, All-push}
use Rattle.circuits.specs.declared.gates.Gate.TheVariants as gate
use Rattle.circuits.specs.declared.gates.Wire.{Wire}
use Rattle.circuits.specs.Circuits.{wire_truth}
use Rattle.circuits.proofs.FixLaws.{as_gate, kids_in}
use Rattle.circuits.proofs.branch.Branch.see_to.Goals as goal

pub asks_of-requires-clause-left : goal.asks_of-requires-clause-left
asks_of-requires-clause-left c =
    let at : get_or c.args.gates.now c.args.gate gate.Top ≡ gate.Both c.in-Both.left c.in-Both.right = cc in
    let kids = kids_in c.args.gates.now c.args.gate c.in-Both.left c.in-Both.right c.requires.ordered c.requires.gate at in
    let left = kids.0 in omega arith

pub asks_of-requires-clause-right : goal.asks_of-requires-clause-right
asks_of-requires-clause-right c =
    let at : get_or c.args.gates.now c.args.gate gate.Top ≡ gate.Both c.in-Both.left c.in-Both.right = cc in
    let kids = kids_in c.args.gates.now c.args.gate c.in-Both.left c.in-Both.right c.requires.ordered c.requires.gate at in
    let right = kids.1 in omega arith

pub returns-in_ok-push-in-One-clause-fits : goal.returns-in_ok-push-in-One-clause-fits
returns-in_ok-push-in-One-clause-fits c = λ w o f h.
    let at : get_or c.args.gates.now c.args.gate gate.Top ≡ gate.Both c.in-Both.left c.in-Both.right = cc in
    let P : Wire → Type 0 = λ x. IsTrue (wire_truth w x) in
    let not_both = sym (as_gate c.args.gates.now w c.args.gate (gate.Both c.in-Both.left c.in-Both.right) o c.requires.gate at) ∙ h in
    record {
      known = f.known;
      wanted =
          All-same P c.push.new.self.items (c.args.self.now.wanted.items ++ c.in-One.wire ∷ []) c.in_ok-push-in-One.ensures.items
          (All-push P c.args.self.now.wanted.items c.in-One.wire f.wanted (c.in-One.ensures.1 w f not_both));
      unsettled = f.unsettled;
    }
