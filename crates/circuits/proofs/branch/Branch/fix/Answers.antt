use Rattle.std.proofs.Common.{◌≡◌, ◌<◌, true, not, length, get_or, Some, refl, sym, ◌∙◌, arith}
use Rattle.std.specs.Vec.{with_item}
use Rattle.circuits.specs.declared.gates.Gate.TheVariants as gate
use Rattle.circuits.specs.declared.gates.Wire.{Wire}
use Rattle.circuits.specs.declared.branch.Branch.{Branch}
use Rattle.circuits.proofs.FixLaws.{IsFixed, was_none, as_gate, fixed_alone, fixed_true, fixed_false}
use Rattle.circuits.proofs.branch.Branch.fix.Goals as goal

-- the branch with the gate of the wire fixed
abbrev with_fixed : Branch → Wire → Branch
with_fixed b x = record b { known = with_item b.known x.gate (Some (not x.negated)) }

top : (c : goal.In-Top) → IsFixed c.args.gates.now c.args.self.now c.args.wire (with_fixed c.args.self.now c.args.wire) (not c.args.wire.negated)
top c =
    let lt : c.args.wire.gate < length c.args.self.now.known.items = omega arith in
    let at : get_or c.args.gates.now c.args.wire.gate gate.Top ≡ gate.Top = cc in
    fixed_alone c.args.gates.now c.args.self.now c.args.wire (with_fixed c.args.self.now c.args.wire) (not c.args.wire.negated) c.requires.within refl
    (was_none c.args.self.now.known.items c.args.wire.gate c.index.result.now lt c.index.ensures c.in_default.is) refl refl
    (λ w o k. sym k ∙ as_gate c.args.gates.now w c.args.wire.gate gate.Top o c.requires.wire at)

pub returns-in-Top-clause-fits : goal.returns-in-Top-clause-fits
returns-in-Top-clause-fits c = (top c).fits

pub returns-in-Top-clause-no_more : goal.returns-in-Top-clause-no_more
returns-in-Top-clause-no_more c = let l = (top c).less in omega arith

pub returns-in-Top-clause-less : goal.returns-in-Top-clause-less
returns-in-Top-clause-less c = λ _. (top c).less

input : (c : goal.In-Input) → IsFixed c.args.gates.now c.args.self.now c.args.wire (with_fixed c.args.self.now c.args.wire) true
input c =
    let lt : c.args.wire.gate < length c.args.self.now.known.items = omega arith in
    fixed_alone c.args.gates.now c.args.self.now c.args.wire (with_fixed c.args.self.now c.args.wire) true c.requires.within refl
    (was_none c.args.self.now.known.items c.args.wire.gate c.index.result.now lt c.index.ensures c.in_default.is) refl refl (λ w o k. refl)

pub returns-in-Input-clause-fits : goal.returns-in-Input-clause-fits
returns-in-Input-clause-fits c = (input c).fits

pub returns-in-Input-clause-no_more : goal.returns-in-Input-clause-no_more
returns-in-Input-clause-no_more c = let l = (input c).less in omega arith

pub returns-in-Input-clause-less : goal.returns-in-Input-clause-less
returns-in-Input-clause-less c = λ _. (input c).less

both : (c : goal.In_ok-push-in-Both-2) → IsFixed c.args.gates.now c.args.self.now c.args.wire (record (with_fixed c.args.self.now c.args.wire) { wanted = c.push-then-truth.new.self }) true
both c =
    let lt : c.args.wire.gate < length c.args.self.now.known.items = omega arith in
    let at : get_or c.args.gates.now c.args.wire.gate gate.Top ≡ gate.Both c.in-Both.left c.in-Both.right = cc in
    fixed_true c.args.gates.now c.args.self.now c.args.wire (record (with_fixed c.args.self.now c.args.wire) { wanted = c.push-then-truth.new.self }) c.in-Both.left c.in-Both.right c.push.new.self.items c.requires.ordered c.requires.within refl
    (was_none c.args.self.now.known.items c.args.wire.gate c.index.result.now lt c.index.ensures c.in_default.is)
    c.requires.wire at c.if-truth.true c.in_ok-push-in-Both.ensures.items c.in_ok-push-in-Both-2.ensures.items refl

pub returns-in_ok-push-in-Both-2-clause-within : goal.returns-in_ok-push-in-Both-2-clause-within
returns-in_ok-push-in-Both-2-clause-within c = (both c).within

pub returns-in_ok-push-in-Both-2-clause-fits : goal.returns-in_ok-push-in-Both-2-clause-fits
returns-in_ok-push-in-Both-2-clause-fits c = (both c).fits

pub returns-in_ok-push-in-Both-2-clause-no_more : goal.returns-in_ok-push-in-Both-2-clause-no_more
returns-in_ok-push-in-Both-2-clause-no_more c = let l = (both c).less in omega arith

pub returns-in_ok-push-in-Both-2-clause-less : goal.returns-in_ok-push-in-Both-2-clause-less
returns-in_ok-push-in-Both-2-clause-less c = λ _. (both c).less

apart : (c : goal.In_ok-push-in-Both-3) → IsFixed c.args.gates.now c.args.self.now c.args.wire (record (with_fixed c.args.self.now c.args.wire) { unsettled = c.push-else-truth.new.self }) true
apart c =
    let lt : c.args.wire.gate < length c.args.self.now.known.items = omega arith in
    fixed_false c.args.gates.now c.args.self.now c.args.wire (record (with_fixed c.args.self.now c.args.wire) { unsettled = c.push-else-truth.new.self }) c.requires.within refl
    (was_none c.args.self.now.known.items c.args.wire.gate c.index.result.now lt c.index.ensures c.in_default.is)
    c.requires.wire c.if-truth.false refl c.in_ok-push-in-Both-3.ensures.items

pub returns-in_ok-push-in-Both-3-clause-fits : goal.returns-in_ok-push-in-Both-3-clause-fits
returns-in_ok-push-in-Both-3-clause-fits c = (apart c).fits

pub returns-in_ok-push-in-Both-3-clause-no_more : goal.returns-in_ok-push-in-Both-3-clause-no_more
returns-in_ok-push-in-Both-3-clause-no_more c = let l = (apart c).less in omega arith

pub returns-in_ok-push-in-Both-3-clause-less : goal.returns-in_ok-push-in-Both-3-clause-less
returns-in_ok-push-in-Both-3-clause-less c = λ _. (apart c).less
