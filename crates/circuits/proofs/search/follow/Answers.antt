use Rattle.std.proofs.Common.{◌≡◌, ◌+◌, ◌*◌, ◌^◌, Bool, Option, List, false, length, refl, sym, ◌∙◌, ap, subst, arith}
use Rattle.std.proofs.lemmas.Bool.{both_ways, false≢true}
use Rattle.circuits.specs.declared.branch.Branch.{Branch}
use Rattle.circuits.specs.Circuits.{Labels, AreTrue}
use Rattle.circuits.specs.Branches.{Fits, weight}
use Rattle.circuits.specs.Evaluations.{labels_of, IsEvaluated, NoneIsFree}
use Rattle.circuits.proofs.EvaluateLaws.{evaluated_obeys, found_true}
use Rattle.circuits.proofs.SpreadLaws.{adds_none, adds_wider, power_le, taken_within, taken_fits, taken_weight}
use Rattle.circuits.proofs.search.follow.Goals as goal

pub returns-then-not-branch : goal.returns-then-not-branch
returns-then-not-branch c =
    let R : Labels → Type 0 = λ w. Fits w c.args.branch × AreTrue w c.args.goals.now in
    record {
      yes = λ e. absurd (false≢true e);
      no = λ _. adds_none c.args.gates.now R (2 * 3 ^ weight c.args.branch) c.args.branches.now.items
          (λ w o q. both_ways c.in_ok-settle.field-0 c.if-not-branch.true (c.in_ok-settle.ensures.fits w o q.0).0);
    }

pub split_gate-requires-clause-within : goal.split_gate-requires-clause-within
split_gate-requires-clause-within c =
    taken_within c.args.gates.now c.settle.new.self c.take_highest.new.self c.in-Some.gate c.in-Some.ensures.taken c.in_ok-settle.ensures.within

pub returns-in-Some : goal.returns-in-Some
returns-in-Some c =
    let settled = c.settle.new.self in
    let taken = c.take_highest.new.self in
    let g = c.in-Some.gate in
    let Q : Labels → Type 0 = λ w. Fits w taken × (w g ≡ false) in
    let R : Labels → Type 0 = λ w. Fits w c.args.branch × AreTrue w c.args.goals.now in
    let e = taken_weight settled taken g c.in-Some.ensures.taken in
    let l = c.in_ok-settle.ensures.no_more in
    let p = power_le (weight taken + 3) (weight c.args.branch) (omega arith) in
    record {
      yes = λ f. absurd (false≢true f);
      no = λ _. adds_wider c.args.gates.now Q R (2 * 3 ^ (weight taken + 3)) (2 * 3 ^ weight c.args.branch) c.args.branches.now.items c.split_gate.new.branches.items c.in_ok-split_gate.ensures (omega arith)
          (λ w o q. taken_fits w settled taken g c.in-Some.ensures.taken (c.in_ok-settle.ensures.fits w o q.0).1);
    }

pub returns-then-are_true : goal.returns-then-are_true
returns-then-are_true c =
    let truths = c.in_ok-truths.truths.items in
    let T : List Bool → Type 0 = λ ts. AreTrue (labels_of ts) c.args.goals.now in
    record {
      yes = λ _. (labels_of truths, evaluated_obeys c.args.gates.now c.deref.result.now truths c.in_ok-truths.ensures, subst T c.deref-2.ensures.value (c.are_true.ensures.0 c.if-are_true.true));
      no = λ e. absurd (false≢true (sym e));
    }

pub returns-in_ok-split_input : goal.returns-in_ok-split_input
returns-in_ok-split_input c =
    let settled = c.settle.new.self in
    let taken = c.take_highest.new.self in
    let same : taken ≡ settled = c.in_default.ensures.same refl in
    let Q : Labels → Type 0 = λ w. Fits w taken in
    let R : Labels → Type 0 = λ w. Fits w c.args.branch × AreTrue w c.args.goals.now in
    let e = ap weight same in
    let l = c.in_ok-settle.ensures.no_more in
    let p = power_le (weight taken) (weight c.args.branch) (omega arith) in
    record {
      yes = λ f. absurd (false≢true f);
      no = λ _. adds_wider c.args.gates.now Q R (2 * 3 ^ weight taken) (2 * 3 ^ weight c.args.branch) c.args.branches.now.items c.split_input.new.branches.items c.in_ok-split_input.ensures (omega arith)
          (λ w o q. let P : Branch → Type 0 = λ b. Fits w b in subst P (sym same) (c.in_ok-settle.ensures.fits w o q.0).1);
    }

pub returns-in_default-free_input : goal.returns-in_default-free_input
returns-in_default-free_input c =
    let gates = c.args.gates.now in
    let goals = c.args.goals.now in
    let settled = c.settle.new.self in
    let taken = c.take_highest.new.self in
    let same : taken ≡ settled = c.in_default.ensures.same refl in
    let known = taken.known.items in
    let truths = c.in_ok-truths.truths.items in
    let len : length known ≡ length gates = ap (λ b. length b.known.items) same ∙ c.in_ok-settle.ensures.within.known in
    let E : List (Option Bool) → Type 0 = λ k. IsEvaluated gates k truths (length gates) in
    let N : List (Option Bool) → Type 0 = λ k. NoneIsFree gates k in
    let T : List Bool → Type 0 = λ ts. AreTrue (labels_of ts) goals in
    let evaluated : IsEvaluated gates known truths (length gates) = subst E c.deref.ensures.value c.in_ok-truths.ensures in
    let none : NoneIsFree gates known = subst N c.deref-3.ensures.value (c.in_default-free_input.ensures.none refl) in
    let R : Labels → Type 0 = λ w. Fits w c.args.branch × AreTrue w goals in
    record {
      yes = λ f. absurd (false≢true f);
      no = λ _. adds_none gates R (2 * 3 ^ weight c.args.branch) c.args.branches.now.items
          (λ w o q.
          let P : Branch → Type 0 = λ b. Fits w b in
          let fits = subst P (sym same) (c.in_ok-settle.ensures.fits w o q.0).1 in
          let all = found_true gates known truths w goals c.requires.ordered len none o fits.known evaluated c.requires.goals q.1 in
          both_ways c.are_true.result c.if-are_true.false (c.are_true.ensures.1 (subst T (sym c.deref-2.ensures.value) all)));
    }
