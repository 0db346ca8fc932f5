use Rattle.std.proofs.Common.{◌≡◌, ◌*◌, ◌^◌, List, [], ◌∷◌, ◌++◌, Some, refl, sym, ◌∙◌, ap, subst, arith}
use Rattle.std.specs.List.{Any}
use Rattle.std.proofs.lemmas.List.Elements.{All-nil, All-cons, All-same, All-pop}
use Rattle.circuits.specs.declared.branch.Branch.{Branch}
use Rattle.circuits.specs.Circuits.{Labels, AreTrue}
use Rattle.circuits.specs.Branches.{IsWithin, Fits, weight}
use Rattle.circuits.proofs.SpreadLaws.{work_less, next_within, next_covers}
use Rattle.circuits.proofs.search.can_be_true.Goals as goal

pub loop-branch-init : goal.loop-branch-init
loop-branch-init c =
    let b = c.in_ok-new.field-0 in
    let one : c.push.new.self.items ≡ b ∷ [] = c.in_ok-push.ensures.items ∙ ap (λ bs. bs ++ b ∷ []) c.new-branches.ensures.items in
    let W : Branch → Type 0 = IsWithin c.args.gates.now in
    record {
      within = All-same W c.push.new.self.items (b ∷ []) one (All-cons W b [] c.in_ok-new.ensures.within (All-nil W));
      covers = λ w o g.
          let P : List Branch → Type 0 = λ bs. Any (Fits w) bs in
          subst P (sym one) (0, b, omega arith, refl, c.in_ok-new.ensures.fits w g);
    }

pub follow-requires-clause-within : goal.follow-requires-clause-within
follow-requires-clause-within c =
    (All-pop (IsWithin c.args.gates.now) c.loop-branch.branches.items c.pop.new.self.items (Some c.in-Some.branch) c.in-Some.ensures.items c.loop-branch.invariant.within).1

pub loop-branch-smaller : goal.loop-branch-smaller
loop-branch-smaller c =
    let b = c.in-Some.branch in
    let Q : Labels → Type 0 = λ w. Fits w b × AreTrue w c.args.goals.now in
    work_less c.args.gates.now Q b c.loop-branch.branches.items c.pop.new.self.items c.follow.new.branches.items c.in-Some.ensures.items (c.in_ok-follow.ensures.no c.if-branch.false)

pub loop-branch-preserved : goal.loop-branch-preserved
loop-branch-preserved c =
    let gates = c.args.gates.now in
    let b = c.in-Some.branch in
    let rest = c.pop.new.self.items in
    let new = c.follow.new.branches.items in
    let Q : Labels → Type 0 = λ w. Fits w b × AreTrue w c.args.goals.now in
    let adds = c.in_ok-follow.ensures.no c.if-branch.false in
    let within = (All-pop (IsWithin gates) c.loop-branch.branches.items rest (Some b) c.in-Some.ensures.items c.loop-branch.invariant.within).0 in
    record {
      within = next_within gates Q (2 * 3 ^ weight b) rest new adds within;
      covers = λ w o g. next_covers gates Q (2 * 3 ^ weight b) b c.loop-branch.branches.items rest new w c.in-Some.ensures.items adds o (λ f. (f, g)) (c.loop-branch.invariant.covers w o g);
    }
