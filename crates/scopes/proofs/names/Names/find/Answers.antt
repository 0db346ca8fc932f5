use Rattle.std.proofs.Common.{◌≡◌, ◌-◌, ◌<◌, ◌∙◌, ap, sym, subst, reverse, Some, None, false, arith, rules}
use Rattle.translation.specs.Names.{is_nameless}
use Rattle.scopes.specs.declared.names.Found.TheVariants as found
use Rattle.scopes.specs.Finding.{find}
use Rattle.scopes.specs.Linked.{newest, depth_of}
use Rattle.scopes.proofs.Kept.{found_bound, found_none, newest_below, seen, IsBelow}
use Rattle.scopes.proofs.names.Names.find.Goals as goal

pub returns-in_default : goal.returns-in_default
returns-in_default c =
    let es = reverse c.self.inside.entries.items in
    let x = c.args.name.now in
    let plain : is_nameless x ≡ false = search rules in
    let held = c.self.invariant.2 c.args.name in
    let kept : newest es x ≡ None = cc in
    c.built_in.ensures ∙ sym (ap (λ ns. find ns x) (sym c.self.view_is) ∙ found_none es x c.self.invariant.1 plain kept)

pub returns-in-Variable : goal.returns-in-Variable
returns-in-Variable c =
    let es = reverse c.self.inside.entries.items in
    let x = c.args.name.now in
    let b = c.in-Some.bound in
    let plain : is_nameless x ≡ false = search rules in
    let held = c.self.invariant.2 c.args.name in
    let kept : newest es x ≡ Some b = cc in
    sym (ap (λ ns. find ns x) (sym c.self.view_is) ∙ found_bound es x b c.self.invariant.1 plain kept
    ∙ ap (seen (depth_of es) b.level) c.in-Variable.is ∙ ap (λ d. found.Variable (d - 1 - b.level)) (sym c.self.invariant.0))

pub returns-in-Interval : goal.returns-in-Interval
returns-in-Interval c =
    let es = reverse c.self.inside.entries.items in
    let x = c.args.name.now in
    let b = c.in-Some.bound in
    let plain : is_nameless x ≡ false = search rules in
    let held = c.self.invariant.2 c.args.name in
    let kept : newest es x ≡ Some b = cc in
    sym (ap (λ ns. find ns x) (sym c.self.view_is) ∙ found_bound es x b c.self.invariant.1 plain kept
    ∙ ap (seen (depth_of es) b.level) c.in-Interval.is ∙ ap (λ d. found.Interval (d - 1 - b.level)) (sym c.self.invariant.0))

pub returns-in-Definition : goal.returns-in-Definition
returns-in-Definition c =
    let es = reverse c.self.inside.entries.items in
    let x = c.args.name.now in
    let b = c.in-Some.bound in
    let plain : is_nameless x ≡ false = search rules in
    let held = c.self.invariant.2 c.args.name in
    let kept : newest es x ≡ Some b = cc in
    sym (ap (λ ns. find ns x) (sym c.self.view_is) ∙ found_bound es x b c.self.invariant.1 plain kept
    ∙ ap (seen (depth_of es) b.level) c.in-Definition.is)

pub overflow_sub-result : goal.overflow_sub-result
overflow_sub-result c =
    let es = reverse c.self.inside.entries.items in
    let b = c.in-Some.bound in
    let held = c.self.invariant.2 c.args.name in
    let kept : newest es c.args.name.now ≡ Some b = cc in
    let below : b.level < depth_of es = subst (IsBelow b.level (depth_of es)) c.in-Variable.is (newest_below es c.args.name.now b c.self.invariant.1 kept) in
    let same = c.self.invariant.0 in
    omega arith

pub overflow_sub-result-in-Variable : goal.overflow_sub-result-in-Variable
overflow_sub-result-in-Variable c =
    let es = reverse c.self.inside.entries.items in
    let b = c.in-Some.bound in
    let held = c.self.invariant.2 c.args.name in
    let kept : newest es c.args.name.now ≡ Some b = cc in
    let below : b.level < depth_of es = subst (IsBelow b.level (depth_of es)) c.in-Variable.is (newest_below es c.args.name.now b c.self.invariant.1 kept) in
    let same = c.self.invariant.0 in
    omega arith

pub overflow_sub-result-in-Interval : goal.overflow_sub-result-in-Interval
overflow_sub-result-in-Interval c =
    let es = reverse c.self.inside.entries.items in
    let b = c.in-Some.bound in
    let held = c.self.invariant.2 c.args.name in
    let kept : newest es c.args.name.now ≡ Some b = cc in
    let below : b.level < depth_of es = subst (IsBelow b.level (depth_of es)) c.in-Interval.is (newest_below es c.args.name.now b c.self.invariant.1 kept) in
    let same = c.self.invariant.0 in
    omega arith

pub overflow_sub-result-in-Interval-2 : goal.overflow_sub-result-in-Interval-2
overflow_sub-result-in-Interval-2 c =
    let es = reverse c.self.inside.entries.items in
    let b = c.in-Some.bound in
    let held = c.self.invariant.2 c.args.name in
    let kept : newest es c.args.name.now ≡ Some b = cc in
    let below : b.level < depth_of es = subst (IsBelow b.level (depth_of es)) c.in-Interval.is (newest_below es c.args.name.now b c.self.invariant.1 kept) in
    let same = c.self.invariant.0 in
    omega arith
