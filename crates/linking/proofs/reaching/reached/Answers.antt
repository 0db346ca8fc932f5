use Rattle.std.proofs.Common.{rules, ◌≡◌, ◌++◌, length, take, drop, slice_index_or, refl, sym, ◌∙◌, ap, subst}
use Rattle.linking.specs.Reaching.{either}
use Rattle.linking.proofs.ReachLaws.{Goes, either_length, goes_end, goes_on, goes_without, written_whole}
use Rattle.linking.proofs.reaching.reached.Goals as goal

pub loop-is_wanted-preserved-in-Continue-1 : goal.loop-is_wanted-preserved-in-Continue-1
loop-is_wanted-preserved-in-Continue-1 c =
    let ws = c.pop.new.self.items in
    let k = c.index-known-len.result in
    let new = c.want.new.wanted in
    let here = c.index-known-len.is ∙ ap (λ n. slice_index_or c.args.known.now n k) (c.len.ensures ∙ c.pop.new.self.ok.0) in
    let is : new ≡ either ws k.imports.items = c.want.ensures ∙ ap (λ xs. either xs c.deref.result.now) c.deref_mut.ensures.value ∙ ap (either ws) c.deref.ensures.value in
    let long : c.pop.new.self.len ≡ length new = c.pop.new.self.ok.0 ∙ sym (ap length is ∙ either_length ws k.imports.items) in
    subst (Goes c.args.known.now c.args.wanted.items (take c.pop.new.self.len (new ++ drop (length new) ws))) (sym c.in_ok-push.ensures.items)
    (goes_on c.args.known.now c.args.wanted.items c.loop-is_wanted.wanted.items c.loop-is_wanted.found.items ws c.in-Some.is_wanted c.in-Some.ensures.items k k here c.loop-is_wanted.invariant
    (take c.pop.new.self.len (new ++ drop (length new) ws)) _ c.if-is_wanted.true refl (written_whole c.pop.new.self.len new ws long ∙ is))

pub loop-is_wanted-preserved : goal.loop-is_wanted-preserved
loop-is_wanted-preserved c =
    goes_without c.args.known.now c.args.wanted.items c.loop-is_wanted.wanted.items c.loop-is_wanted.found.items c.pop.new.self.items c.in-Some.is_wanted
    c.in-Some.ensures.items c.if-is_wanted.false c.loop-is_wanted.invariant

pub returns : goal.returns
returns c = goes_end c.args.known.now c.args.wanted.items c.loop-is_wanted.wanted.items c.loop-is_wanted.found.items (search rules) c.loop-is_wanted.invariant
