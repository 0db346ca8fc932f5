use Rattle.std.proofs.Common.{reverse, ap, subst, arith}
use Rattle.literal_types.specs.declared.waiting.Waiting.TheVariants as waiting
use Rattle.literal_types.specs.Waits.{IsEntered, StandsAt, waiting_weight}
use Rattle.literal_types.proofs.WaitLaws.{popped_one, none_left, none_waits, past_waits}
use Rattle.literal_types.proofs.waiting.looked_up.Goals as goal

pub past_index-index-requires : goal.past_index-index-requires
past_index-index-requires c =
    let (H, T, S, at) = c.requires in
    let order = popped_one c.loop-next.waiting.items c.pop.new.self.items c.in-Some.next (waiting.Past c.in-Past.below c.in-Past.entry) c.in-Some.ensures.items c.in-Past.is in
    let there = subst (λ ws. IsEntered c.args.book.now c.loop-next.index ws H T S) order (c.loop-next.invariant.stands H T S at) in
    (there.home, there.type, there.waits.2, there.variable)

pub returns-in-Term-clause-stands : goal.returns-in-Term-clause-stands
returns-in-Term-clause-stands c = λ H T S at.
    let order = popped_one c.loop-next.waiting.items c.pop.new.self.items c.in-Some.next (waiting.Sub c.in-Sub.sub) c.in-Some.ensures.items c.in-Sub.is in
    let there = subst (λ ws. IsEntered c.args.book.now c.loop-next.index ws H T S) order (c.loop-next.invariant.stands H T S at) in
    subst (λ p. StandsAt c.args.book.now p (reverse c.entered.new.waiting.items) H T S) c.in-Term.is (c.in_ok-within-in-Sub.ensures.stands H T S there)

pub returns-clause-stands : goal.returns-clause-stands
returns-clause-stands c = λ H T S at.
    let left = none_left c.loop-next.waiting.items c.loop-next.waiting.len c.loop-next.waiting.ok.0 c.in_default.ensures.cases.0 in
    none_waits (subst (λ ws. IsEntered c.args.book.now c.loop-next.index ws H T S) left (c.loop-next.invariant.stands H T S at))

pub loop-next-preserved-in-Past : goal.loop-next-preserved-in-Past
loop-next-preserved-in-Past c =
    let order = popped_one c.loop-next.waiting.items c.pop.new.self.items c.in-Some.next (waiting.Past c.in-Past.below c.in-Past.entry) c.in-Some.ensures.items c.in-Past.is in
    let weighs = ap waiting_weight order in
    let less = c.loop-next.invariant.less in
    record {
      stands = λ H T S at. past_waits c.past_index-index.result c.past_index-index.ensures (subst (λ ws. IsEntered c.args.book.now c.loop-next.index ws H T S) order (c.loop-next.invariant.stands H T S at));
      less = omega (arith, weighs, less);
    }

pub entered-requires : goal.entered-requires
entered-requires c =
    let (H, T, S, at) = c.requires in
    let order = popped_one c.loop-next.waiting.items c.pop.new.self.items c.in-Some.next (waiting.Sub c.in-Sub.sub) c.in-Some.ensures.items c.in-Sub.is in
    (H, T, S, subst (λ ws. IsEntered c.args.book.now c.loop-next.index ws H T S) order (c.loop-next.invariant.stands H T S at))
