use Rattle.std.proofs.Common.{reverse, subst}
use Rattle.trees.specs.Language.{Sb}
use Rattle.typed_nodes.proofs.GrowthLaws.{says_later}
use Rattle.literal_types.specs.declared.waiting.Waiting.TheVariants as waiting
use Rattle.literal_types.specs.Waits.{Joins}
use Rattle.literal_types.proofs.GrowthLaws.{extends_extends, entry_grows}
use Rattle.literal_types.proofs.WaitLaws.{popped_one}
use Rattle.literal_types.proofs.JoinLaws.{joins_sub, joins_entry}
use Rattle.literal_types.proofs.joins.joined.Goals as goal

pub joined_two-requires : goal.joined_two-requires
joined_two-requires c =
    let (H, T, K, A, from, w) = c.requires in
    let l = c.loop-next in
    let order = popped_one l.waiting.items c.pop.new.self.items c.in-Some.next (waiting.Sub c.in-Sub.inner) c.in-Some.ensures.items c.in-Sub.is in
    let (M, d, says, (L, e, first, rest)) = subst (λ ws. Joins c.args.book.now l.book l.sub ws H T K A) order (l.invariant.joins H T K A from w) in
    (L, M, K, e, d, says_later _ _ c.in-Sub.inner (Sb L e M) l.invariant.extends first, says)

pub returns-in_err-sub-in-Sub-clause-extends : goal.returns-in_err-sub-in-Sub-clause-extends
returns-in_err-sub-in-Sub-clause-extends c = extends_extends c.loop-next.invariant.extends c.in_err-sub-in-Sub.ensures.extends

pub past-requires : goal.past-requires
past-requires c =
    let (H, T, K, A, from, w) = c.requires in
    let l = c.loop-next in
    let order = popped_one l.waiting.items c.pop.new.self.items c.in-Some.next (waiting.Past c.in-Past.field-0 c.in-Past.entry) c.in-Some.ensures.items c.in-Past.is in
    let (M, d, says, (L, is, below, rest)) = subst (λ ws. Joins c.args.book.now l.book l.sub ws H T K A) order (l.invariant.joins H T K A from w) in
    (M, L, K, d, says, entry_grows c.in-Past.entry M L l.invariant.extends is)

pub returns-in_err-sub-in-Past-clause-extends : goal.returns-in_err-sub-in-Past-clause-extends
returns-in_err-sub-in-Past-clause-extends c = extends_extends c.loop-next.invariant.extends c.in_err-sub-in-Past.ensures.extends

pub loop-next-preserved-in_ok-sub-in-Sub : goal.loop-next-preserved-in_ok-sub-in-Sub
loop-next-preserved-in_ok-sub-in-Sub c = record {
  extends = extends_extends c.loop-next.invariant.extends c.in_ok-sub-in-Sub.ensures.extends;
  joins = λ H T K A from w.
      let l = c.loop-next in
      let order = popped_one l.waiting.items c.pop.new.self.items c.in-Some.next (waiting.Sub c.in-Sub.inner) c.in-Some.ensures.items c.in-Sub.is in
      joins_sub c.args.book.now l.book c.joined_two.new.book l.sub c.in_ok-sub-in-Sub.sub (reverse c.pop.new.self.items) H T K A c.in-Sub.inner
      (λ L M e d first says. c.in_ok-sub-in-Sub.ensures.typed L M K e d (says_later _ _ c.in-Sub.inner (Sb L e M) l.invariant.extends first) says)
      (subst (λ ws. Joins c.args.book.now l.book l.sub ws H T K A) order (l.invariant.joins H T K A from w));
}

pub loop-next-preserved : goal.loop-next-preserved
loop-next-preserved c = record {
  extends = extends_extends c.loop-next.invariant.extends c.in_ok-sub-in-Past.ensures.extends;
  joins = λ H T K A from w.
      let l = c.loop-next in
      let order = popped_one l.waiting.items c.pop.new.self.items c.in-Some.next (waiting.Past c.in-Past.field-0 c.in-Past.entry) c.in-Some.ensures.items c.in-Past.is in
      joins_entry c.args.book.now l.book c.past.new.book l.sub c.in_ok-sub-in-Past.sub (reverse c.pop.new.self.items) H T K A c.in-Past.field-0 c.in-Past.entry
      (λ M L d says is. c.in_ok-sub-in-Past.ensures.typed M L K d says (entry_grows c.in-Past.entry M L l.invariant.extends is))
      (subst (λ ws. Joins c.args.book.now l.book l.sub ws H T K A) order (l.invariant.joins H T K A from w));
}
