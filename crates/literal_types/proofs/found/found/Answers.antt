use Rattle.std.proofs.Common.{reverse, sym, subst}
use Rattle.literal_types.specs.declared.waiting.Waiting.TheVariants as waiting
use Rattle.literal_types.specs.Waits.{Stands, StandsOrNot}
use Rattle.literal_types.proofs.WaitLaws.{pushed_one, stands_same, stands_instance, stands_variable, stands_other, untyped, variable_is_no_form}
use Rattle.literal_types.proofs.found.found.Goals as goal

pub opened-requires : goal.opened-requires
opened-requires c =
    let (H, T, at) = c.requires in
    let s = c.loop-next.invariant.stands H T at in
    (s.home, s.tree, s.types)

pub loop-next-preserved-in-Same : goal.loop-next-preserved-in-Same
loop-next-preserved-in-Same c = record {
  stands = λ H T at.
      let s = c.loop-next.invariant.stands H T at in
      stands_same s c.in-Same.next (c.in-Same.ensures.opens s.home s.tree s.types);
}

pub loop-next-preserved-in-Instance : goal.loop-next-preserved-in-Instance
loop-next-preserved-in-Instance c = record {
  stands = λ H T at.
      let s = c.loop-next.invariant.stands H T at in
      let order = pushed_one c.push.new.self.items c.loop-next.waiting.items (waiting.Sub c.in-Instance.sub) c.in_ok-push-in-Instance.ensures.items in
      subst (λ ws. Stands c.args.book.now c.in-Instance.next ws H T) (sym order) (stands_instance s c.in-Instance.sub c.in-Instance.next (c.in-Instance.ensures.opens s.home s.tree s.types));
}

pub looked_up-requires : goal.looked_up-requires
looked_up-requires c =
    let (H, T, at) = c.requires in
    let s = c.loop-next.invariant.stands H T at in
    let (S, entered) = stands_variable s (c.in-Variable.ensures.opens s.home s.tree s.types) in
    (H, T, S, entered)

pub loop-next-preserved : goal.loop-next-preserved
loop-next-preserved c = record {
  stands = λ H T at.
      let s = c.loop-next.invariant.stands H T at in
      let (S, entered) = stands_variable s (c.in-Variable.ensures.opens s.home s.tree s.types) in
      untyped (subst (λ o. StandsOrNot c.args.book.now o (reverse c.looked_up.new.waiting.items) H T S) c.in-Some.is (c.in_ok-next-in-Variable.ensures.stands H T S entered));
}

pub returns-in-None : goal.returns-in-None
returns-in-None c = λ H T at.
    let s = c.loop-next.invariant.stands H T at in
    let (S, entered) = stands_variable s (c.in-Variable.ensures.opens s.home s.tree s.types) in
    let (k, is) = subst (λ o. StandsOrNot c.args.book.now o (reverse c.looked_up.new.waiting.items) H T S) c.in-None.is (c.in_ok-next-in-Variable.ensures.stands H T S entered) in
    variable_is_no_form T k is

pub returns-in-Formed : goal.returns-in-Formed
returns-in-Formed c = λ H T at.
    let s = c.loop-next.invariant.stands H T at in
    (s.home, s.tree, c.in-Formed.ensures.opens s.home s.tree s.types, s.waits)

pub returns-in-Other : goal.returns-in-Other
returns-in-Other c = λ H T at.
    let s = c.loop-next.invariant.stands H T at in
    stands_other s (c.in-Other.ensures.opens s.home s.tree s.types)
