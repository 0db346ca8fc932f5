use Rattle.std.proofs.Common.{reverse, refl, sym, ap, subst, Some}
use Rattle.literal_types.proofs.GrowthLaws.{extends_extends, extends_itself}
use Rattle.literal_terms.specs.Traces.{IsJoined, LooksUp}
use Rattle.literal_terms.proofs.TraceLaws.{joined_here, other_waits, restacked, stands_again, stands_here}
use Rattle.literal_terms.proofs.traces.literal_term.Goals as goal

pub loop-term-init : goal.loop-term-init
loop-term-init c = record {
  extends = extends_itself c.args.book.now;
  traced = λ H t T typing here.
      let b = c.args.book.now in
      let none = sym (ap reverse c.new.ensures.items) in
      record {
        here = here;
        type = T;
        at = restacked none (stands_here b c.args.typing H t T typing);
        joined = subst (λ ws. IsJoined b (Some c.args.here) ws H H) none (joined_here b c.args.here H here);
        fits = refl;
      };
}

pub opened-requires : goal.opened-requires
opened-requires c =
    let (H, t, T, typing, here) = c.requires in
    let x = c.loop-term.invariant.traced H t T typing here in
    (x.at.home, x.at.tree, x.at.type, x.at.says)

pub loop-term-preserved-in-Same : goal.loop-term-preserved-in-Same
loop-term-preserved-in-Same c = record {
  extends = c.loop-term.invariant.extends;
  traced = λ H t T typing here.
      let x = c.loop-term.invariant.traced H t T typing here in
      record {
        here = x.here;
        type = x.type;
        at = stands_again x.at c.in-Same.term (c.in-Same.ensures.comes x.at.home x.at.tree x.at.type x.at.says);
        joined = x.joined;
        fits = x.fits;
      };
}

pub convert-requires : goal.convert-requires
convert-requires c =
    let (H, t, T, typing, here) = c.requires in
    let x = c.loop-term.invariant.traced H t T typing here in
    (H, t, T, record { traced = x; comes = c.in-Converted.ensures.comes x.at.home x.at.tree x.at.type x.at.says })

pub loop-term-preserved-in_ok-convert-in-Converted : goal.loop-term-preserved-in_ok-convert-in-Converted
loop-term-preserved-in_ok-convert-in-Converted c = record {
  extends = extends_extends c.loop-term.invariant.extends c.in_ok-convert-in-Converted.ensures.extends;
  traced = λ H t T typing here.
      let x = c.loop-term.invariant.traced H t T typing here in
      c.in_ok-convert-in-Converted.ensures.traced H t T (record { traced = x; comes = c.in-Converted.ensures.comes x.at.home x.at.tree x.at.type x.at.says });
}

pub returns-in_err-convert-in-Converted-clause-extends : goal.returns-in_err-convert-in-Converted-clause-extends
returns-in_err-convert-in-Converted-clause-extends c = extends_extends c.loop-term.invariant.extends c.in_err-convert-in-Converted.ensures.extends

pub enter-requires : goal.enter-requires
enter-requires c =
    let (H, t, T, typing, here) = c.requires in
    let x = c.loop-term.invariant.traced H t T typing here in
    (H, t, T, record { traced = x; comes = c.in-Instance.ensures.comes x.at.home x.at.tree x.at.type x.at.says })

pub loop-term-preserved-in_ok-enter-in-Instance : goal.loop-term-preserved-in_ok-enter-in-Instance
loop-term-preserved-in_ok-enter-in-Instance c = record {
  extends = extends_extends c.loop-term.invariant.extends c.in_ok-enter-in-Instance.ensures.extends;
  traced = λ H t T typing here.
      let x = c.loop-term.invariant.traced H t T typing here in
      c.in_ok-enter-in-Instance.ensures.traced H t T (record { traced = x; comes = c.in-Instance.ensures.comes x.at.home x.at.tree x.at.type x.at.says });
}

pub returns-in_err-enter-in-Instance-clause-extends : goal.returns-in_err-enter-in-Instance-clause-extends
returns-in_err-enter-in-Instance-clause-extends c = extends_extends c.loop-term.invariant.extends c.in_err-enter-in-Instance.ensures.extends

pub look_up-requires : goal.look_up-requires
look_up-requires c =
    let (H, t, T, typing, here) = c.requires in
    let x = c.loop-term.invariant.traced H t T typing here in
    (H, t, T, record { traced = x; comes = c.in-Variable.ensures.comes x.at.home x.at.tree x.at.type x.at.says })

pub returns-then-not-branch-clause-literal : goal.returns-then-not-branch-clause-literal
returns-then-not-branch-clause-literal c = λ H t T typing here.
    let x = c.loop-term.invariant.traced H t T typing here in
    subst (λ more. LooksUp c.loop-term.book c.look_up.new.self more H t T) c.if-not-branch.true
    (c.in_ok-look_up-in-Variable.ensures.traced H t T (record { traced = x; comes = c.in-Variable.ensures.comes x.at.home x.at.tree x.at.type x.at.says }))

pub loop-term-preserved : goal.loop-term-preserved
loop-term-preserved c = record {
  extends = c.loop-term.invariant.extends;
  traced = λ H t T typing here.
      let x = c.loop-term.invariant.traced H t T typing here in
      subst (λ more. LooksUp c.loop-term.book c.look_up.new.self more H t T) c.if-not-branch.false
      (c.in_ok-look_up-in-Variable.ensures.traced H t T (record { traced = x; comes = c.in-Variable.ensures.comes x.at.home x.at.tree x.at.type x.at.says }));
}

pub ended-requires : goal.ended-requires
ended-requires c =
    let (H, t, T, typing, here) = c.requires in
    let x = c.loop-term.invariant.traced H t T typing here in
    (H, t, T, record { traced = x; comes = c.in-Formed.ensures.comes x.at.home x.at.tree x.at.type x.at.says })

pub returns-in_err-ended-in-Formed-clause-extends : goal.returns-in_err-ended-in-Formed-clause-extends
returns-in_err-ended-in-Formed-clause-extends c = extends_extends c.loop-term.invariant.extends c.in_err-ended-in-Formed.ensures.extends

pub returns-in-Formed-clause-extends : goal.returns-in-Formed-clause-extends
returns-in-Formed-clause-extends c = extends_extends c.loop-term.invariant.extends c.in_ok-ended-in-Formed.ensures.extends

pub returns-in-Formed-clause-literal : goal.returns-in-Formed-clause-literal
returns-in-Formed-clause-literal c = λ H t T typing here.
    let x = c.loop-term.invariant.traced H t T typing here in
    c.in_ok-ended-in-Formed.ensures.literal H t T (record { traced = x; comes = c.in-Formed.ensures.comes x.at.home x.at.tree x.at.type x.at.says })

pub returns-in-Other-clause-literal : goal.returns-in-Other-clause-literal
returns-in-Other-clause-literal c = λ H t T typing here.
    let x = c.loop-term.invariant.traced H t T typing here in
    other_waits c.loop-term.book (reverse c.loop-term.trace.waiting.items) H t x.at.home x.at.tree (c.in-Other.ensures.comes x.at.home x.at.tree x.at.type x.at.says) x.at.waits
