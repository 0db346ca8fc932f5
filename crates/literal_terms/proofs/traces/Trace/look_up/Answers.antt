use Rattle.std.proofs.Common.{reverse, subst}
use Rattle.literal_types.specs.Waits.{StandsOrNot}
use Rattle.literal_terms.proofs.TraceLaws.{enters_variable, variable_is_none}
use Rattle.literal_terms.proofs.traces.Trace.look_up.Goals as goal

pub looked_up-requires : goal.looked_up-requires
looked_up-requires c =
    let (H, t, T, x) = c.requires in
    (H, t, x.traced.type, enters_variable x.traced.at x.comes.0 x.comes.1)

pub returns-in-Some-clause-traced : goal.returns-in-Some-clause-traced
returns-in-Some-clause-traced c = λ H t T x.
    let s = x.traced in
    record {
      here = s.here;
      type = s.type;
      at = subst (λ o. StandsOrNot c.args.book.now o (reverse c.looked_up.new.waiting.items) H t s.type) c.in-Some.is (c.in_ok-term.ensures.stands H t s.type (enters_variable s.at x.comes.0 x.comes.1));
      joined = tt;
      fits = s.fits;
    }

pub returns-in-None-clause-traced : goal.returns-in-None-clause-traced
returns-in-None-clause-traced c = λ H t T x.
    let s = x.traced in
    let (k, is) = subst (λ o. StandsOrNot c.args.book.now o (reverse c.looked_up.new.waiting.items) H t s.type) c.in-None.is (c.in_ok-term.ensures.stands H t s.type (enters_variable s.at x.comes.0 x.comes.1)) in
    variable_is_none t k is
