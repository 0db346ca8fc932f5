use Rattle.std.proofs.Common.{Some, reverse, subst}
use Rattle.trees.specs.Trees.{apply, id}
use Rattle.trees.specs.Language.{Sb, TyEq}
use Rattle.typed_nodes.proofs.GrowthLaws.{says_later}
use Rattle.literal_types.proofs.GrowthLaws.{extends_extends}
use Rattle.literal_terms.specs.Traces.{Fits}
use Rattle.literal_terms.proofs.TraceLaws.{fits_grow, joined_grows, stands_converted, type_under}
use Rattle.literal_terms.proofs.traces.Trace.convert.Goals as goal

pub equation_under-requires : goal.equation_under-requires
equation_under-requires c =
    let (H, t, T, x) = c.requires in
    let s = x.traced in
    let j = c.in_ok-sub.ensures.joined H t T s in
    let (R, typed, equal) = x.comes in
    (H, s.at.home, j.0, R, s.at.type, j.1, says_later _ _ c.args.equation (TyEq s.at.home R s.at.type) c.in_ok-sub.ensures.extends equal)

pub returns-in_err-under-clause-extends : goal.returns-in_err-under-clause-extends
returns-in_err-under-clause-extends c = extends_extends c.in_ok-sub.ensures.extends c.in_err-under.ensures.extends

pub fitting-requires : goal.fitting-requires
fitting-requires c =
    let (H, t, T, x) = c.requires in
    let s = x.traced in
    let grown = c.in_ok-sub.ensures.extends in
    let j = c.in_ok-sub.ensures.joined H t T s in
    let (R, typed, equal) = x.comes in
    let both = extends_extends grown c.in_ok-under.ensures.extends in
    let under = c.in_ok-under.ensures.typed H s.at.home j.0 R s.at.type j.1 (says_later _ _ c.args.equation (TyEq s.at.home R s.at.type) grown equal) in
    let fits = subst (λ S. Fits c.equation_under.new.book c.args.self.now.fits H S T) (type_under grown s.at c.in_ok-sub.sub j) (fits_grow both c.args.self.now.fits H s.type T s.fits) in
    (H, apply R j.0, apply s.at.type j.0, T, under, fits)

pub returns-in_err-fits-clause-extends : goal.returns-in_err-fits-clause-extends
returns-in_err-fits-clause-extends c = extends_extends (extends_extends c.in_ok-sub.ensures.extends c.in_ok-under.ensures.extends) c.in_err-fits.ensures.extends

pub returns-clause-extends : goal.returns-clause-extends
returns-clause-extends c = extends_extends (extends_extends c.in_ok-sub.ensures.extends c.in_ok-under.ensures.extends) c.in_ok-fits.ensures.extends

pub returns-clause-traced : goal.returns-clause-traced
returns-clause-traced c = λ H t T x.
    let s = x.traced in
    let self = c.args.self.now in
    let grown = c.in_ok-sub.ensures.extends in
    let j = c.in_ok-sub.ensures.joined H t T s in
    let (R, typed, equal) = x.comes in
    let both = extends_extends grown c.in_ok-under.ensures.extends in
    let all = extends_extends both c.in_ok-fits.ensures.extends in
    let later = joined_grows (extends_extends c.in_ok-under.ensures.extends c.in_ok-fits.ensures.extends) (Some c.in_ok-sub.sub) (reverse self.waiting.items) H s.at.home j in
    let under = c.in_ok-under.ensures.typed H s.at.home j.0 R s.at.type j.1 (says_later _ _ c.args.equation (TyEq s.at.home R s.at.type) grown equal) in
    let fits = subst (λ S. Fits c.equation_under.new.book self.fits H S T) (type_under grown s.at c.in_ok-sub.sub j) (fits_grow both self.fits H s.type T s.fits) in
    record {
      here = says_later _ _ self.here (Sb H id H) all s.here;
      type = apply R j.0;
      at = stands_converted all s.at c.args.term R typed c.in_ok-sub.sub later;
      joined = later;
      fits = c.in_ok-fits.ensures.typed H (apply R j.0) (apply s.at.type j.0) T under fits;
    }
