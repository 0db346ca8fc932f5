use Rattle.std.proofs.Common.{subst}
use Rattle.literal_terms.specs.Traces.{Fits}
use Rattle.literal_terms.proofs.TraceLaws.{fits_grow, formed_grows, tree_under, type_under}
use Rattle.literal_terms.proofs.traces.Trace.ended.Goals as goal

pub returns-clause-literal : goal.returns-clause-literal
returns-clause-literal c = λ H t T x.
    let s = x.traced in
    let new = c.as_one.new.book in
    let grown = c.in_ok-sub.ensures.extends in
    let j = c.in_ok-sub.ensures.joined H t T s in (
      s.at.home,
      j.0,
      s.at.tree,
      s.at.type,
      j.1,
      formed_grows grown c.args.form s.at.home s.at.tree s.at.type x.comes,
      tree_under grown s.at c.in_ok-sub.sub j,
      subst (λ S. Fits new c.args.self.now.fits H S T) (type_under grown s.at c.in_ok-sub.sub j) (fits_grow grown c.args.self.now.fits H s.type T s.fits),
    )
