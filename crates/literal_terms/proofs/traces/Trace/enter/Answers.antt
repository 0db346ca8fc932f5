use Rattle.std.proofs.Common.{reverse, sym, subst}
use Rattle.trees.specs.Trees.{id}
use Rattle.trees.specs.Language.{Sb}
use Rattle.typed_nodes.proofs.GrowthLaws.{says_later}
use Rattle.literal_types.specs.declared.waiting.Waiting.TheVariants as waiting
use Rattle.literal_types.proofs.WaitLaws.{pushed_one}
use Rattle.literal_terms.specs.Traces.{IsJoined}
use Rattle.literal_terms.proofs.TraceLaws.{fits_grow, restacked, stands_entered}
use Rattle.literal_terms.proofs.traces.Trace.enter.Goals as goal

pub below-requires : goal.below-requires
below-requires c =
    let (H, t, T, x) = c.requires in
    let (d, G, a, A, is_sub, is_term, tree, type) = x.comes in
    (H, x.traced.at.home, G, d, reverse c.args.self.now.waiting.items, is_sub, x.traced.joined)

pub returns-clause-traced : goal.returns-clause-traced
returns-clause-traced c = λ H t T x.
    let s = x.traced in
    let self = c.args.self.now in
    let (d, G, a, A, is_sub, is_term, tree, type) = x.comes in
    let grown = c.in_ok-both.ensures.extends in
    let order = sym (pushed_one c.push.new.self.items self.waiting.items (waiting.Sub c.args.sub) c.in_ok-push.ensures.items) in
    record {
      here = says_later _ _ self.here (Sb H id H) grown s.here;
      type = s.type;
      at = restacked order (stands_entered grown s.at c.args.sub c.args.term d G a A is_sub is_term tree type);
      joined = subst (λ ws. IsJoined c.below.new.book c.in_ok-both.both ws H G) order (c.in_ok-both.ensures.joined H s.at.home G d (reverse self.waiting.items) is_sub s.joined);
      fits = fits_grow grown self.fits H s.type T s.fits;
    }
