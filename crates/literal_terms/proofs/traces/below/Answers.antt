use Rattle.std.proofs.Common.{Some, subst}
use Rattle.typed_nodes.proofs.GrowthLaws.{says_later}
use Rattle.trees.specs.Language.{Sb}
use Rattle.literal_terms.specs.Traces.{IsJoined}
use Rattle.literal_terms.proofs.TraceLaws.{joined_below, joined_grows}
use Rattle.literal_terms.proofs.traces.below.Goals as goal

pub joined_two-requires : goal.joined_two-requires
joined_two-requires c =
    let (H, K, G, d, ws, says, joined) = c.requires in
    let j = subst (λ o. IsJoined c.args.book.now o ws H K) c.in-Some.is joined in
    (H, K, G, j.0, d, j.1, says)

pub returns-in_ok-joined_two-in-Some-clause-joined : goal.returns-in_ok-joined_two-in-Some-clause-joined
returns-in_ok-joined_two-in-Some-clause-joined c = λ H K G d ws says joined.
    let j = subst (λ o. IsJoined c.args.book.now o ws H K) c.in-Some.is joined in
    let e = c.in_ok-joined_two-in-Some.ensures in
    joined_below c.joined_two.new.book c.in-Some.before c.args.sub c.in_ok-joined_two-in-Some.field-0 ws H K G d (says_later _ _ c.args.sub (Sb K d G) e.extends says) (joined_grows e.extends (Some c.in-Some.before) ws H K j) (e.typed H K G j.0 d j.1 says)
