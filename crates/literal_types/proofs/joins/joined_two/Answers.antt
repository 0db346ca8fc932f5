use Rattle.literal_types.proofs.GrowthLaws.{extends_itself}
use Rattle.literal_types.proofs.JoinLaws.{after_nothing, before_nothing}
use Rattle.literal_types.proofs.joins.joined_two.Goals as goal

pub unfolded-requires : goal.unfolded-requires
unfolded-requires c =
    let (K, H, G, e, d, inner, outer) = c.requires in
    (K, record { sub = e; target = H; says = inner })

pub returns-in-Identity-clause-typed : goal.returns-in-Identity-clause-typed
returns-in-Identity-clause-typed c = λ K H G e d inner outer.
    let u = c.in-Identity.ensures.unfolds K H e inner in
    after_nothing c.args.book.now c.args.outer K H G e d u.0 u.1 outer

pub unfolded-requires-2 : goal.unfolded-requires-2
unfolded-requires-2 c =
    let (K, H, G, e, d, inner, outer) = c.requires in
    (H, record { sub = d; target = G; says = outer })

pub returns-in-Identity-unfolded : goal.returns-in-Identity-unfolded
returns-in-Identity-unfolded c = record {
  extends = extends_itself c.args.book.now;
  typed = λ K H G e d inner outer. let u = c.in-Identity-unfolded.ensures.unfolds H G d outer in before_nothing c.args.book.now c.args.inner K H G e d u.0 u.1 inner;
}
