use Rattle.std.proofs.Common.{length, subst, sym}
use Rattle.rows.specs.Views.{IsSubFit, sub_meaning}
use Rattle.rows.specs.Held.{IsSizeAt}
use Rattle.rows.specs.Shown.{things, store_means}
use Rattle.rows.proofs.MeaningLaws.{push-subst}
use Rattle.rows.proofs.StoreLaws.{first-within, push_size}
use Rattle.rows.proofs.store.RowStore.size_of.Goals as goal

pub sub-requires : goal.sub-requires
sub-requires c =
    let f = store_means c.args.self.now in
    push-subst (f c.in-Push.sub.0) (f c.in-Push.field-1.0) (subst (IsSubFit f) c.in-Push.is c.requires)

pub returns-in-Push : goal.returns-in-Push
returns-in-Push c =
    let s = c.args.self.now in
    let f = store_means s in
    let sub = c.in-Push.sub.0 in
    let term = c.in-Push.field-1.0 in
    let fits = subst (IsSubFit f) c.in-Push.is c.requires in
    subst (λ r. IsSizeAt (length (things s)) (sub_meaning f r) c.with_tree.result) (sym c.in-Push.is)
    (push_size sub (length (things s)) (f sub) (f term) c.sub.result.size c.with_tree.result (first-within (things s) sub term fits) fits c.sub.ensures.size c.with_tree.ensures.pushed c.with_tree.ensures.shift)
