use Rattle.rows.specs.Shown.{store_means}
use Rattle.rows.proofs.MeaningLaws.{instance-tree, decides-no}
use Rattle.rows.proofs.store.RowStore.fits_term.Goals as goal

pub returns-else-is_term : goal.returns-else-is_term
returns-else-is_term c =
    let f = store_means c.args.self.now in
    rw c.in-Instance.is (decides-no _ _ c.if-is_term.false (λ some. c.is_term.ensures.1 (instance-tree (f c.in-Instance.term.0) (f c.in-Instance.sub.0) some)))
