use Rattle.rows.specs.Shown.{store_means}
use Rattle.rows.proofs.MeaningLaws.{push-subst, decides-no}
use Rattle.rows.proofs.store.RowStore.fits_subst.Goals as goal

pub returns-else-is_subst : goal.returns-else-is_subst
returns-else-is_subst c =
    let f = store_means c.args.self.now in
    rw c.in-Push.is (decides-no _ _ c.if-is_subst.false (λ some. c.is_subst.ensures.1 (push-subst (f c.in-Push.sub.0) (f c.in-Push.term.0) some)))
