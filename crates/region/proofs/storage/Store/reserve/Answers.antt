use Rattle.std.proofs.Common.{◌+◌, length, arith, ap, ◌∙◌}
use Rattle.region.proofs.LayoutLaws.{kept_layout, keeps_fewer}
use Rattle.region.proofs.storage.Store.reserve.Goals as goal

pub returns-clause-rows : goal.returns-clause-rows
returns-clause-rows c =
    let old = c.self.inside.chunks.items in
    let new = c.add_chunks.new.chunks.items in
    let current = c.self.inside.current in
    let kept = keeps_fewer (current + 1) (length old) old new (omega (arith, c.self.invariant.chosen)) c.add_chunks.ensures.kept in
    rw c.in_ok-reserve.ensures.items ((kept_layout current old new c.self.inside.places.items kept c.self.invariant).1 ∙ ap (λ s. s.rows) c.self.view_is)
