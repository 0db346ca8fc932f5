use Rattle.region.proofs.LayoutLaws.{keeps_all}
use Rattle.region.proofs.storage.add_chunks.Goals as goal

pub more-init : goal.more-init
more-init c = keeps_all _ _ c.requires
