use Rattle.linking.proofs.LinkLaws.{starts}
use Rattle.linking.proofs.linked.Linker.new.Goals as goal

pub returns : goal.returns
returns c = starts _ c.new-2.ensures.items c.new-2.ensures.next c.new.ensures.items
