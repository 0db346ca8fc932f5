use Rattle.std.proofs.Common.{◌∙◌, ap, sym, rules}
use Rattle.std.specs.Option.{option_map}
use Rattle.std.specs.FinMap.{get}
use Rattle.host_io.proofs.HeldLemmas.{get_held, items, slice_of}
use Rattle.host_io.proofs.memory.files.MemFiles.bytes_at.Goals as goal

pub returns : goal.returns
returns c =
    slice_of c.get.result c.map.result (search rules)
    ∙ ap (option_map items) c.get.ensures.value
    ∙ sym (get_held c.self.inside.held.entries c.args.path.now)
    ∙ ap (λ s. get s.held c.args.path.now) c.self.view_is
