use Rattle.std.proofs.Common.{◌≡◌, ◌∙◌, ap, refl, string_bytes}
use Rattle.std.specs.FinMap.{insert}
use Rattle.host_io.specs.Memory.{held_in}
use Rattle.host_io.proofs.HeldLemmas.{put_held}
use Rattle.host_io.proofs.memory.files.MemFiles.put.Goals as goal

pub returns-clause-ok : goal.returns-clause-ok
returns-clause-ok c =
    let old = held_in c.self.inside.held in
    let key = c.in_ok-key.key in
    let value = c.in_ok-value.value in
    let inserted : held_in c.insert.new.self ≡ insert old c.args.path.now c.args.bytes.now =
    put_held c.self.inside.held c.insert.new.self (string_bytes key) value c.in_ok-insert.ensures.updates
    ∙ ap (λ k. insert old k value.items) c.in_ok-key.ensures.ok
    ∙ ap (insert old c.args.path.now) c.in_ok-value.ensures.items in
    rw (inserted, ← c.self.view_is) refl
