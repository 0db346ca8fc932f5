use Rattle.std.proofs.Common.{◌≡◌, ap, Some, rules}
use Rattle.std.specs.FinMap.{insert}
use Rattle.host_io.proofs.HeldLemmas.{insert_holds, insert_keeps}
use Rattle.host_io.proofs.memory.files.MemFilesFiles.store.Goals as goal

pub returns-in-Ok-clause-held : goal.returns-in-Ok-clause-held
returns-in-Ok-clause-held c =
    let held : c.put.new.self.held ≡ insert c.args.self.now.held c.args.path.now c.args.bytes.now = search rules in
    rw held (insert_holds _ _ _, λ other apart. ap Some (insert_keeps _ _ _ other apart))
