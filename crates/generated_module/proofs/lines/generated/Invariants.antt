use Rattle.std.proofs.Common.{◌≡◌, string_bytes}
use Rattle.generated_module.specs.Generated.{generated}
use Rattle.generated_module.proofs.lines.generated.Given as goal

abbrev pub invariant-loop-k : goal.invariant-loop-k
invariant-loop-k l = string_bytes l.text ≡ generated l.k
