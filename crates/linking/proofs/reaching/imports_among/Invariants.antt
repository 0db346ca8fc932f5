use Rattle.std.proofs.Common.{◌≡◌, map, take}
use Rattle.std.specs.Prelude.{string_bytes}
use Rattle.module_texts.specs.Texts.{name_of}
use Rattle.linking.specs.Reaching.{are_among}
use Rattle.linking.proofs.reaching.imports_among.Given as goal

abbrev pub invariant-loop-module : goal.invariant-loop-module
invariant-loop-module l = l.flags.items ≡ are_among (map string_bytes l.names.items) (map name_of (take l.module-index l.modules))
