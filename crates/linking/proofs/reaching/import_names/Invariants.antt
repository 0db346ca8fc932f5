use Rattle.std.proofs.Common.{◌≡◌, map, take}
use Rattle.std.specs.Prelude.{string_bytes}
use Rattle.module_texts.specs.Texts.{name_at}
use Rattle.linking.proofs.reaching.import_names.Given as goal

abbrev pub invariant-loop-span : goal.invariant-loop-span
invariant-loop-span l = map string_bytes l.names.items ≡ map (name_at l.text.bytes.items) (take l.span-index l.span-items)
