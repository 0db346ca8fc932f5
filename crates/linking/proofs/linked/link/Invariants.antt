use Rattle.std.proofs.Common.{map, take}
use Rattle.module_texts.specs.Texts.{text_of}
use Rattle.linking.specs.Linked.{HasLinked}
use Rattle.linking.proofs.linked.link.Given as goal

abbrev pub invariant-loop-module : goal.invariant-loop-module
invariant-loop-module l = HasLinked (map text_of (take l.module l.texts)) l.linker
