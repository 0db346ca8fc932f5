use Rattle.std.proofs.Common.{◌≡◌, map, drop}
use Rattle.translation.specs.Texts.{word}
use Rattle.scopes.specs.Steps.{all_bound_to}
use Rattle.name_resolution.proofs.names.References.bind_all.Given as goal

abbrev pub invariant-loop-name : goal.invariant-loop-name
invariant-loop-name l =
    all_bound_to l.place (map (word l.self.bytes.now) (drop l.name-index l.names)) l.binding
    ≡ all_bound_to l.fn.place (map (word l.self.bytes.now) l.names) l.binding
