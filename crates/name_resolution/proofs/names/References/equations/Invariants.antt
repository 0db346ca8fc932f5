use Rattle.std.proofs.Common.{◌≡◌, take}
use Rattle.translation.specs.Forms.{all}
use Rattle.translation.specs.Texts.{equations as the_equations}
use Rattle.codes.specs.Codes.{equations as meant}
use Rattle.scopes.specs.Steps.{Resolves}
use Rattle.name_resolution.specs.Named.{equations_in}
use Rattle.name_resolution.proofs.names.References.equations.Given as goal

abbrev pub invariant-loop-equation : goal.invariant-loop-equation
invariant-loop-equation l =
    record {
      resolves : Resolves l.fn.place l.place (all (the_equations l.self.bytes.now (take l.equation-index l.equations))) (all (meant l.resolved.items));
      named : l.resolved.items ≡ equations_in l.self.bytes.now l.fn.place.names (take l.equation-index l.equations);
    }
