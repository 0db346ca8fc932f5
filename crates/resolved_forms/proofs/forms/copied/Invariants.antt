use Rattle.std.proofs.Common.{◌≡◌, take}
use Rattle.resolved_forms.proofs.forms.copied.Given as goal

abbrev pub invariant-loop-projection : goal.invariant-loop-projection
invariant-loop-projection l = l.copied ≡ take l.projection-index l.projections
