use Rattle.std.proofs.Common.{take}
use Rattle.std.specs.List.{All}
use Rattle.fixed_names.specs.Fixed.{IsFree}
use Rattle.fixed_names.specs.Scopes.{fixed_in}
use Rattle.fixed_names.specs.Shown.{fixed_by}
use Rattle.normal_parts.proofs.formulas.are_free.Given as goal

abbrev pub invariant-loop-atom : goal.invariant-loop-atom
invariant-loop-atom l = All (λ a. IsFree (fixed_in (fixed_by l.scopes) l.fn.scope) a.index.0) (take l.atom-index l.atoms)
