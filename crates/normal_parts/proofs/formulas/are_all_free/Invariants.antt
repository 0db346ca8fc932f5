use Rattle.std.proofs.Common.{take}
use Rattle.fixed_names.specs.Scopes.{fixed_in}
use Rattle.fixed_names.specs.Shown.{fixed_by}
use Rattle.normal_formulas.specs.Atoms.{lists_of}
use Rattle.normal_parts.specs.Parts.{AreAllFree}
use Rattle.normal_parts.proofs.formulas.are_all_free.Given as goal

abbrev pub invariant-loop-atoms : goal.invariant-loop-atoms
invariant-loop-atoms l = AreAllFree (fixed_in (fixed_by l.scopes) l.fn.scope) (take l.atoms-index (lists_of l.lists))
