use Rattle.std.proofs.Common.{◌≡◌, Bool, take}
use Rattle.std.specs.List.{list_all}
use Rattle.normal_formulas.specs.declared.atoms.Atom.{Atom}
use Rattle.normal_formulas.proofs.order.product_of.Given as goal

abbrev pub invariant-loop-atom : goal.invariant-loop-atom
invariant-loop-atom l = (test : Atom → Bool) → list_all test l.product ≡ list_all test (take l.atom-index l.atoms)
