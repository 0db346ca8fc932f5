use Rattle.std.proofs.Common.{[], ◌∷◌, refl}
use Rattle.trees.specs.Judgements.{Nil, trees}
use Rattle.rules.specs.Table.{nat}
use Rattle.typed_nodes.proofs.StandLaws.{given}
use Rattle.presupposed_tests.specs.Derived.{equal_numbers_statement}
use Rattle.presupposed_tests.proofs.MadeLaws.{equal_numbers_call}
use Rattle.presupposed_tests.proofs.derived.shared_equation.Goals as goal

pub derive-requires-clause-may : goal.derive-requires-clause-may
derive-requires-clause-may c = (equal_numbers_statement, [], record { derives = c.terms_are_derived.ensures.equal_numbers; first = refl }, equal_numbers_call c.args.book.now c.terms_at_trees.ensures.equal_numbers)

pub loop-init : goal.loop-init
loop-init c =
    let states = c.terms_at_trees.ensures.equal_numbers in
    (given c.derive.new.book (c.in_ok-equation.equation.0 ∷ []) (c.in_ok-equation.ensures.gives equal_numbers_statement (record { derives = c.terms_are_derived.ensures.equal_numbers; first = refl })) (equal_numbers_call c.args.book.now states) states).0

pub joined_equations-requires : goal.joined_equations-requires
joined_equations-requires c = (Nil, nat trees, nat trees, nat trees, c.loop.invariant, c.loop.invariant)

pub loop-preserved : goal.loop-preserved
loop-preserved c = c.in_ok-equation-2.ensures.typed Nil (nat trees) (nat trees) (nat trees) c.loop.invariant c.loop.invariant
