use Rattle.std.proofs.Common.{[], ◌∷◌, refl}
use Rattle.typed_nodes.proofs.StandLaws.{given}
use Rattle.presupposed_tests.specs.Derived.{conversions_statement}
use Rattle.presupposed_tests.proofs.MadeLaws.{conversions_call}
use Rattle.presupposed_tests.proofs.derived.converted.Goals as goal

pub derive-requires-clause-may : goal.derive-requires-clause-may
derive-requires-clause-may c = (conversions_statement, [], record { derives = c.terms_are_derived.ensures.conversions; first = refl }, conversions_call c.args.book.now c.terms_at_trees.ensures.conversions)

pub returns : goal.returns
returns c =
    let states = c.terms_at_trees.ensures.conversions in
    let said = given c.derive.new.book (c.in_ok-derive.field-0.0 ∷ []) (c.in_ok-derive.ensures.gives conversions_statement (record { derives = c.terms_are_derived.ensures.conversions; first = refl })) (conversions_call c.args.book.now states) states in
    (_, _, said.0, refl)
