use Rattle.std.proofs.Common.{[], ◌∷◌, refl}
use Rattle.typed_nodes.proofs.StandLaws.{given}
use Rattle.presupposed_tests.specs.Derived.{pushed_entry_statement}
use Rattle.presupposed_tests.proofs.MadeLaws.{pushed_entry_call}
use Rattle.presupposed_tests.proofs.derived.pushed.Goals as goal

pub derive-requires-clause-may : goal.derive-requires-clause-may
derive-requires-clause-may c = (pushed_entry_statement, [], record { derives = c.terms_are_derived.ensures.pushed_entry; first = refl }, pushed_entry_call c.args.book.now c.terms_at_trees.ensures.pushed_entry)

pub returns : goal.returns
returns c =
    let states = c.terms_at_trees.ensures.pushed_entry in
    let said = given c.derive.new.book (c.in_ok-derive.field-0.0 ∷ []) (c.in_ok-derive.ensures.gives pushed_entry_statement (record { derives = c.terms_are_derived.ensures.pushed_entry; first = refl })) (pushed_entry_call c.args.book.now states) states in
    (_, _, said.0, refl)
