use Rattle.std.proofs.Common.{[], refl, ◌∙◌, ap, Some}
use Rattle.presupposed_tests.specs.Derived.{made_and_used_statement}
use Rattle.presupposed_tests.proofs.MadeLaws.{made_and_used_call}
use Rattle.presupposed_tests.proofs.derived.made_and_used.Goals as goal

pub derived-requires-clause-may : goal.derived-requires-clause-may
derived-requires-clause-may c = (made_and_used_statement, [], record { derives = c.terms_are_derived.ensures.made_and_used; first = refl }, made_and_used_call c.args.book.now c.terms_at_trees.ensures.made_and_used)

pub returns : goal.returns
returns c =
    let states = c.terms_at_trees.ensures.made_and_used in
    c.in_ok-derived.ensures.gives made_and_used_statement (record { derives = c.terms_are_derived.ensures.made_and_used; first = refl }) [] (made_and_used_call c.args.book.now states) ∙ ap Some states.gives
