use Rattle.std.proofs.Common.{[], ◌∷◌, refl}
use Rattle.std.proofs.lemmas.List.Elements.{All-nil}
use Rattle.trees.specs.Judgements.{trees}
use Rattle.conditions.specs.Sides.{SideHolds}
use Rattle.recipes.specs.Derivations.{StatesAt}
use Rattle.book.specs.Contents.{Contents}
use Rattle.typing_rules.specs.Places.{no_entries, no_entries_statement}
use Rattle.typed_nodes.specs.Calls.{MayCall}
use Rattle.typed_nodes.proofs.StandLaws.{may_call, given}
use Rattle.typed_nodes.proofs.substitutions.empty.Goals as goal

call : (book : Contents)
    → StatesAt no_entries_statement [] (no_entries trees)
    → MayCall no_entries_statement book [] [] []
call book states =
    may_call no_entries_statement book [] []
    [] (no_entries trees)
    states refl tt (All-nil SideHolds) refl
    tt

pub derive-requires-clause-may : goal.derive-requires-clause-may
derive-requires-clause-may c =
    let states = c.places_at_trees.ensures.no_entries in
    (no_entries_statement, [], record { derives = c.places_are_derived.ensures.no_entries; first = refl }, call c.args.book.now states)

pub returns-clause-typed : goal.returns-clause-typed
returns-clause-typed c =
    let states = c.places_at_trees.ensures.no_entries in
    let said = given c.derive.new.book (c.in_ok-derive.field-0.0 ∷ []) (c.in_ok-derive.ensures.gives no_entries_statement (record { derives = c.places_are_derived.ensures.no_entries; first = refl }))
    (call c.args.book.now states) states in
    said.0
