use Rattle.literal_types.proofs.GrowthLaws.{past_the_variable, past_the_name, past_the_face, variable_entry}
use Rattle.literal_types.proofs.entries.past.Goals as goal

pub past_variable-requires : goal.past_variable-requires
past_variable-requires c =
    let r = c.requires in
    let v = variable_entry c.args.book.now c.in-Variable.ty c.args.entry r.0 r.1 c.in-Variable.is r.5 in
    (r.0, r.2, r.3, v.0, r.4, v.1)

pub returns-in_ok-past_variable-in-Variable-clause-typed : goal.returns-in_ok-past_variable-in-Variable-clause-typed
returns-in_ok-past_variable-in-Variable-clause-typed c = λ K M G d says is.
    past_the_variable c.args.book.now c.past_variable.new.book c.in_ok-past_variable-in-Variable.field-0 c.in-Variable.ty c.args.entry K M G d c.in-Variable.is
    (λ A ty. c.in_ok-past_variable-in-Variable.ensures.typed K G d A says ty) is

pub returns-in_ok-past_name-in-Name-clause-typed : goal.returns-in_ok-past_name-in-Name-clause-typed
returns-in_ok-past_name-in-Name-clause-typed c = λ K M G d says is.
    past_the_name c.args.book.now c.past_name.new.book c.in_ok-past_name-in-Name.field-0 c.args.entry K M G d c.in-Name.is (c.in_ok-past_name-in-Name.ensures.typed K G d says) is

pub returns-in_ok-past_face-in-Face-clause-typed : goal.returns-in_ok-past_face-in-Face-clause-typed
returns-in_ok-past_face-in-Face-clause-typed c = λ K M G d says is.
    past_the_face c.args.book.now c.past_face.new.book c.in_ok-past_face-in-Face.field-0 c.in-Face.face c.args.entry K M G d c.in-Face.is
    (λ p means face. c.in_ok-past_face-in-Face.ensures.typed K G d p says means face) is
