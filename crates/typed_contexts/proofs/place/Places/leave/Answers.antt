use Rattle.std.proofs.Common.{refl, arith}
use Rattle.trees.specs.Judgements.{WithVar, WithName}
use Rattle.typed_contexts.proofs.PlaceLaws.{place-left, variable-entry, name-is_no-variable, variable-is_no-name}
use Rattle.typed_contexts.proofs.place.Places.leave.Goals as goal

pub returns-in_err-left-clause-variable : goal.returns-in_err-left-clause-variable
returns-in_err-left-clause-variable c = λ b H A is. absurd (omega (arith, is.count, (c.in_err-left.ensures).cases))

pub returns-in_err-left-clause-name : goal.returns-in_err-left-clause-name
returns-in_err-left-clause-name c = λ b H is. absurd (omega (arith, is.count, (c.in_err-left.ensures).cases))

pub returns-in-Variable-clause-variable : goal.returns-in-Variable-clause-variable
returns-in-Variable-clause-variable c = λ b H A is.
    let level = c.in_ok-left.left in
    let left = place-left b c.args.self.now (record { empty = c.args.self.now.empty; levels = c.pop.new.self }) level (WithVar H A) refl (c.in_ok-left.ensures).items is in
    (c.in-Variable.ty, refl, variable-entry b level.entry c.in-Variable.ty H A c.in-Variable.is left.was.entry_is, left.place)

pub returns-in-Variable-clause-name : goal.returns-in-Variable-clause-name
returns-in-Variable-clause-name c = λ b H is.
    let level = c.in_ok-left.left in
    let left = place-left b c.args.self.now (record { empty = c.args.self.now.empty; levels = c.pop.new.self }) level (WithName H) refl (c.in_ok-left.ensures).items is in
    absurd (variable-is_no-name b level.entry c.in-Variable.ty H c.in-Variable.is left.was.entry_is)

pub returns-in-Name-clause-variable : goal.returns-in-Name-clause-variable
returns-in-Name-clause-variable c = λ b H A is.
    let level = c.in_ok-left.left in
    let left = place-left b c.args.self.now (record { empty = c.args.self.now.empty; levels = c.pop.new.self }) level (WithVar H A) refl (c.in_ok-left.ensures).items is in
    absurd (name-is_no-variable b level.entry H A c.in-Name.is left.was.entry_is)

pub returns-in-Name-clause-name : goal.returns-in-Name-clause-name
returns-in-Name-clause-name c = λ b H is.
    let level = c.in_ok-left.left in
    let left = place-left b c.args.self.now (record { empty = c.args.self.now.empty; levels = c.pop.new.self }) level (WithName H) refl (c.in_ok-left.ensures).items is in
    (refl, left.place)
