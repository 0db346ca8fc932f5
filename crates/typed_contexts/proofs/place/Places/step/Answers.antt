use Rattle.std.proofs.Common.{◌≤◌, arith}
use Rattle.typed_contexts.specs.Contexts.{depth_of}
use Rattle.typed_contexts.proofs.LevelLaws.{jump-before, jump-weakens, up-weakens}
use Rattle.typed_contexts.proofs.place.Places.step.Goals as goal

pub level-level-requires-clause-within : goal.level-level-requires-clause-within
level-level-requires-clause-within c = omega (arith, c.requires.place.2.count, c.requires.place.3)

pub returns-then-to-level-clause-further : goal.returns-then-to-level-clause-further
returns-then-to-level-clause-further c =
    let p = c.requires.place in
    jump-before p.0 c.args.from p.1 c.level-level.result p.3 (c.level-level.ensures p.0 p.1 p.2)

pub returns-then-to-level-clause-weakens : goal.returns-then-to-level-clause-weakens
returns-then-to-level-clause-weakens c = λ b H is.
    let p = c.requires.place in
    let within : c.args.from ≤ depth_of H = omega (arith, is.count, p.2.count, p.3) in
    jump-weakens b c.args.from H c.level-level.result within (c.level-level.ensures b H is)

pub returns-else-to-level-clause-weakens : goal.returns-else-to-level-clause-weakens
returns-else-to-level-clause-weakens c = λ b H is.
    let p = c.requires.place in
    let within : c.args.from ≤ depth_of H = omega (arith, is.count, p.2.count, p.3) in
    up-weakens b c.args.from H c.level-level.result (omega (arith, c.requires.further)) within (c.level-level.ensures b H is)
