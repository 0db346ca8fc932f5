use Rattle.std.proofs.Common.{◌≤◌, arith}
use Rattle.typed_contexts.specs.Contexts.{depth_of}
use Rattle.typed_contexts.proofs.LevelLaws.{jump-before}
use Rattle.typed_contexts.proofs.place.Places.jump_target.Goals as goal

pub level-target-requires-clause-within : goal.level-target-requires-clause-within
level-target-requires-clause-within c =
    let b = c.requires.0 in
    let H = c.requires.1 in
    let place = c.requires.2 in
    let within : c.depth-depth.result ≤ depth_of H = omega (arith, c.depth-depth.ensures.place b H place) in
    omega (arith, c.depth-depth.ensures.levels, jump-before b c.depth-depth.result H c.level-middle.result within (c.level-middle.ensures b H place))

pub overflow_sub-depth : goal.overflow_sub-depth
overflow_sub-depth c =
    let b = c.requires.0 in
    let H = c.requires.1 in
    let place = c.requires.2 in
    let within : c.depth-depth.result ≤ depth_of H = omega (arith, c.depth-depth.ensures.place b H place) in
    omega (arith, jump-before b c.depth-depth.result H c.level-middle.result within (c.level-middle.ensures b H place))

pub overflow_sub-middle : goal.overflow_sub-middle
overflow_sub-middle c =
    let b = c.requires.0 in
    let H = c.requires.1 in
    let place = c.requires.2 in
    let depth = c.depth-depth.ensures.place b H place in
    let within : c.depth-depth.result ≤ depth_of H = omega (arith, depth) in
    let before = jump-before b c.depth-depth.result H c.level-middle.result within (c.level-middle.ensures b H place) in
    let within' : c.level-middle.result.jump.to ≤ depth_of H = omega (arith, before, within) in
    omega (arith, jump-before b c.level-middle.result.jump.to H c.level-target.result within' (c.level-target.ensures b H place))

pub returns-then-depth-middle : goal.returns-then-depth-middle
returns-then-depth-middle c = λ b H place.
    let depth = c.depth-depth.ensures.place b H place in
    let within : c.depth-depth.result ≤ depth_of H = omega (arith, depth) in
    let before = jump-before b c.depth-depth.result H c.level-middle.result within (c.level-middle.ensures b H place) in
    let within' : c.level-middle.result.jump.to ≤ depth_of H = omega (arith, before, within) in
    omega (arith, within', jump-before b c.level-middle.result.jump.to H c.level-target.result within' (c.level-target.ensures b H place))
