use Rattle.std.proofs.Common.{◌-◌, ◌<◌, length, refl, arith}
use Rattle.std.proofs.lemmas.Option.{slice_get_read}
use Rattle.typed_contexts.proofs.PlaceLaws.{place-level}
use Rattle.typed_contexts.proofs.place.Places.level.Goals as goal

pub returns : goal.returns
returns c = λ b H is.
    let levels = c.args.self.now.levels.items in
    let within : c.args.depth - 1 < length levels = omega (arith, c.requires.entry, c.requires.within) in
    place-level b c.args.self.now H c.args.depth c.index.result.now is c.requires.entry c.requires.within
    (slice_get_read levels (length levels) (c.args.depth - 1) c.index.result.now refl within c.index.ensures)
