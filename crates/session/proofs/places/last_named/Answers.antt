use Rattle.std.proofs.Common.{ap, arith, length}
use Rattle.session.specs.Loaded.{texts_of}
use Rattle.session.proofs.PlaceLaws.{none_at_end}
use Rattle.session.proofs.places.last_named.Goals as goal

pub loop-place-init : goal.loop-place-init
loop-place-init c =
    let long = ap length c.as_slice-place.ensures in
    (none_at_end (texts_of c.args.program.now) c.args.program.now.codes c.requires.linked c.args.name.now (length c.as_slice-place.result.now) long, omega (arith, long))
