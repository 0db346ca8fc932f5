use Rattle.std.proofs.Common.{rules, ◌≡◌, ◌↔◌, IsTrue, string_bytes, sym}
use Rattle.session.specs.Loaded.{texts_of}
use Rattle.session.proofs.PlaceLaws.{is_the_name}
use Rattle.session.proofs.places.is_named.Goals as goal

pub returns : goal.returns
returns c =
    let both : IsTrue c.eq.result ↔ (string_bytes c.in_ok-spelt.spelt ≡ c.args.name.now) = rw (sym c.as_str.ensures.value) (search rules) in
    is_the_name (texts_of c.args.program.now) c.args.place (string_bytes c.in_ok-spelt.spelt) c.args.name.now c.eq.result c.in_ok-spelt.ensures both
