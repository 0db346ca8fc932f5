use Rattle.std.proofs.Common.{rules, ◌≡◌, ◌<◌, length, refl, sym, ◌∙◌}
use Rattle.std.proofs.lemmas.Option.{slice_get_read}
use Rattle.side_conditions.proofs.deciding.SideConditions.place_of.Goals as goal

pub returns-then-eq : goal.returns-then-eq
returns-then-eq c =
    let items = c.args.self.now.asked.items in
    let within : c.loop-at.at < length items = search rules in
    let same : c.ctx.result ≡ c.args.ctx = search rules in
    (c.index.result.now, slice_get_read items (length items) c.loop-at.at c.index.result.now refl within c.index.ensures, sym c.ctx.ensures ∙ same)
