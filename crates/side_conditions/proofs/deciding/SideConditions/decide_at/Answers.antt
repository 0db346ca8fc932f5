use Rattle.std.proofs.Common.{length, refl}
use Rattle.std.proofs.lemmas.List.Elements.{All-set}
use Rattle.std.proofs.lemmas.Option.{slice_get_read, slice_get_within}
use Rattle.compare.proofs.KidLaws.{All-at}
use Rattle.side_conditions.specs.declared.asked.Asked.{Asked}
use Rattle.side_conditions.specs.Kept.{IsAsked, StaysBelow}
use Rattle.side_conditions.proofs.deciding.SideConditions.decide_at.Goals as goal

pub returns-in-Ok-clause-keeps : goal.returns-in-Ok-clause-keeps
returns-in-Ok-clause-keeps g c =
    let f = g.R.Rows.means c.args.rows.now in
    let P : Asked → Type 0 = λ a. IsAsked f a × StaysBelow c.args.mark a in
    let items = c.args.self.now.asked.items in
    let old = c.index_mut.result.now in
    let place = c.requires.place in
    let within = slice_get_within items c.args.at place.0 place.1 in
    let kept = All-at P items c.args.at old (slice_get_read items (length items) c.args.at old refl within c.index_mut.ensures.value) c.requires.keeps.each in
    let next = c.in-Ok.ensures.next in
    record { each = All-set P items c.args.at c.decide.new.self (next.asked, next.stays kept.1) c.requires.keeps.each }
