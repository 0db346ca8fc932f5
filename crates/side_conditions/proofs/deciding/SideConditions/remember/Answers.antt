use Rattle.std.proofs.Common.{sym, subst}
use Rattle.std.specs.List.{All}
use Rattle.std.proofs.lemmas.List.Elements.{All-push}
use Rattle.side_conditions.specs.declared.asked.Asked.{Asked}
use Rattle.side_conditions.specs.Kept.{IsAsked, StaysBelow}
use Rattle.side_conditions.proofs.deciding.SideConditions.remember.Goals as goal

pub returns-in_err-push : goal.returns-in_err-push
returns-in_err-push c = λ mark f keeps asked stays.
    let P : Asked → Type 0 = λ a. IsAsked f a × StaysBelow mark a in
    record { each = subst (All P) (sym c.in_err-push.ensures.items) (c.make_room.ensures mark f keeps).each }

pub returns : goal.returns
returns c = λ mark f keeps asked stays.
    let P : Asked → Type 0 = λ a. IsAsked f a × StaysBelow mark a in
    record { each = subst (All P) (sym c.in_ok-push.ensures.items) (All-push P c.make_room.new.self.asked.items c.args.asked (c.make_room.ensures mark f keeps).each (asked, stays)) }
