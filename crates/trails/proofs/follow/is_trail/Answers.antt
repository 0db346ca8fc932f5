use Rattle.std.proofs.Common.{◌+◌, drop, get_or, subst}
use Rattle.std.proofs.lemmas.List.{drop_more, drop_all}
use Rattle.book.specs.Shown.{book_means, book_concludes}
use Rattle.book.proofs.FitLaws.{extends-refl, extends-trans}
use Rattle.trails.specs.declared.steps.Step.TheVariants as step
use Rattle.trails.specs.declared.steps.Link.TheVariants as link
use Rattle.trails.specs.Rows.{GoesOr, Widens}
use Rattle.trails.specs.Trails.{Leads}
use Rattle.trails.proofs.TrailLaws.{FollowedTo, followed-none, followed-more, not-followed, widens-before}
use Rattle.trails.proofs.follow.is_trail.Goals as goal

pub loop-link-init : goal.loop-link-init
loop-link-init c = record {
  extends = extends-refl c.args.book.now;
  followed = λ s stands C widens. followed-none (book_means c.args.book.now) C c.args.links.now _ s stands;
}

pub loop-link-preserved : goal.loop-link-preserved
loop-link-preserved c =
    let links = c.args.links.now in
    let k = c.loop-link.link-index in
    let d = link.Step (step.Into 0) in
    let l = get_or links k d in
    let f = book_means c.loop-link.book in
    let g = book_means c.linked.new.book in
    let given = c.in_ok-next.ensures in
    let whole = drop_more links k d c.loop-link-test.true in
    record {
      extends = extends-trans _ _ _ c.loop-link.invariant.extends given.extends;
      followed = λ s stands C widens.
          let before = widens-before _ _ C (record { keeps = given.extends.conclusions }) widens in
          let t = subst (λ rest. FollowedTo f C links rest c.loop-link.station s) whole (c.loop-link.invariant.followed s stands C before) in
          let goes = subst (λ o. GoesOr g o (Leads C l t.next)) c.in-Some.is (given.goes C before t.next t.stands) in
          followed-more f g C links (drop (k + 1) links) l c.loop-link.station c.in-Some.next s goes.next t goes.way goes.stands;
    }

pub returns-in-None-clause-extends : goal.returns-in-None-clause-extends
returns-in-None-clause-extends c = extends-trans _ _ _ c.loop-link.invariant.extends c.in_ok-next.ensures.extends

pub returns-in-None-clause-trail : goal.returns-in-None-clause-trail
returns-in-None-clause-trail c =
    let links = c.args.links.now in
    let k = c.loop-link.link-index in
    let d = link.Step (step.Into 0) in
    let l = get_or links k d in
    let f = book_means c.loop-link.book in
    let g = book_means c.linked.new.book in
    let C = book_concludes c.linked.new.book in
    let given = c.in_ok-next.ensures in
    let begun = c.in_ok-station.ensures in
    let s = begun.0 in
    let whole = drop_more links k d c.loop-link-test.true in
    let before : Widens (book_concludes c.loop-link.book) C = record { keeps = given.extends.conclusions } in
    let t = subst (λ rest. FollowedTo f C links rest c.loop-link.station s) whole (c.loop-link.invariant.followed s begun.2 C before) in
    let none = subst (λ o. GoesOr g o (Leads C l t.next)) c.in-None.is (given.goes C before t.next t.stands) in
    (s, begun.1, (λ yes. cc, λ trail. absurd (not-followed f C links (drop (k + 1) links) l c.loop-link.station s t none trail)))

pub returns-clause-extends : goal.returns-clause-extends
returns-clause-extends c = extends-trans _ _ _ c.loop-link.invariant.extends c.in_ok-part.ensures.extends

pub returns-clause-trail : goal.returns-clause-trail
returns-clause-trail c =
    let links = c.args.links.now in
    let k = c.loop-link.link-index in
    let f = book_means c.loop-link.book in
    let C = book_concludes c.part.new.book in
    let given = c.in_ok-part.ensures in
    let begun = c.in_ok-station.ensures in
    let s = begun.0 in
    let before : Widens (book_concludes c.loop-link.book) C = record { keeps = given.extends.conclusions } in
    let t = subst (λ rest. FollowedTo f C links rest c.loop-link.station s) (drop_all k links c.loop-link-test.false) (c.loop-link.invariant.followed s begun.2 C before) in
    let told = given.parted t.next t.stands in
    (s, begun.1, (λ yes. t.same.1 (told.0 yes), λ trail. told.1 (t.same.0 trail)))
