use Rattle.std.proofs.Common.{◌+◌, ◌<◌, ◌≤◌, ◌≢◌, [], length, get_or, below_more, get_or-set_other, get_or-set_same, length-set, arith}
use Rattle.std.proofs.lemmas.List.{length-map}
use Rattle.trees.proofs.Meanings.{meanings-later, kept-kept}
use Rattle.rules.specs.Run.{lists_of, rows_in}
use Rattle.rules.proofs.PlaceLaws.{place_at, within, fits_at, then_within, makes_at, rows_take, rows_within, rows_all, still}
use Rattle.rules.proofs.machine.rows_of.Goals as goal

pub row_of-requires-clause-fits : goal.row_of-requires-clause-fits
row_of-requires-clause-fits g c =
    let places = c.args.places.now in
    let at = c.loop-at.at in
    rw (place_at places at c.loop-at-test.true) (fits_at (lists_of places) at (within places at c.loop-at-test.true) c.requires.fits)

pub row_of-requires-clause-live : goal.row_of-requires-clause-live
row_of-requires-clause-live g c =
    rw (meanings-later (g.M.Rows.means c.args.maker.now) (g.M.Rows.means c.loop-at.maker) c.loop-at.invariant.2 c.args.parts.now c.requires.live) c.requires.live

pub row_of-requires-clause-makes : goal.row_of-requires-clause-makes
row_of-requires-clause-makes g c =
    let places = c.args.places.now in
    let at = c.loop-at.at in
    let later = meanings-later (g.M.Rows.means c.args.maker.now) (g.M.Rows.means c.loop-at.maker) c.loop-at.invariant.2 c.args.parts.now c.requires.live in
    rw (later, place_at places at c.loop-at-test.true) (makes_at _ (lists_of places) at (within places at c.loop-at-test.true) c.requires.makes)

pub row_of-requires-clause-shifts : goal.row_of-requires-clause-shifts
row_of-requires-clause-shifts g c =
    let places = c.args.places.now in
    let at = c.loop-at.at in
    let later = meanings-later (g.M.Rows.means c.args.maker.now) (g.M.Rows.means c.loop-at.maker) c.loop-at.invariant.2 c.args.parts.now c.requires.live in
    rw (later, place_at places at c.loop-at-test.true) (λ t. c.requires.shifts (then_within (lists_of places) at (within places at c.loop-at-test.true) t))

pub returns-in_err-rows-clause-covered : goal.returns-in_err-rows-clause-covered
returns-in_err-rows-clause-covered g c enough =
    let places = c.args.places.now in
    let at = c.loop-at.at in
    let one = rows_take (lists_of places) at (within places at c.loop-at-test.true) in
    let all = rows_within (lists_of places) (at + 1) in
    let spent = c.loop-at.invariant.1 in
    let room : rows_in (get_or (lists_of places) at []) ≤ g.M.Maker.spare c.loop-at.maker = omega arith in
    let no = c.in_err-rows.ensures.covered (rw (place_at places at c.loop-at-test.true) room) in
    cc

pub returns-in_err-rows-clause-spends : goal.returns-in_err-rows-clause-spends
returns-in_err-rows-clause-spends g c =
    let places = c.args.places.now in
    let at = c.loop-at.at in
    let one = rows_take (lists_of places) at (within places at c.loop-at-test.true) in
    let all = rows_within (lists_of places) (at + 1) in
    let spent = c.loop-at.invariant.1 in
    let step = rw (place_at places at c.loop-at-test.true) at c.row_of.ensures.spends in
    omega arith

pub loop-at-preserved : goal.loop-at-preserved
loop-at-preserved g c =
    let places = c.args.places.now in
    let at = c.loop-at.at in
    let later = meanings-later (g.M.Rows.means c.args.maker.now) (g.M.Rows.means c.loop-at.maker) c.loop-at.invariant.2 c.args.parts.now c.requires.live in
    let one = rows_take (lists_of places) at (within places at c.loop-at-test.true) in
    let spent = c.loop-at.invariant.1 in
    let step = rw (place_at places at c.loop-at-test.true) at c.row_of.ensures.spends in
    let made = rw (later, place_at places at c.loop-at-test.true) at c.in_ok-rows.ensures.row in (
      simp length-set (omega arith),
      omega arith,
      kept-kept _ _ _ c.loop-at.invariant.2 c.row_of.ensures.kept,
      below_more _ _
          (λ k lt. let ne : k ≢ at = omega arith in rw get_or-set_other (still _ _ c.row_of.ensures.kept _ _ (makes_at _ (lists_of places) k (let w = within places at c.loop-at-test.true in omega arith) c.requires.makes) (c.loop-at.invariant.3 k lt)))
          (let lt : at < length c.loop-at.rows = omega arith in rw get_or-set_same made),
    )

pub returns-clause-rows : goal.returns-clause-rows
returns-clause-rows g c =
    let places = c.args.places.now in
    let n = length-map places (λ p. p.now) in
    rows_all _ _ c.loop-at.rows (lists_of places) (omega arith) (λ k lt. c.loop-at.invariant.3 k (let end = c.loop-at-test.false in omega arith))
