use Rattle.std.proofs.Common.{◌≡◌, ◌<◌, ℕ, ◌+◌, length, Some, subst, sym, ap, ◌∙◌, arith}
use Rattle.std.specs.Prelude.{slice_get}
use Rattle.std.proofs.lemmas.List.{length_push}
use Rattle.std.proofs.lemmas.Option.{slice_get-get_or}
use Rattle.trees.specs.Operators.{kids_of}
use Rattle.trees.specs.Trees.{apply_kids, apply_under, apply}
use Rattle.substitution.specs.Delayed.{kid_at}
use Rattle.book.specs.Shown.{book_means}
use Rattle.book.proofs.FitLaws.{extends-trans}
use Rattle.trails.specs.Openings.{RowAt}
use Rattle.trails.proofs.RowLaws.{row-is, row_at-kept, subst_or-kept}
use Rattle.trails.proofs.OpeningLaws.{rows-more, rows-all, kid-applied, count-applied}
use Rattle.trails.proofs.open.operator.Goals as goal

pub loop-at-preserved : goal.loop-at-preserved
loop-at-preserved c =
    let f = book_means c.args.book.now in
    let g = book_means c.under.new.book in
    let at = c.loop-at.at in
    let rows = c.loop-at.rows.items in
    let kept = c.loop-at.invariant.extends.rows in
    let given = c.in_ok-row.ensures in
    let lookup = c.in-Some.ensures.lookup in
    let place : c.from.result ≡ at = c.from.ensures in
    let found : slice_get c.args.kids.now at ≡ Some c.in-Some.kid.now =
    subst (λ i. slice_get c.args.kids.now i ≡ Some c.in-Some.kid.now) place
    (slice_get-get_or c.args.kids.now c.from.result 0 lookup.3.0 ∙ ap Some (sym (lookup.3.1 0))) in
    record {
      extends = extends-trans _ _ _ c.loop-at.invariant.extends given.extends;
      count = ap length c.in_ok-push.ensures.items ∙ length_push rows c.in_ok-row.row ∙ ap (λ n. n + 1) c.loop-at.invariant.count;
      so_far = λ t d over sub k below.
          let us = apply_kids over.kids c.args.op 0 0 d in
          let kid = row-is f c.in-Some.kid.now (kid_at over.kids at) (subst (λ o. RowAt f o (kid_at over.kids at)) found (over.are.each at)) in
          let made = given.means kid.tree d (kept.keeps _ _ kid.is) (subst_or-kept f (book_means c.loop-at.book) kept c.args.sub d sub) in
          let there : kid_at us at ≡ Some (apply_under kid.tree c.binds.result d) =
          kid-applied over.kids c.args.op at d kid.tree kid.there ∙ ap (λ n. Some (apply_under kid.tree n d)) (sym c.binds.ensures) in
          let before : (j : ℕ) → j < at → RowAt g (slice_get rows j) (kid_at us j) = λ j lt. row_at-kept (book_means c.loop-at.book) g given.extends.rows (slice_get rows j) (kid_at us j) (c.loop-at.invariant.so_far t d over sub j lt) in
          subst (λ xs. RowAt g (slice_get xs k) (kid_at us k)) (sym c.in_ok-push.ensures.items)
          (rows-more g rows c.in_ok-row.row at us c.loop-at.invariant.count before (subst (RowAt g (Some c.in_ok-row.row)) (sym there) made) k below);
    }

pub returns-clause-means : goal.returns-clause-means
returns-clause-means c = λ t d over sub.
    let us = apply_kids over.kids c.args.op 0 0 d in
    let end = c.loop-at-test.false in
    let to = c.loop-at.auto.at-end in
    let n = c.kid_count-at-end.ensures in
    let at : c.loop-at.at ≡ kids_of c.args.op = omega arith in
    let count = count-applied over.kids c.args.op 0 d ∙ over.count ∙ sym at in
    record {
      kids = us;
      made = ap (λ u. apply u d) over.made;
      are = rows-all (book_means c.loop-at.book) c.loop-at.rows.items c.loop-at.at us c.loop-at.invariant.count count (c.loop-at.invariant.so_far t d over sub);
      count = count-applied over.kids c.args.op 0 d ∙ over.count;
    }
