use Rattle.std.proofs.Common.{◌≡◌, ◌≤◌, List, ℕ, length, take, subst, refl, arith}
use Rattle.std.specs.List.{All}
use Rattle.std.proofs.lemmas.List.{take_all}
use Rattle.std.proofs.lemmas.List.Elements.{All-more}
use Rattle.rows.specs.Views.{IsTree}
use Rattle.book.specs.Shown.{book_means}
use Rattle.tested_steps.proofs.making.are_trees.Goals as goal

pub loop-row-preserved : goal.loop-row-preserved
loop-row-preserved c =
    All-more (λ row. IsTree (book_means c.args.book.now row)) c.args.rows.now c.loop-row.row-index 0 c.loop-row-test.true c.loop-row.invariant
    (c.is_of_kind.ensures.0 c.if-not-is_of_kind.false)

pub returns : goal.returns
returns c =
    let P : ℕ → Type 0 = λ row. IsTree (book_means c.args.book.now row) in
    let Holds : List ℕ → Type 0 = All P in
    let past : length c.args.rows.now ≤ c.loop-row.row-index = omega (arith, c.loop-row-test.false) in
    let whole : take c.loop-row.row-index c.args.rows.now ≡ c.args.rows.now = take_all c.loop-row.row-index c.args.rows.now past in
    (λ h. subst Holds whole c.loop-row.invariant, λ h. refl)

pub returns-then-not-is_of_kind : goal.returns-then-not-is_of_kind
returns-then-not-is_of_kind c = (
  λ no. cc,
  λ all.
      let yes = c.is_of_kind.ensures.1 (all c.loop-row.row-index 0 c.loop-row-test.true) in
      let no = c.if-not-is_of_kind.true in
      cc,
)
