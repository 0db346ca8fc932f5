use Rattle.std.proofs.Common.{◌≡◌, ◌≤◌, List, ℕ, length, take, subst, refl, arith}
use Rattle.std.specs.List.{All}
use Rattle.std.proofs.lemmas.List.{take_all}
use Rattle.std.proofs.lemmas.List.Elements.{All-more}
use Rattle.rows.specs.Views.{IsTree}
use Rattle.rows.specs.Shown.{store_means}
use Rattle.rows.proofs.store.RowStore.all_terms.Goals as goal

pub loop-row-preserved : goal.loop-row-preserved
loop-row-preserved c =
    All-more (λ row. IsTree (store_means c.args.self.now row)) c.args.rows.now c.loop-row.row-index 0 c.loop-row-test.true c.loop-row.invariant
    (c.is_term.ensures.0 c.if-not-is_term.false)

pub returns : goal.returns
returns c =
    let P : ℕ → Type 0 = λ row. IsTree (store_means c.args.self.now row) in
    let Holds : List ℕ → Type 0 = All P in
    let past : length c.args.rows.now ≤ c.loop-row.row-index = omega (arith, c.loop-row-test.false) in
    let whole : take c.loop-row.row-index c.args.rows.now ≡ c.args.rows.now = take_all c.loop-row.row-index c.args.rows.now past in
    (λ h. subst Holds whole c.loop-row.invariant, λ h. refl)

pub returns-then-not-is_term : goal.returns-then-not-is_term
returns-then-not-is_term c = (
  λ no. cc,
  λ all.
      let yes = c.is_term.ensures.1 (all c.loop-row.row-index 0 c.loop-row-test.true) in
      let no = c.if-not-is_term.true in
      cc,
)
