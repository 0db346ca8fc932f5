use Rattle.std.proofs.Common.{◌≡◌, sym, subst, List, [], ◌≤◌, ℕ}
use Rattle.recipes.specs.declared.row.Row.{Row}
use Rattle.trees.specs.Judgements.{Judgement}
use Rattle.book.specs.Contents.{Contents}
use Rattle.recipe_runner.specs.Running.{MayRun, most_made_by}
use Rattle.kan_tests.specs.Fillings.{earlier}
use Rattle.kan_tests.proofs.calls.premises.Goals as goal

pub given-requires-clause-rows : goal.given-requires-clause-rows
given-requires-clause-rows c = subst (λ rows. most_made_by rows ≤ 512) (sym c.split_at.ensures.front) c.requires.rows

along : (xs ys : List Row) (outs : List ℕ) (gives : List Judgement) → xs ≡ ys → ((b : Contents) → MayRun earlier b ys outs [] [] gives) → (b : Contents) → MayRun earlier b xs outs [] [] gives
along xs ys outs gives e h b = subst (λ rows. MayRun earlier b rows outs [] [] gives) (sym e) (h b)

pub given-requires-clause-right : goal.given-requires-clause-right
given-requires-clause-right c = (c.requires.right.0, along c.split_at.result.0.now _ c.args.outs.now c.requires.right.0 c.split_at.ensures.front c.requires.right.1)

pub returns-clause-gives : goal.returns-clause-gives
returns-clause-gives c = λ gives h.
    c.in_ok-given.ensures.gives gives (along c.split_at.result.0.now _ c.args.outs.now gives c.split_at.ensures.front h)
