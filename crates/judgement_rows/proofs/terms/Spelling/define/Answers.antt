use Rattle.form_rows.proofs.RowLaws.{tree_kept, trees_kept}
use Rattle.judgement_rows.proofs.BlockSteps.{closed, two_more}
use Rattle.judgement_rows.proofs.terms.Spelling.define.Goals as goal

pub nested-requires-2-clause-rows : goal.nested-requires-2-clause-rows
nested-requires-2-clause-rows g c =
    trees_kept _ _ _ c.nested.ensures.kept c.requires.types

pub nested-requires-2-clause-last : goal.nested-requires-2-clause-last
nested-requires-2-clause-last g c =
    tree_kept _ _ _ c.nested.ensures.kept c.requires.body

pub returns-clause-defines : goal.returns-clause-defines
returns-clause-defines g c =
    closed c.nested.ensures.kept c.in_ok-ty.ensures.nested c.nested-2.ensures.kept c.in_ok-row.ensures.nested
    (two_more _ _ _ c.in_ok-push.ensures.items c.in_ok-push-2.ensures.items) c.in_ok-push-3.ensures
