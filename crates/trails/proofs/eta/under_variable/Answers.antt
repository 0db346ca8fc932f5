use Rattle.std.proofs.Common.{refl, ap₂, ◌∙◌}
use Rattle.trees.specs.Things.{both, with_variable}
use Rattle.book.proofs.FitLaws.{extends-trans}
use Rattle.trails.proofs.StationLaws.{row_of-kept}
use Rattle.trails.proofs.GoesLaws.{variable-goes}
use Rattle.trails.proofs.eta.under_variable.Goals as goal

pub returns-clause-extends : goal.returns-clause-extends
returns-clause-extends c = extends-trans _ _ _ c.in_ok-ctx.ensures.extends (extends-trans _ _ _ c.in_ok-left.ensures.extends c.in_ok-right.ensures.extends)

pub returns-clause-goes : goal.returns-clause-goes
returns-clause-goes c = λ s A stands domain first.
    let a = c.in_ok-ctx.ensures.extends.rows in
    let b = c.in_ok-left.ensures.extends.rows in
    let d = c.in_ok-right.ensures.extends.rows in
    variable-goes _ s A _ first
    (d.keeps _ _ (b.keeps _ _ (c.in_ok-ctx.ensures.means ∙ ap₂ (both with_variable) stands.ctx domain)))
    (row_of-kept _ _ d _ _ (c.in_ok-left.ensures.means s.left (a.keeps _ _ stands.left) refl))
    (c.in_ok-right.ensures.means s.right (b.keeps _ _ (a.keeps _ _ stands.right)) refl)
    refl
