use Rattle.std.proofs.Common.{refl, ap, ◌∙◌}
use Rattle.std.specs.Prelude.{option_and_then}
use Rattle.trees.specs.Things.{with_a_name}
use Rattle.book.proofs.FitLaws.{extends-trans}
use Rattle.trails.proofs.StationLaws.{row_of-kept}
use Rattle.trails.proofs.GoesLaws.{name-goes}
use Rattle.trails.proofs.eta.under_name.Goals as goal

pub returns-clause-extends : goal.returns-clause-extends
returns-clause-extends c = extends-trans _ _ _ c.in_ok-ctx.ensures.extends (extends-trans _ _ _ c.in_ok-left.ensures.extends c.in_ok-right.ensures.extends)

pub returns-clause-goes : goal.returns-clause-goes
returns-clause-goes c = λ s stands none one.
    let a = c.in_ok-ctx.ensures.extends.rows in
    let b = c.in_ok-left.ensures.extends.rows in
    let d = c.in_ok-right.ensures.extends.rows in
    name-goes _ s _ none one
    (d.keeps _ _ (b.keeps _ _ (c.in_ok-ctx.ensures.means ∙ ap (option_and_then with_a_name) stands.ctx)))
    (row_of-kept _ _ d _ _ (c.in_ok-left.ensures.means s.left (a.keeps _ _ stands.left) refl))
    (c.in_ok-right.ensures.means s.right (b.keeps _ _ (a.keeps _ _ stands.right)) refl)
    refl
