use Rattle.std.proofs.Common.{◌-◌, ◌+◌, refl, sym, ◌∙◌, ap, subst, arith}
use Rattle.closures.specs.Environments.{deepest}
use Rattle.closures.specs.Shown.{lists}
use Rattle.trees.specs.Operators.{binds_of}
use Rattle.fixed_names.specs.Fixed.{bound}
use Rattle.fixed_names.specs.Scopes.{fixed_in}
use Rattle.fixed_names.specs.Shown.{fixed_by}
use Rattle.normality.proofs.LeaveLaws.{leaves-kid, leaves-end}
use Rattle.normality.proofs.openings.next_kid.Goals as goal

pub returns-in_ok-extend_from_slice : goal.returns-in_ok-extend_from_slice
returns-in_ok-extend_from_slice g c =
    let b = c.from.ensures ∙ c.binds.ensures in
    leaves-kid (g.R.Rows.means c.args.rows.now) (lists c.args.environments.now) (fixed_by c.args.scopes.now) (deepest - 1) c.args.scope c.below.result c.args.frame c.kid_of.result c.place_of.result _ c.args.tests.now.items c.extend_from_slice.new.self.items
    c.requires.stands (rw (← c.kid_count.ensures) c.if-frame-kid_count.true) c.kid_of.ensures c.place_of.ensures
    (c.below.ensures.fixes ∙ ap (λ n. bound n (fixed_in (fixed_by c.args.scopes.now) c.args.scope)) b) c.below.ensures.within (omega (arith, b, c.below.ensures.depth)) refl c.in_ok-extend_from_slice.ensures.items

pub returns-else-frame-kid_count : goal.returns-else-frame-kid_count
returns-else-frame-kid_count g c =
    leaves-end (g.R.Rows.means c.args.rows.now) (lists c.args.environments.now) (fixed_by c.args.scopes.now) (deepest - 1) c.args.scope c.args.frame c.args.tests.now.items c.requires.stands (rw (← c.kid_count.ensures) c.if-frame-kid_count.false)
