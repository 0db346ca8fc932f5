use Rattle.std.proofs.Common.{◌≡◌, ◌++◌, ◌-◌, ◌+◌, [], refl, sym, ◌∙◌, ap, subst}
use Rattle.closures.specs.Environments.{deepest}
use Rattle.closures.specs.Shown.{lists}
use Rattle.closures.proofs.HeadLaws.{closure-grows, closure_meaning-grows}
use Rattle.side_conditions.specs.Shapes.{tree_of}
use Rattle.tree_texts.specs.Layouts.{sides_of}
use Rattle.tree_frames.specs.Frames.{tree_in}
use Rattle.tree_texts.specs.Tasks.{HasNoSide}
use Rattle.tree_texts.proofs.SideLaws.{no-first, no-second, sides-end, sides-line, sides-term, sides-pair}
use Rattle.tree_texts.proofs.texts.open_sides.Goals as goal

pub returns-in_default-clause-opens : goal.returns-in_default-clause-opens
returns-in_default-clause-opens g c =
    let f = g.R.Rows.means c.args.rows.now in
    let old = lists c.args.environments.now in
    sides-end f old (lists c.side_of.new.environments) c.args.first c.args.sides c.args.into.now.items c.extend_from_slice.new.self.items c.args.tasks.now.items
    (no-first c.args.sides.style c.args.sides.level (tree_in f old c.args.sides.body) (tree_in f old c.args.sides.second) (rw c.in_default.is at c.in_ok-side.ensures.side))
    (c.in_ok-extend_from_slice.ensures.items ∙ ap (λ x. c.args.into.now.items ++ x) c.end_of.ensures)

pub side_of-requires-in-Pairs : goal.side_of-requires-in-Pairs
side_of-requires-in-Pairs g c = record {
  stands = closure-grows (g.R.Rows.means c.args.rows.now) (lists c.args.environments.now) (lists c.side_of.new.environments) (deepest - 1) c.args.sides.second c.in_ok-side.ensures.grows c.requires.second;
}

pub returns-in_default-2-clause-opens : goal.returns-in_default-2-clause-opens
returns-in_default-2-clause-opens g c =
    let f = g.R.Rows.means c.args.rows.now in
    let old = lists c.args.environments.now in
    let mid = lists c.side_of.new.environments in
    let s = c.args.sides in
    let same : tree_in f mid s.second ≡ tree_in f old s.second = ap tree_of (closure_meaning-grows f old mid s.second c.in_ok-side.ensures.grows c.requires.second.environment.within) in
    let none : HasNoSide (tree_in f mid s.second) = rw c.in_default-2.is at c.in_ok-other-in-Pairs.ensures.side in
    sides-end f old (lists c.side_of-in-Pairs.new.environments) c.args.first s c.args.into.now.items c.extend_from_slice-in_default-2.new.self.items c.args.tasks.now.items
    (subst (λ x. sides_of x s.level (tree_in f old s.body) (tree_in f old s.second) ≡ []) (sym c.in-Pairs.is) (no-second s.level (tree_in f old s.body) (tree_in f old s.second) (subst HasNoSide same none)))
    (c.in_ok-extend_from_slice-in-Pairs.ensures.items ∙ ap (λ x. c.args.into.now.items ++ x) c.end_of-in_default-2.ensures)

pub returns-in_ok-extend_from_slice-in-Lines-2-clause-opens :
    goal.returns-in_ok-extend_from_slice-in-Lines-2-clause-opens
returns-in_ok-extend_from_slice-in-Lines-2-clause-opens g c =
    sides-line (g.R.Rows.means c.args.rows.now) (lists c.args.environments.now) (lists c.side_of.new.environments) c.args.first c.args.sides c.args.into.now.items _ c.args.tasks.now.items _
    (c.in_ok-extend_from_slice-in-Lines.ensures.items ∙ ap (λ x. c.args.into.now.items ++ x) c.begin_of.ensures)
    c.in-Some.side.face c.in-Some.side.term c.in-Some.side.rest (c.args.sides.level + 1) c.in-Lines.is refl (rw c.in-Some.is at c.in_ok-side.ensures.side) c.in_ok-extend_from_slice-in-Lines-2.ensures.items

pub returns-in_ok-extend_from_slice-in-Terms-2-clause-opens :
    goal.returns-in_ok-extend_from_slice-in-Terms-2-clause-opens
returns-in_ok-extend_from_slice-in-Terms-2-clause-opens g c =
    sides-term (g.R.Rows.means c.args.rows.now) (lists c.args.environments.now) (lists c.side_of.new.environments) c.args.first c.args.sides c.args.into.now.items _ c.args.tasks.now.items _
    (c.in_ok-extend_from_slice-in-Terms.ensures.items ∙ ap (λ x. c.args.into.now.items ++ x) c.begin_of-in-Terms.ensures)
    c.in-Some.side.face c.in-Some.side.term c.in-Some.side.rest c.in-Terms.is (rw c.in-Some.is at c.in_ok-side.ensures.side) c.in_ok-extend_from_slice-in-Terms-2.ensures.items

pub returns-in_ok-extend_from_slice-in-Pairs-3-clause-opens :
    goal.returns-in_ok-extend_from_slice-in-Pairs-3-clause-opens
returns-in_ok-extend_from_slice-in-Pairs-3-clause-opens g c =
    let f = g.R.Rows.means c.args.rows.now in
    let old = lists c.args.environments.now in
    let mid = lists c.side_of.new.environments in
    sides-pair f old (lists c.side_of-in-Pairs.new.environments) c.args.first c.args.sides c.args.into.now.items _ c.args.tasks.now.items _
    (c.in_ok-extend_from_slice-in-Pairs-2.ensures.items ∙ ap (λ x. c.args.into.now.items ++ x) c.begin_of-in-Pairs.ensures)
    mid c.in-Some.side.face c.in-Some.side.term c.in-Some.side.rest c.in-Some-2.other.face c.in-Some-2.other.term c.in-Some-2.other.rest c.in-Pairs.is
    c.in_ok-other-in-Pairs.ensures.grows (rw c.in-Some.is at c.in_ok-side.ensures.side) (rw c.in-Some-2.is at c.in_ok-other-in-Pairs.ensures.side) c.in_ok-side.ensures.grows c.in_ok-extend_from_slice-in-Pairs-3.ensures.items
    (λ n s. ap tree_of (closure_meaning-grows f old mid c.args.sides.second c.in_ok-side.ensures.grows s.environment.within))
    (deepest - 1) c.requires.body c.requires.second
