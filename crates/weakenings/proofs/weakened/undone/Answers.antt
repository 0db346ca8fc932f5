use Rattle.std.proofs.Common.{◌≡◌, subst, Some}
use Rattle.trees.specs.Trees.{shift_by}
use Rattle.trees.specs.Things.{ASubst, both, then_of}
use Rattle.weakenings.proofs.WeakeningLaws.{IsSized, sized, under_identity, undoes}
use Rattle.weakenings.proofs.weakened.undone.Goals as goal

pub returns-in-Some : goal.returns-in-Some
returns-in-Some g c =
    let f = g.R.Rows.means c.args.rows.now in
    let none : c.size.result.pushed ≡ Some 0 = search in
    let zero : c.size.result.shift ≡ 0 = search in
    under_identity (f c.args.term.0) (f c.args.sub.0) c.requires
    (subst (IsSized (f c.args.sub.0) 0) zero (sized (f c.args.sub.0) c.size.result 0 c.size.ensures none))

pub returns-in-Some-eq0 : goal.returns-in-Some-eq0
returns-in-Some-eq0 g c =
    let f = g.R.Rows.means c.args.rows.now in
    undoes (f c.in-Instance.tree.0) (f c.in-Instance.first.0) (f c.args.term.0) (f c.args.sub.0) c.in-Instance.ensures.meaning c.requires
    (subst (λ n. both then_of (f c.in-Instance.first.0) (f c.args.sub.0) ≡ Some (ASubst (shift_by n))) c.in-Some-eq0.field-0-test c.in-Some-eq0.ensures.both)
