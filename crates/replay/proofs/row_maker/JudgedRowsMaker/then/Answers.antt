use Rattle.std.proofs.Common.{◌≡◌, ◌∙◌, sym, subst, Some}
use Rattle.trees.specs.Trees.{shift_by}
use Rattle.trees.specs.Things.{ASubst, both, then_of}
use Rattle.rows.specs.Views.{IsSubst}
use Rattle.replay.specs.Shown.{rows_mean}
use Rattle.replay.proofs.MakerLaws.{shift_is_subst}
use Rattle.replay.proofs.row_maker.JudgedRowsMaker.then.Goals as goal

pub shift_of_both-requires-clause-first : goal.shift_of_both-requires-clause-first
shift_of_both-requires-clause-first c =
    let here = shift_is_subst _ (rows_mean c.args.self.now c.args.first) c.requires.first in
    subst (λ f. IsSubst (f c.args.first)) (sym c.store.ensures) here

pub shift_of_both-requires-clause-second : goal.shift_of_both-requires-clause-second
shift_of_both-requires-clause-second c =
    let here = shift_is_subst _ (rows_mean c.args.self.now c.args.second) c.requires.second in
    subst (λ f. IsSubst (f c.args.second)) (sym c.store.ensures) here

pub returns-in_ok-shift-in-Some-clause-meaning : goal.returns-in_ok-shift-in-Some-clause-meaning
returns-in_ok-shift-in-Some-clause-meaning c =
    c.in_ok-shift-in-Some.ensures.meaning
    ∙ sym (subst (λ f. both then_of (f c.args.first) (f c.args.second) ≡ Some (ASubst (shift_by c.in-Some.by))) c.store.ensures c.in-Some.ensures.both)
