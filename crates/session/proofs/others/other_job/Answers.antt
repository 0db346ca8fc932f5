use Rattle.std.proofs.Common.{◌≡◌, ◌∙◌, [], length, refl, sym, ap, subst, Some, IsSome}
use Rattle.resolver.specs.Resolved.{defs_in}
use Rattle.direct.specs.Direct.{other_place}
use Rattle.session.specs.Checks.{not_taken, spent}
use Rattle.session.specs.Others.{IsOther}
use Rattle.session.proofs.PlaceLaws.{other_inside}
use Rattle.session.proofs.others.other_job.Goals as goal
use Rattle.session.proofs.others.other_job.Goals.{In-NotTaken}

-- the first that is not direct is the one for which a step was not taken
first_is : (c : In-NotTaken) → other_place (defs_in c.args.program.now.codes) [] ≡ Some c.in-NotTaken.first
first_is c =
    let o = c.requires.other in
    o.1 ∙ ap Some (sym (subst (IsOther (length (defs_in c.args.program.now.codes)) o.0) c.in-NotTaken.is o.2))

pub refused_at-requires-clause-within : goal.refused_at-requires-clause-within
refused_at-requires-clause-within c = other_inside (defs_in c.args.program.now.codes) [] c.in-NotTaken.first (first_is c)

pub returns-in_ok-refuted_job-in-Refuted : goal.returns-in_ok-refuted_job-in-Refuted
returns-in_ok-refuted_job-in-Refuted c = c.in_ok-refuted_job-in-Refuted.ensures c.args.turns

pub returns-in_ok-spent_in-in-Spent : goal.returns-in_ok-spent_in-in-Spent
returns-in_ok-spent_in-in-Spent c =
    spent (subst IsSome (sym c.requires.other.1) refl) c.in-Spent.place c.in_ok-spent_in-in-Spent.ensures

pub returns-in_ok-refused_at-in-NotTaken : goal.returns-in_ok-refused_at-in-NotTaken
returns-in_ok-refused_at-in-NotTaken c =
    let d = (goal.at.returns-in_ok-refused_at-in-NotTaken c).In-NotTaken in
    not_taken c.in-NotTaken.first (first_is d) c.in_ok-refused_at-in-NotTaken.ensures
