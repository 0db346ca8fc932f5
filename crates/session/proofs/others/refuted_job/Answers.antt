use Rattle.std.proofs.Common.{refl, subst}
use Rattle.session.specs.Checks.{not_inferred}
use Rattle.session.specs.Refutals.{IsRefutal}
use Rattle.session.proofs.others.refuted_job.Goals as goal

pub returns-in_ok-refusal-in-CannotInfer : goal.returns-in_ok-refusal-in-CannotInfer
returns-in_ok-refusal-in-CannotInfer c = λ turns.
    not_inferred c.requires.other c.args.place c.in_ok-refusal-in-CannotInfer.refusal c.in_ok-refusal-in-CannotInfer.ensures refl

pub returns-in_ok-path-in-Shown : goal.returns-in_ok-path-in-Shown
returns-in_ok-path-in-Shown c = λ turns. record {
  other = c.requires.other;
  path_is = c.in_ok-path-in-Shown.ensures;
  at = c.args.place;
  why = c.in-Shown.cause;
  refusal = c.in_ok-refusal-in-Shown.refusal;
  refused = c.in_ok-refusal-in-Shown.ensures;
  evidence = c.in-Shown.field-1;
  evidence_is = subst IsRefutal c.in-Shown.is c.requires.refutal;
  bytes_are = refl;
  is_told = refl;
}
