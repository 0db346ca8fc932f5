use Rattle.std.proofs.Common.{ℕ, inr, refl, ap}
use Rattle.examining.specs.declared.examiner.Place.{Place}
use Rattle.session.proofs.normal_command.unaligned_job.Goals as goal

pub returns : goal.returns
returns c = λ part turns last proved.
    let body = c.body_start.ensures in
    let at : ℕ → Place = λ n. record { definition = c.args.place; at = n } in
    inr (inr (record {
      place = c.args.place;
      last = last;
      proved = proved;
      code = body.0;
      code_is = body.1;
      at = at c.body_start.result;
      at_is = ap at body.2;
      refusal = c.in_ok-refusal.refusal;
      refused = c.in_ok-refusal.ensures;
      path_is = c.in_ok-path.ensures;
      evidence = c.args.evidence;
      evidence_is = c.requires.unaligned;
      bytes_are = refl;
      is_told = refl;
    }))
