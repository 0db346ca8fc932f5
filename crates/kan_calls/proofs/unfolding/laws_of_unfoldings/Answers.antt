use Rattle.std.proofs.Common.{◌∙◌, ap, Some}
use Rattle.kan_calls.proofs.UnfoldLaws.{may-call-use, unfolded-use}
use Rattle.kan_calls.proofs.unfolding.laws_of_unfoldings.Goals as goal

pub returns : goal.returns
returns c = record {
  may_use = λ b ctx step J plain h. (h.use_is.things, may-call-use b ctx step J plain h);
  gives = λ b new ctx step unfolded J plain h given.
      given h.use_is.things (may-call-use b ctx step J plain h) ∙ ap Some (unfolded-use b ctx step J h);
}
