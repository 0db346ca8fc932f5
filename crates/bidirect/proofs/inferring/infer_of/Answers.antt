use Rattle.std.proofs.Common.{sym, ◌∙◌}
use Rattle.typing_tasks.specs.Outcomes.{typed}
use Rattle.bidirect.proofs.FormLaws.{never_inferred, infer_none}
use Rattle.bidirect.proofs.inferring.infer_of.Goals as goal

pub returns : goal.returns
returns c = λ b x S M is e.
    e ∙ infer_none (typed c.args.code.now) S (never_inferred c.args.code.now c.requires (sym c.if-is_binding.ensures) (sym c.if-is_compound.ensures) (sym c.if-is_lined.ensures) S.known)
