use Rattle.std.proofs.Common.{◌≡◌, ◌∙◌, ap, codes, refl, sym}
use Rattle.json.specs.Print.{escape_byte}
use Rattle.outcomes.specs.Json.{json_text}
use Rattle.outcomes.specs.declared.outcome.Outcome.TheVariants as outcome
use Rattle.outcomes.proofs.outcome.Outcome.json.Goals as goal

pub returns-in-WriteFault-clause-text : goal.returns-in-WriteFault-clause-text
unfolding escape_byte
returns-in-WriteFault-clause-text c =
    let is : codes "{\"answer\":\"fault\",\"cause\":\"WriteFault\"}\n" ≡ json_text outcome.WriteFault = refl in
    is ∙ ap json_text (sym c.in-WriteFault.is)
