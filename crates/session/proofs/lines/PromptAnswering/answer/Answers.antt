use Rattle.std.proofs.Common.{◌≡◌, ◌∙◌, string_bytes}
use Rattle.outcomes.specs.Outcomes.{plain_text}
use Rattle.session.proofs.LineLaws.{same_answers}
use Rattle.session.proofs.lines.PromptAnswering.answer.Goals as goal

pub returns-in_err-told-clause-same : goal.returns-in_err-told-clause-same
returns-in_err-told-clause-same c = same_answers c.args.self.now c.told.new.self c.told.ensures.program c.told.ensures.turns

pub returns-in_err-text-clause-same : goal.returns-in_err-text-clause-same
returns-in_err-text-clause-same c = same_answers c.args.self.now c.told.new.self c.told.ensures.program c.told.ensures.turns

pub returns-in_err-shown-clause-same : goal.returns-in_err-shown-clause-same
returns-in_err-shown-clause-same c = same_answers c.args.self.now c.told.new.self c.told.ensures.program c.told.ensures.turns

pub returns-clause-same : goal.returns-clause-same
returns-clause-same c = same_answers c.args.self.now c.told.new.self c.told.ensures.program c.told.ensures.turns

pub returns-clause-text : goal.returns-clause-text
returns-clause-text c =
    let shown : string_bytes c.in_ok-shown.shown ≡ plain_text c.in_ok-told.told = c.in_ok-shown.ensures.ok ∙ c.deref.ensures.value ∙ c.in_ok-text.ensures.text in
    (c.in_ok-told.told, c.in_ok-told.ensures.told, shown)
