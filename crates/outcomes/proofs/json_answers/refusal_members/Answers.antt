use Rattle.outcomes.proofs.JsonLaws.{refusal_given}
use Rattle.outcomes.proofs.json_answers.refusal_members.Goals as goal

pub returns : goal.returns
returns c = refusal_given c.args.refusal.now c.args.texts c.place_of.result c.name.result c.as_deref.result c.place_of.ensures c.name.ensures c.as_deref.ensures.value
