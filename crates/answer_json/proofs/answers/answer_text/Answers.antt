use Rattle.std.proofs.Common.{◌∙◌, ap}
use Rattle.serde_json.specs.View.{members_view}
use Rattle.answer_json.specs.Members.{all_of, put_each}
use Rattle.answer_json.proofs.ObjectLaws.{object_text}
use Rattle.answer_json.proofs.answers.answer_text.Goals as goal

pub returns : goal.returns
returns c =
    object_text c.to_string.result c.put_all.new.object c.args.members.now
    (c.in_ok-put_all.ensures ∙ ap (λ es. put_each (all_of c.args.members.now) (members_view es)) c.new-object.ensures.empty)
    c.to_string.ensures.text
