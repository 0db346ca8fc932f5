use Rattle.parser_states.proofs.FormWords.{no_form}
use Rattle.parser_states.proofs.words.form_word.Goals as goal

pub returns-in_default : goal.returns-in_default
returns-in_default c =
    let n = c.in_default in no_form c.args.kind n.not-PathP n.not-Comp n.not-Fill n.not-Transport n.not-GlueType n.not-GlueTerm n.not-Unglue
