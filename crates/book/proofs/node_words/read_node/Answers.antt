use Rattle.std.proofs.Common.{◌∙◌, ap₂, take, drop}
use Rattle.std.proofs.lemmas.Option.{slice_get-get_or}
use Rattle.book.specs.declared.node_words.TheConstants.{FORMS}
use Rattle.book.proofs.NodeLaws.{rule-within, form-within, node-read}
use Rattle.book.proofs.node_words.read_node.Goals as goal

pub numbered_rule-rule-requires : goal.numbered_rule-rule-requires
numbered_rule-rule-requires c = rule-within c.args.words.now c.requires.node c.requires.is

pub returns-clause-node : goal.returns-clause-node
returns-clause-node c =
    let words = c.args.words.now in
    let rest = c.split_at-2.ensures.back ∙ ap₂ drop c.count_places.ensures c.split_at.ensures.back in
    node-read words c.requires.node c.requires.is _ _ _ _ _
    c.numbered_rule-rule.ensures
    (slice_get-get_or FORMS _ _ (form-within words c.requires.node c.requires.is))
    (c.split_at-2.ensures.front ∙ ap₂ take c.count_places.ensures c.split_at.ensures.back)
    (c.split_at-3.ensures.front ∙ ap₂ take c.count_parts.ensures rest)
    (c.split_at-3.ensures.back ∙ ap₂ drop c.count_parts.ensures rest)
