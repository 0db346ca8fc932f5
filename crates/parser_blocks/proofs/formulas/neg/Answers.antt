use Rattle.parser_states.specs.View.{inners_of, spine_of, stack_of}
use Rattle.parser_blocks.proofs.Others.{neg_none}
use Rattle.parser_blocks.proofs.formulas.neg.Goals as goal

pub returns-in_default : goal.returns-in_default
returns-in_default c =
    let n = c.in_default in
    neg_none (spine_of c.args.spine.value) c.args.at (inners_of c.args.frames.items) c.args.room c.args.past (stack_of c.args.stack.items) c.args.token.start c.args.token.end c.args.token.kind n.not-Minus n.not-LeftParen n.not-Zero n.not-One n.not-Identifier
