use Rattle.syntax.specs.View.{formula_of}
use Rattle.parser_states.specs.View.{inners_of, spine_of, stack_of}
use Rattle.parser_blocks.proofs.Others.{parens_none}
use Rattle.parser_blocks.proofs.formulas.parens.Goals as goal

pub returns-in_default : goal.returns-in_default
returns-in_default c =
    let n = c.in_default in
    parens_none (spine_of c.args.spine.value) c.args.at c.args.room c.args.start (inners_of c.args.frames.items) (formula_of c.args.formula) c.args.past (stack_of c.args.stack.items) c.args.token.start c.args.token.end c.args.token.kind n.not-RightParen
