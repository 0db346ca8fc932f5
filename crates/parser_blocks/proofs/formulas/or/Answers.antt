use Rattle.syntax.specs.View.{formula_of}
use Rattle.parser_states.specs.View.{inners_of, spine_of, stack_of}
use Rattle.parser_blocks.proofs.Forms.{conj_other}
use Rattle.parser_blocks.proofs.formulas.or.Goals as goal

pub returns-in_default : goal.returns-in_default
returns-in_default c =
    let a = c.args in
    let f = c.args.operand in
    let t = c.args.token in
    rw (conj_other (spine_of a.spine.value) a.at (inners_of a.frames.items) f.room f.start (formula_of f.formula) a.past (stack_of a.stack.items) t.start t.end t.kind c.in_default.not-Or c.requires)
    c.after_formula.ensures
