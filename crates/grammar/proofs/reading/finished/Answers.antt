use Rattle.parser_states.specs.View.{stack_of}
use Rattle.grammar.proofs.NoEnds.{other_ends}
use Rattle.grammar.proofs.reading.finished.Goals as goal

pub returns : goal.returns
returns c = other_ends c.args.parser.top c.in_default.not-Done c.in_default.not-Projected c.in_default.not-Given c.in_default.not-HaveNeg c.args.parser.past (stack_of c.args.parser.stack.items)
