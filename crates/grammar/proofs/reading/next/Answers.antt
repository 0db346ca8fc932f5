use Rattle.productions.specs.Words.{word_of}
use Rattle.parser_states.specs.View.{stack_of}
use Rattle.grammar.proofs.NoEnds.{given_step}
use Rattle.grammar.proofs.reading.next.Goals as goal

pub returns-in-Heading : goal.returns-in-Heading
returns-in-Heading c = rw c.in-Heading.is c.heading.ensures

pub returns-in-Items : goal.returns-in-Items
returns-in-Items c = rw c.in-Items.is c.items.ensures

pub returns-in-Block : goal.returns-in-Block
returns-in-Block c = rw c.in-Block.is c.block.ensures

pub returns-in-Exp : goal.returns-in-Exp
returns-in-Exp c = rw c.in-Exp.is c.exp.ensures

pub returns-in-Exp1 : goal.returns-in-Exp1
returns-in-Exp1 c = rw c.in-Exp1.is c.exp1.ensures

pub returns-in-Names : goal.returns-in-Names
returns-in-Names c = rw c.in-Names.is c.names.ensures

pub returns-in-Opened : goal.returns-in-Opened
returns-in-Opened c = rw c.in-Opened.is c.opened.ensures

pub returns-in-Maybe : goal.returns-in-Maybe
returns-in-Maybe c = rw c.in-Maybe.is c.maybe.ensures

pub returns-in-Projected : goal.returns-in-Projected
returns-in-Projected c = rw c.in-Projected.is c.projected.ensures

pub returns-in-Neg : goal.returns-in-Neg
returns-in-Neg c = rw c.in-Neg.is c.neg.ensures

pub returns-in-HaveNeg : goal.returns-in-HaveNeg
returns-in-HaveNeg c = rw c.in-HaveNeg.is c.after_neg.ensures

pub returns-in-System : goal.returns-in-System
returns-in-System c = rw c.in-System.is c.system.ensures

pub returns-in-Given : goal.returns-in-Given
returns-in-Given c =
    let p = c.args.parser in
    let t = c.args.token in
    rw c.in-Given.is (rw (given_step c.in-Given.top p.past (stack_of p.stack.items) (word_of t.kind) t.start t.end) c.given.ensures)
