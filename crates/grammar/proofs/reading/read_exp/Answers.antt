use Rattle.std.proofs.Common.{length, arith, refl}
use Rattle.grammar.proofs.Ends.{exp_fault, exp_read, exp_is_no_module}
use Rattle.grammar.proofs.Sizes.{short}
use Rattle.grammar.proofs.reading.read_exp.Goals as goal

pub overflow_cast-size : goal.overflow_cast-size
overflow_cast-size c = grind (arith, short c.args.bytes.now c.args.tokens.now c.requires)

pub returns-in-Ok-Exp-clause-ok : goal.returns-in-Ok-Exp-clause-ok
returns-in-Ok-Exp-clause-ok c =
    exp_read c.as_slice.result.now c.args.tokens.now 0 c.in-Ok-Exp.exp (rw c.in-Ok-Exp.field-0-is at c.in-Ok-Exp.ensures) c.as_slice.ensures

pub unreachable-requires : goal.unreachable-requires
unreachable-requires c = exp_is_no_module c.as_slice.result.now 0 c.in-Ok-Module._module (rw c.in-Ok-Module.field-0-is at c.in-Ok-Module.ensures)

pub returns-in-Err-clause-err : goal.returns-in-Err-clause-err
returns-in-Err-clause-err c =
    exp_fault c.as_slice.result.now c.args.tokens.now (length c.args.bytes.now) (length c.args.bytes.now) c.in-Err.fault c.in-Err.ensures c.as_slice.ensures refl
