use Rattle.std.proofs.Common.{length, arith, refl}
use Rattle.grammar.proofs.Ends.{module_fault, module_read, module_is_no_exp}
use Rattle.grammar.proofs.Sizes.{short}
use Rattle.grammar.proofs.reading.read.Goals as goal

pub overflow_cast-size : goal.overflow_cast-size
overflow_cast-size c = grind (arith, short c.args.bytes.now c.args.tokens.now c.requires)

pub returns-in-Ok-Module-clause-ok : goal.returns-in-Ok-Module-clause-ok
returns-in-Ok-Module-clause-ok c =
    module_read c.as_slice.result.now c.args.tokens.now 0 c.in-Ok-Module.module (rw c.in-Ok-Module.field-0-is at c.in-Ok-Module.ensures) c.as_slice.ensures

pub unreachable-requires : goal.unreachable-requires
unreachable-requires c = module_is_no_exp c.as_slice.result.now 0 c.in-Ok-Exp._exp (rw c.in-Ok-Exp.field-0-is at c.in-Ok-Exp.ensures)

pub returns-in-Err-clause-err : goal.returns-in-Err-clause-err
returns-in-Err-clause-err c =
    module_fault c.as_slice.result.now c.args.tokens.now (length c.args.bytes.now) (length c.args.bytes.now) c.in-Err.fault c.in-Err.ensures c.as_slice.ensures refl
