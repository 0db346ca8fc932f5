use Rattle.std.proofs.Common.{◌-◌, arith}
use Rattle.form_rows.proofs.NestLaws.{nested_none, nested_more, nested_fits, nested_all}
use Rattle.form_rows.proofs.nesting.nested.Goals as goal

pub loop-at-init : goal.loop-at-init
loop-at-init g c = nested_none _ _ _ _ c.requires.last

pub make-requires : goal.make-requires
make-requires g c = let t = c.loop-at-test.true in nested_fits (c.loop-at.at - 1) c.requires.two c.requires.rows c.loop-at.invariant (omega arith)

pub loop-at-preserved : goal.loop-at-preserved
loop-at-preserved g c =
    let t = c.loop-at-test.true in
    nested_more (c.loop-at.at - 1) c.in_ok-row.row c.requires.two c.requires.rows c.loop-at.invariant (omega arith) c.make.ensures.kept c.in_ok-row.ensures.meaning

pub returns-clause-nested : goal.returns-clause-nested
returns-clause-nested g c ts t a b = let n = c.loop-at-test.false in nested_all ts t c.loop-at.invariant (omega arith) a b
