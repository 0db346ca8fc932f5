use Rattle.linking.proofs.LinkLaws.{next_linked, refused_first}
use Rattle.linking.proofs.linked.link.Goals as goal

pub loop-module-preserved : goal.loop-module-preserved
loop-module-preserved c =
    next_linked c.args.texts.now c.split_at.result.0.now c.loop-module.module c.index-texts-module.result c.add.new.self c.loop-module-test.true c.split_at.ensures.front c.index-texts-module.is
    c.in_default.ensures.ok

pub returns-in-Err-clause-err : goal.returns-in-Err-clause-err
returns-in-Err-clause-err c =
    refused_first c.args.texts.now c.split_at.result.0.now c.loop-module.module c.loop-module.linker c.index-texts-module.result c.in-Err.fault c.loop-module-test.true
    c.split_at.ensures.front c.index-texts-module.is c.loop-module.invariant c.in-Err.ensures.err
