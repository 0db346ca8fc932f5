use Rattle.std.proofs.Common.{◌<◌, ◌+◌, [], ◌∷◌, arith}
use Rattle.typing_tasks.specs.declared.tasks.Task.TheVariants as task
use Rattle.typing_tasks.specs.declared.tasks.Lining.TheVariants as lining
use Rattle.typing_tasks.specs.declared.tasks.Sort.TheVariants.{Large}
use Rattle.typing_tasks.specs.Weights.{weight_of, opened_weight, weight}
use Rattle.typing_steps.proofs.Planning.{leaves}
use Rattle.bidirect.proofs.CodeLaws.{transport_infer}
use Rattle.bidirect.proofs.inferring.transport.Goals as goal

pub returns : goal.returns
returns c = λ t enough b x S is.
    let l = c.args.line in
    let p = c.args.base in
    let ts = task.Lining (lining.Line l Large) ∷ task.Lining (lining.Left p Large) ∷ task.Lining lining.Transport ∷ [] in
    let less : opened_weight l.now + (4 + weight_of p.now + (1 + 0)) < weight t = omega (arith, enough) in
    leaves b x c.args.tasks.now c.plan.new.self t c.in_ok-plan.field-0 _ S ts c.in_ok-plan.ensures.0 is c.in_ok-plan.ensures.1 less (transport_infer b l p S)
