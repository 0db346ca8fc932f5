use Rattle.std.proofs.Common.{◌<◌, ap, sym, ◌∙◌, arith, subst}
use Rattle.typing_tasks.specs.declared.tasks.Task.TheVariants as task
use Rattle.typing_tasks.specs.Weights.{weight_of}
use Rattle.typing_tasks.specs.Outcomes.{typed, infer}
use Rattle.typing_steps.specs.Steps.{Settles}
use Rattle.typing_steps.proofs.Planning.{settled}
use Rattle.bidirect.proofs.FormLaws.{bound_infers, defined_infers, nat_infers, zero_infers, weighs_bound, weighs_defined, weighs_nat, weighs_zero}
use Rattle.bidirect.proofs.inferring.infer.Goals as goal

pub returns-in_ok-bound-in-Bound-clause-steps : goal.returns-in_ok-bound-in-Bound-clause-steps
returns-in_ok-bound-in-Bound-clause-steps c = λ S M s e.
    let weighs = ap weight_of c.in-Bound.is ∙ weighs_bound c.in-Bound.span c.in-Bound.index in
    let more : 0 < weight_of c.args.code.now = omega (arith, weighs) in
    let reads = e ∙ ap (λ z. infer (typed z) S) c.in-Bound.is ∙ bound_infers c.in-Bound.span c.in-Bound.index S in
    settled c.bound.new.book c.bound.new.self c.args.tasks.now (task.Infer c.args.code) c.in_ok-bound-in-Bound.field-0 M more
    (subst (Settles c.bound.new.book c.bound.new.self c.in_ok-bound-in-Bound.field-0) (sym reads) (c.in_ok-bound-in-Bound.ensures.infers S s))

pub returns-in_ok-defined-in-Defined-clause-steps : goal.returns-in_ok-defined-in-Defined-clause-steps
returns-in_ok-defined-in-Defined-clause-steps c = λ S M s e.
    let weighs = ap weight_of c.in-Defined.is ∙ weighs_defined c.in-Defined.span c.in-Defined.number in
    let more : 0 < weight_of c.args.code.now = omega (arith, weighs) in
    let reads = e ∙ ap (λ z. infer (typed z) S) c.in-Defined.is ∙ defined_infers c.in-Defined.span c.in-Defined.number S in
    settled c.defined.new.book c.defined.new.self c.args.tasks.now (task.Infer c.args.code) c.in_ok-defined-in-Defined.field-0 M more
    (subst (Settles c.defined.new.book c.defined.new.self c.in_ok-defined-in-Defined.field-0) (sym reads) (c.in_ok-defined-in-Defined.ensures.infers S s))

pub returns-in_ok-numbers_inferred-in-Nat-clause-steps : goal.returns-in_ok-numbers_inferred-in-Nat-clause-steps
returns-in_ok-numbers_inferred-in-Nat-clause-steps c = λ S M s e.
    let weighs = ap weight_of c.in-Nat.is ∙ weighs_nat c.in-Nat.span in
    let more : 0 < weight_of c.args.code.now = omega (arith, weighs) in
    let reads = e ∙ ap (λ z. infer (typed z) S) c.in-Nat.is ∙ nat_infers c.in-Nat.span S in
    settled c.numbers_inferred.new.book c.numbers_inferred.new.self c.args.tasks.now (task.Infer c.args.code) c.in_ok-numbers_inferred-in-Nat.field-0 M more
    (subst (Settles c.numbers_inferred.new.book c.numbers_inferred.new.self c.in_ok-numbers_inferred-in-Nat.field-0) (sym reads) (c.in_ok-numbers_inferred-in-Nat.ensures.infers S s))

pub returns-in_ok-zero_inferred-in-Zero-clause-steps : goal.returns-in_ok-zero_inferred-in-Zero-clause-steps
returns-in_ok-zero_inferred-in-Zero-clause-steps c = λ S M s e.
    let weighs = ap weight_of c.in-Zero.is ∙ weighs_zero c.in-Zero.span in
    let more : 0 < weight_of c.args.code.now = omega (arith, weighs) in
    let reads = e ∙ ap (λ z. infer (typed z) S) c.in-Zero.is ∙ zero_infers c.in-Zero.span S in
    settled c.zero_inferred.new.book c.zero_inferred.new.self c.args.tasks.now (task.Infer c.args.code) c.in_ok-zero_inferred-in-Zero.field-0 M more
    (subst (Settles c.zero_inferred.new.book c.zero_inferred.new.self c.in_ok-zero_inferred-in-Zero.field-0) (sym reads) (c.in_ok-zero_inferred-in-Zero.ensures.infers S s))
