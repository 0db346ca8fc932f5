use Rattle.std.proofs.Common.{[], ◌∷◌, arith}
use Rattle.trees.specs.Language.{Tm}
use Rattle.typed_nodes.proofs.GrowthLaws.{family_later}
use Rattle.typing_tasks.specs.declared.tasks.Task.TheVariants.{Pairing}
use Rattle.typing_tasks.specs.declared.tasks.Pairing.TheVariants.{Components, Second, Pair}
use Rattle.typing_tasks.specs.States.{place}
use Rattle.typing_steps.proofs.GrowthLaws.{state_later}
use Rattle.typing_steps.proofs.Planning.{leaves}
use Rattle.typing_steps.proofs.PairLaws.{second_run}
use Rattle.typing_steps.proofs.state.CheckState.second.Goals as goal

pub last_node-requires : goal.last_node-requires
last_node-requires c =
    let (S, M, is, does) = c.requires in let (A, B, a, js, family, found, e) = does in (c.args.book.now, S, Tm (place S) a A, js, is, found)

pub codomain_at-requires : goal.codomain_at-requires
codomain_at-requires c =
    let (S, M, is, does) = c.requires in let (A, B, a, js, family, found, e) = does in
    (place S, A, B, a, family, c.last_node.ensures c.args.book.now S (Tm (place S) a A) js is found)

pub returns-clause-steps : goal.returns-clause-steps
returns-clause-steps c =
    λ S M is does.
    let (A, B, a, js, family, found, e) = does in
    let first = c.last_node.ensures c.args.book.now S (Tm (place S) a A) js is found in
    let later = family_later c.args.book.now c.codomain_at.new.book c.args.family (place S) A B c.codomain_at.ensures.extends family in
    leaves c.codomain_at.new.book c.args.self.now c.args.tasks.now c.plan.new.self (Pairing (Second c.args.rest c.args.family)) c.in_ok-plan.field-0 M S (Pairing (Components c.args.rest c.in_ok-ty.ty) ∷ Pairing (Pair c.args.family) ∷ []) c.in_ok-plan.ensures.0 (state_later c.codomain_at.ensures.extends c.args.self.now S is) c.in_ok-plan.ensures.1 (omega arith)
    (second_run c.codomain_at.new.book S M c.args.rest c.in_ok-ty.ty c.args.family A B a js later (c.in_ok-ty.ensures.typed (place S) A B a family first) found e)
