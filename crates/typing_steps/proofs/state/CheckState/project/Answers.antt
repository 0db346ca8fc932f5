use Rattle.std.proofs.Common.{arith, subst}
use Rattle.std.proofs.lemmas.Slice.{first_rest}
use Rattle.trees.specs.Language.{Tm}
use Rattle.translation.specs.Terms.{sig}
use Rattle.typed_nodes.specs.Typed.{Says}
use Rattle.typed_nodes.proofs.GrowthLaws.{says_later}
use Rattle.typed_contexts.proofs.GrowthLaws.{further}
use Rattle.typing_tasks.specs.States.{place}
use Rattle.typing_steps.proofs.PairLaws.{short, first_of, sigma_parts}
use Rattle.typing_steps.proofs.HeadLaws.{takes_last, project_none, project_not, project_planned}
use Rattle.typing_steps.proofs.state.CheckState.project.Goals as goal

pub returns-in_default-clause-steps : goal.returns-in_default-clause-steps
returns-in_default-clause-steps c = project_none c.args.book.now c.args.self.now c.args.tasks.now c.args.projections (short c.args.projections.now c.in_default.len_below)

pub literal-requires : goal.literal-requires
literal-requires c =
    let (S, M, is, does) = c.requires in
    let (p, T, rs, last, e) = does in
    let (pair, left) = takes_last _ _ _ c.take_head-pair.ensures c.args.book.now S p T rs is last in
    (place S, T, pair.type_at)

pub returns-in_default-2 : goal.returns-in_default-2
returns-in_default-2 c =
    let (first, rest, whole) = first_of c.args.projections.now c.in-len1-up.len_at_least in
    record {
      extends = c.literal.ensures.extends;
      steps = project_not c.args.book.now c.literal.new.book c.args.self.now c.take_head-pair.new.self c.args.tasks.now c.args.tasks.now first rest c.args.projections c.take_head-pair.result c.in_ok-family.field-0
          whole c.in_default-2.not-Sigma (takes_last _ _ _ c.take_head-pair.ensures) c.in_ok-family.ensures.literal;
    }

pub component-requires : goal.component-requires
component-requires c =
    let (S, M, is, does) = c.requires in
    let (p, T, rs, last, e) = does in
    let (pair, left) = takes_last _ _ _ c.take_head-pair.ensures c.args.book.now S p T rs is last in
    let (A, B, same, family) = sigma_parts c.literal.new.book c.in_ok-family.field-0 c.in-Sigma.family (place S) T c.in-Sigma.is (c.in_ok-family.ensures.literal (place S) T pair.type_at) in (
      place S,
      A,
      B,
      p,
      family,
      says_later c.args.book.now c.literal.new.book c.take_head-pair.result.term (Tm (place S) p (sig A B)) c.literal.ensures.extends (subst (λ W. Says c.args.book.now c.take_head-pair.result.term (Tm (place S) p W)) same pair.term_is),
    )

pub returns-in_err-component-clause-extends : goal.returns-in_err-component-clause-extends
returns-in_err-component-clause-extends c = further c.literal.ensures.extends c.component.ensures.extends

pub returns-in_err-inferred-clause-extends : goal.returns-in_err-inferred-clause-extends
returns-in_err-inferred-clause-extends c = further c.literal.ensures.extends c.component.ensures.extends

pub returns-in_err-plan-clause-extends : goal.returns-in_err-plan-clause-extends
returns-in_err-plan-clause-extends c = further c.literal.ensures.extends c.component.ensures.extends

pub returns-clause-extends : goal.returns-clause-extends
returns-clause-extends c = further c.literal.ensures.extends c.component.ensures.extends

pub returns-clause-steps : goal.returns-clause-steps
returns-clause-steps c =
    project_planned c.args.book.now c.literal.new.book c.component.new.book c.args.self.now c.take_head-pair.new.self c.inferred.new.self c.args.tasks.now c.plan.new.self _ _ _ c.args.projections c.in-Sigma.family c.take_head-pair.result c.in_ok-component.field-0 c.in_ok-family.field-0
    c.literal.ensures.extends c.component.ensures.extends c.in_ok-plan.ensures.0 c.in_ok-plan.ensures.1 (first_rest c.args.projections.now _ (omega (arith, c.in-len1-up.len_at_least))) c.in-Sigma.is
    (takes_last _ _ _ c.take_head-pair.ensures) c.in_ok-family.ensures.literal c.in_ok-component.ensures.typed c.in_ok-inferred.ensures
