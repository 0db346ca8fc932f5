use Rattle.std.proofs.Common.{◌≡◌, sym, subst, ◌∙◌}
use Rattle.std.proofs.lemmas.Bool.{false≢true}
use Rattle.trees.specs.Judgements.{WithVar}
use Rattle.trees.specs.Language.{Ty}
use Rattle.typed_nodes.specs.Typed.{IsTypeAt}
use Rattle.typed_nodes.proofs.GrowthLaws.{says_later, family_later}
use Rattle.typed_contexts.proofs.GrowthLaws.{further}
use Rattle.literal_types.specs.Literal.{IsLiteral}
use Rattle.typing_tasks.specs.States.{place}
use Rattle.typing_steps.proofs.GrowthLaws.{state_later}
use Rattle.typing_steps.proofs.TakingLaws.{taken_here, taken_other, taken_nowhere, not_function}
use Rattle.typing_steps.proofs.state.CheckState.take_variable.Goals as goal

pub literal-requires : goal.literal-requires
literal-requires c =
    let (S, A, W, js, is, found, at) = c.requires in
    (place S, W, at)

pub returns-in_default : goal.returns-in_default
returns-in_default c = record {
  extends = c.in_ok-family.ensures.extends;
  takes = λ S A W js is found at.
      taken_nowhere A W (not_function _ c.in_ok-family.field-0 (place S) W (c.in_ok-family.ensures.literal (place S) W at) c.in_default.not-Pi);
}

pub last_node-node-requires : goal.last_node-node-requires
last_node-node-requires c =
    let (S, A, W, js, is, found, at) = c.requires in
    (c.args.book.now, S, Ty (place S) A, js, is, found)

pub type_here-requires : goal.type_here-requires
type_here-requires c =
    let (S, A, W, js, is, found, at) = c.requires in
    let grown = c.in_ok-family.ensures.extends in
    (S, A, state_later grown c.args.self.now S is, says_later _ _ c.last_node-node.result (Ty (place S) A) grown (c.last_node-node.ensures c.args.book.now S (Ty (place S) A) js is found))

pub returns-in_err-here-clause-extends : goal.returns-in_err-here-clause-extends
returns-in_err-here-clause-extends c = further c.in_ok-family.ensures.extends c.type_here.ensures.extends

pub is_same-requires : goal.is_same-requires
is_same-requires c =
    let (S, A, W, js, is, found, at) = c.requires in
    let grown = c.in_ok-family.ensures.extends in
    let node = says_later _ _ c.last_node-node.result (Ty (place S) A) grown (c.last_node-node.ensures c.args.book.now S (Ty (place S) A) js is found) in
    let before = state_later grown c.args.self.now S is in
    let here = c.in_ok-here.ensures.here S A before node in
    let (C, D, whole, family) = subst (λ l. IsLiteral c.literal.new.book l (place S) W) c.in-Pi.is (c.in_ok-family.ensures.literal (place S) W at) in (
      place S,
      A,
      C,
      here,
      c.domain_of.ensures c.type_here.new.book (place S) C D (family_later _ _ c.in-Pi.family (place S) C D c.in_ok-here.ensures.extends family),
    )

pub returns-in_err-is_same-clause-extends : goal.returns-in_err-is_same-clause-extends
returns-in_err-is_same-clause-extends c = further c.in_ok-family.ensures.extends (further c.in_ok-here.ensures.extends c.is_same.ensures.extends)

pub returns-then-not-branch-clause-extends : goal.returns-then-not-branch-clause-extends
returns-then-not-branch-clause-extends c = further c.in_ok-family.ensures.extends (further c.in_ok-here.ensures.extends c.in_ok-is_same.ensures.extends)

pub returns-then-not-branch-clause-takes : goal.returns-then-not-branch-clause-takes
returns-then-not-branch-clause-takes c = λ S A W js is found at.
    let grown = c.in_ok-family.ensures.extends in
    let node = says_later _ _ c.last_node-node.result (Ty (place S) A) grown (c.last_node-node.ensures c.args.book.now S (Ty (place S) A) js is found) in
    let before = state_later grown c.args.self.now S is in
    let here = c.in_ok-here.ensures.here S A before node in
    let (C, D, whole, family) = subst (λ l. IsLiteral c.literal.new.book l (place S) W) c.in-Pi.is (c.in_ok-family.ensures.literal (place S) W at) in
    let same = c.in_ok-is_same.ensures.same (place S) A C here
    (c.domain_of.ensures c.type_here.new.book (place S) C D (family_later _ _ c.in-Pi.family (place S) C D c.in_ok-here.ensures.extends family)) in
    taken_other A C D W whole (λ e. false≢true (sym c.if-not-branch.true ∙ same.1 e))

pub enter-requires : goal.enter-requires
enter-requires c =
    let (S, A, W, js, is, found, at) = c.requires in
    let grown = c.in_ok-family.ensures.extends in
    let node = says_later _ _ c.last_node-node.result (Ty (place S) A) grown (c.last_node-node.ensures c.args.book.now S (Ty (place S) A) js is found) in
    let more = further c.in_ok-here.ensures.extends c.in_ok-is_same.ensures.extends in (
      S,
      A,
      state_later (further grown more) c.args.self.now S is,
      says_later _ _ c.last_node-node.result (Ty (place S) A) more node,
    )

pub returns-in_err-enter-clause-extends : goal.returns-in_err-enter-clause-extends
returns-in_err-enter-clause-extends c =
    further c.in_ok-family.ensures.extends (further c.in_ok-here.ensures.extends (further c.in_ok-is_same.ensures.extends c.enter.ensures.extends))

pub codomain_under-requires : goal.codomain_under-requires
codomain_under-requires c =
    let (S, A, W, js, is, found, at) = c.requires in
    let (C, D, whole, family) = subst (λ l. IsLiteral c.literal.new.book l (place S) W) c.in-Pi.is (c.in_ok-family.ensures.literal (place S) W at) in
    let more = further c.in_ok-here.ensures.extends (further c.in_ok-is_same.ensures.extends c.in_ok-enter.ensures.extends) in
    (place S, C, D, family_later _ _ c.in-Pi.family (place S) C D more family)

pub returns-in_err-rest-clause-extends : goal.returns-in_err-rest-clause-extends
returns-in_err-rest-clause-extends c =
    further c.in_ok-family.ensures.extends
    (further c.in_ok-here.ensures.extends (further c.in_ok-is_same.ensures.extends (further c.in_ok-enter.ensures.extends c.codomain_under.ensures.extends)))

pub returns-clause-extends : goal.returns-clause-extends
returns-clause-extends c =
    further c.in_ok-family.ensures.extends
    (further c.in_ok-here.ensures.extends (further c.in_ok-is_same.ensures.extends (further c.in_ok-enter.ensures.extends c.in_ok-rest.ensures.extends)))

pub returns-clause-takes : goal.returns-clause-takes
returns-clause-takes c = λ S A W js is found at.
    let grown = c.in_ok-family.ensures.extends in
    let node = says_later _ _ c.last_node-node.result (Ty (place S) A) grown (c.last_node-node.ensures c.args.book.now S (Ty (place S) A) js is found) in
    let before = state_later grown c.args.self.now S is in
    let here = c.in_ok-here.ensures.here S A before node in
    let (C, D, whole, family) = subst (λ l. IsLiteral c.literal.new.book l (place S) W) c.in-Pi.is (c.in_ok-family.ensures.literal (place S) W at) in
    let same = c.in_ok-is_same.ensures.same (place S) A C here
    (c.domain_of.ensures c.type_here.new.book (place S) C D (family_later _ _ c.in-Pi.family (place S) C D c.in_ok-here.ensures.extends family)) in
    let more = further c.in_ok-here.ensures.extends (further c.in_ok-is_same.ensures.extends c.in_ok-enter.ensures.extends) in
    let entered = c.in_ok-enter.ensures.under S A (state_later (further c.in_ok-here.ensures.extends c.in_ok-is_same.ensures.extends) c.args.self.now S before)
    (says_later _ _ c.last_node-node.result (Ty (place S) A) (further c.in_ok-here.ensures.extends c.in_ok-is_same.ensures.extends) node) in
    let one : A ≡ C = same.0 c.if-not-branch.false in (
      D,
      taken_here A C D W whole one,
      subst (λ T. IsTypeAt c.codomain_under.new.book c.in_ok-rest.rest (WithVar (place S) T) D) (sym one)
          (c.in_ok-rest.ensures.typed (place S) C D (family_later _ _ c.in-Pi.family (place S) C D more family)),
      state_later c.in_ok-rest.ensures.extends c.enter.new.self _ entered,
    )
