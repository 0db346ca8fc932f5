use Rattle.std.proofs.Common.{◌≤◌, arith}
use Rattle.trees.specs.Trees.{Var, apply, shift_by, up}
use Rattle.trees.specs.Judgements.{WithVar, trees}
use Rattle.trees.specs.Language.{Ty, Tm, Sb}
use Rattle.substitution.specs.Forms.{weaken}
use Rattle.typed_nodes.proofs.GrowthLaws.{says_later}
use Rattle.typed_contexts.specs.Contexts.{depth_of}
use Rattle.typed_contexts.proofs.ContextLaws.{type_in-deep}
use Rattle.typed_contexts.proofs.GrowthLaws.{further}
use Rattle.typed_contexts.proofs.VariableLaws.{name-type, found, weakening-to, variable-type, typed-variable}
use Rattle.typed_contexts.proofs.place.Places.variable.Goals as goal

pub returns-then-depth-index-clause-typed : goal.returns-then-depth-index-clause-typed
returns-then-depth-index-clause-typed c = λ H place.
    let deep : depth_of H ≤ c.args.index = omega (arith, c.depth-depth.ensures.place c.args.book.now H place, c.if-depth-index.true) in
    type_in-deep c.args.index H deep

pub returns-in_default-clause-typed : goal.returns-in_default-clause-typed
returns-in_default-clause-typed c = λ H place.
    let b = c.args.book.now in
    name-type b c.level-level.result c.depth-depth.result c.args.index H (c.depth-depth.ensures.place b H place) c.if-depth-index.false c.in_default.is (c.level-level.ensures b H place)

pub variable-requires : goal.variable-requires
variable-requires c =
    let b = c.args.book.now in
    let H = c.requires.0 in
    let place = c.requires.1 in
    let n = c.depth-depth.result in
    let k = c.args.index in
    let depth = c.depth-depth.ensures.place b H place in
    let low = c.if-depth-index.false in
    let at = found b c.level-level.result c.in-Variable.ty n k H depth low c.in-Variable.is (c.level-level.ensures b H place) in
    let K = WithVar at.before at.type in
    let sub = weakening-to c.weakening.new.book c.in_ok-sub.sub n k H K depth low at.is (c.in_ok-sub.ensures.weakens H place) in
    (H, at.before, shift_by k, at.type, sub, says_later _ _ c.in-Variable.ty (Ty at.before at.type) c.in_ok-sub.ensures.extends at.type_is)

pub composed-requires : goal.composed-requires
composed-requires c =
    let b = c.args.book.now in
    let H = c.requires.0 in
    let place = c.requires.1 in
    let n = c.depth-depth.result in
    let k = c.args.index in
    let depth = c.depth-depth.ensures.place b H place in
    let low = c.if-depth-index.false in
    let at = found b c.level-level.result c.in-Variable.ty n k H depth low c.in-Variable.is (c.level-level.ensures b H place) in
    let K = WithVar at.before at.type in
    let sub = weakening-to c.weakening.new.book c.in_ok-sub.sub n k H K depth low at.is (c.in_ok-sub.ensures.weakens H place) in (
      H,
      K,
      at.before,
      shift_by k,
      up,
      says_later _ _ c.in_ok-sub.sub (Sb H (shift_by k) K) c.in_ok-term.ensures.extends sub,
      says_later _ _ c.level-level.result.up (Sb K up at.before) (further c.in_ok-sub.ensures.extends c.in_ok-term.ensures.extends) at.past_is,
    )

pub returns-clause-typed : goal.returns-clause-typed
returns-clause-typed c = λ H place.
    let b = c.args.book.now in
    let n = c.depth-depth.result in
    let k = c.args.index in
    let depth = c.depth-depth.ensures.place b H place in
    let low = c.if-depth-index.false in
    let at = found b c.level-level.result c.in-Variable.ty n k H depth low c.in-Variable.is (c.level-level.ensures b H place) in
    let K = WithVar at.before at.type in
    let sub = weakening-to c.weakening.new.book c.in_ok-sub.sub n k H K depth low at.is (c.in_ok-sub.ensures.weakens H place) in
    let two = further c.in_ok-sub.ensures.extends c.in_ok-term.ensures.extends in
    let A = apply (weaken trees at.type) (shift_by k) in
    let term = c.in_ok-term.ensures.typed H at.before (shift_by k) at.type sub (says_later _ _ c.in-Variable.ty (Ty at.before at.type) c.in_ok-sub.ensures.extends at.type_is) in
    let before = c.in_ok-before.ensures.typed H K at.before (shift_by k) up (says_later _ _ c.in_ok-sub.sub (Sb H (shift_by k) K) c.in_ok-term.ensures.extends sub) (says_later _ _ c.level-level.result.up (Sb K up at.before) two at.past_is) in (
      A,
      variable-type k H at.before at.type at.is,
      typed-variable c.composed.new.book c.in_ok-term.term c.in-Variable.ty c.in_ok-before.before k H at.before at.type
          (says_later _ _ c.in_ok-term.term (Tm H (apply (Var 0) (shift_by k)) A) c.in_ok-before.ensures.extends term)
          (says_later _ _ c.in-Variable.ty (Ty at.before at.type) (further two c.in_ok-before.ensures.extends) at.type_is) before,
    )

pub returns-in_err-term-clause-extends : goal.returns-in_err-term-clause-extends
returns-in_err-term-clause-extends c = further c.in_ok-sub.ensures.extends c.variable.ensures.extends

pub returns-in_err-before-clause-extends : goal.returns-in_err-before-clause-extends
returns-in_err-before-clause-extends c = further c.in_ok-sub.ensures.extends (further c.in_ok-term.ensures.extends c.composed.ensures.extends)

pub returns-clause-extends : goal.returns-clause-extends
returns-clause-extends c = further c.in_ok-sub.ensures.extends (further c.in_ok-term.ensures.extends c.in_ok-before.ensures.extends)
