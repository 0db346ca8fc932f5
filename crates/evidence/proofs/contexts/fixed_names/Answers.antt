use Rattle.std.proofs.Common.{◌≡◌, ◌+◌, ◌∙◌, ◌↔◌, ap, arith, subst, sym, IsTrue}
use Rattle.side_conditions.specs.Contexts.{context_of}
use Rattle.book.specs.Shown.{book_means}
use Rattle.evidence.specs.Contexts.{IsFixed}
use Rattle.evidence.proofs.FixedLaws.{FixesBelow, fixes_all, fixes_more, fixes_same}
use Rattle.evidence.proofs.GrowthLaws.{further, same_context}
use Rattle.evidence.proofs.contexts.fixed_names.Goals.{then-branch+in_ok-push, else-branch}
use Rattle.std.proofs.lemmas.Bool.{true≢false}
use Rattle.evidence.proofs.contexts.fixed_names.Goals as goal

pub returns-in_err-is_fixed-clause-extends : goal.returns-in_err-is_fixed-clause-extends
returns-in_err-is_fixed-clause-extends c = further c.loop-index.invariant.0 c.is_fixed.ensures.extends

pub returns-in_err-push-clause-extends : goal.returns-in_err-push-clause-extends
returns-in_err-push-clause-extends c = further c.loop-index.invariant.0 c.is_fixed.ensures.extends

pub loop-index-preserved : goal.loop-index-preserved
loop-index-preserved c =
    let first = book_means c.args.book.now in
    let ctx = c.args.ctx.0 in
    let G = context_of (first ctx) in
    let n = c.loop-index.index in
    let held = c.in_ok-is_fixed.field-0 in
    let same : book_means c.loop-index.book ctx ≡ first ctx = same_context c.loop-index.invariant.0 ctx c.requires.context in
    let fixed : (IsTrue held ↔ IsFixed G n) = subst (λ x. IsTrue held ↔ IsFixed (context_of x) n) same c.in_ok-is_fixed.ensures.fixed in (
      further c.loop-index.invariant.0 c.is_fixed.ensures.extends,
      elim c.if-branch.branch [
        | then-branch+in_ok-push w ↦ fixes_more G n c.loop-index.names.items c.if-branch.names.items (ap (λ names. names.items) w.names-is ∙ w.in_ok-push.ensures.items) (fixed.0 w.if-branch.true) c.loop-index.invariant.1
        | else-branch w ↦ subst (FixesBelow G (n + 1)) (ap (λ names. names.items) (sym w.names-is)) (fixes_same G n c.loop-index.names.items (λ is. true≢false (sym (fixed.1 is) ∙ w.if-branch.false)) c.loop-index.invariant.1)
      ],
    )

pub returns-clause-fixed : goal.returns-clause-fixed
returns-clause-fixed c =
    let G = context_of (book_means c.args.book.now c.args.ctx.0) in
    fixes_all G c.loop-index.index c.loop-index.names.items (omega (arith, c.requires.all, c.loop-index-test.false)) c.loop-index.invariant.1
