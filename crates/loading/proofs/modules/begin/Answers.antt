use Rattle.std.proofs.Common.{sym, ◌∙◌, arith, true≢false}
use Rattle.loading.proofs.FrameLaws.{has-begun, has-not_begun, length-names_of, own, always_ok, other_error}
use Rattle.loading.proofs.modules.begin.Goals as goal

pub returns-then-has_begun-clause-err : goal.returns-then-has_begun-clause-err
returns-then-has_begun-clause-err g c = λ known.
    (c.in-Ok.ensures, has-begun c.args.begun.now c.args.name.now (c.has_begun.ensures.0 c.if-has_begun.true))

pub returns-then-loaded-begun-ge-MOST_MODULES-clause-err : goal.returns-then-loaded-begun-ge-MOST_MODULES-clause-err
returns-then-loaded-begun-ge-MOST_MODULES-clause-err g c = λ known. (
  c.in-Ok.ensures,
  has-not_begun c.args.begun.now c.args.name.now (λ a. true≢false (sym (c.has_begun.ensures.1 a) ∙ c.if-has_begun.false)),
  omega (arith, length-names_of c.args.begun.now, c.if-loaded-begun-ge-MOST_MODULES.true),
)

pub returns-clause-another : goal.returns-clause-another
returns-clause-another g c = always_ok c.read_text.result (
  has-not_begun c.args.begun.now c.args.name.now (λ a. true≢false (sym (c.has_begun.ensures.1 a) ∙ c.if-has_begun.false)),
  omega (arith, length-names_of c.args.begun.now, c.if-loaded-begun-ge-MOST_MODULES.false),
)

pub returns-clause-err : goal.returns-clause-err
returns-clause-err g c =
    other_error c.read_text.result
    (λ f fails known. own (g.F.Files.held c.args.files.now) c.args.loaded _ c.args.name.now f (
      has-not_begun c.args.begun.now c.args.name.now (λ a. true≢false (sym (c.has_begun.ensures.1 a) ∙ c.if-has_begun.false)),
      omega (arith, length-names_of c.args.begun.now, c.if-loaded-begun-ge-MOST_MODULES.false),
    ) fails)
    c.read_text.ensures.err
