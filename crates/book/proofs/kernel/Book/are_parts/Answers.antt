use Rattle.std.proofs.Common.{◌≡◌, ◌<◌, length, ap, sym, subst, arith}
use Rattle.theory.specs.RuleNames.{kinds_of}
use Rattle.book.specs.Shown.{book_means}
use Rattle.book.specs.Fits.{AreParts}
use Rattle.book.proofs.FitLaws.{part-at, parts-counted, parts-more}
use Rattle.book.proofs.kernel.Book.are_parts.Goals as goal

pub returns-then-parts-kinds : goal.returns-then-parts-kinds
returns-then-parts-kinds c = (
  λ no. cc,
  λ are. let same = parts-counted (book_means c.args.self.now) (kinds_of c.args.rule) c.args.parts.now are in absurd (omega (arith, same, c.if-parts-kinds.true, ap length c.part_kinds-kinds.ensures.kinds)),
)

pub returns-then-not-is_part : goal.returns-then-not-is_part
returns-then-not-is_part c = (
  λ no. cc,
  λ are.
      let f = book_means c.args.self.now in
      let here : AreParts f c.part_kinds-kinds.result.now c.args.parts.now = subst (λ ks. AreParts f ks c.args.parts.now) (sym c.part_kinds-kinds.ensures.kinds) are in
      let yes = c.is_part.ensures.1 (part-at f c.part_kinds-kinds.result.now c.args.parts.now c.loop-at.at _ (omega (arith, c.loop-at-test.true)) here) in
      let no = c.if-not-is_part.true in
      cc,
)

pub loop-at-preserved : goal.loop-at-preserved
loop-at-preserved c =
    let lt : c.loop-at.at < length c.args.parts.now = omega (arith, c.loop-at-test.true) in
    parts-more (book_means c.args.self.now) (kinds_of c.args.rule) c.args.parts.now c.loop-at.at _ lt
    (omega (arith, lt, c.if-parts-kinds.false, ap length c.part_kinds-kinds.ensures.kinds))
    (rw c.part_kinds-kinds.ensures.kinds at (c.is_part.ensures.0 c.if-not-is_part.false)) c.loop-at.invariant
