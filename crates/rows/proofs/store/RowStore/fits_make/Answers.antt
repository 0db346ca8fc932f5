use Rattle.std.proofs.Common.{◌≡◌, length, arith}
use Rattle.std.proofs.lemmas.Bool.{eqb-true}
use Rattle.trees.specs.Operators.{kids_of}
use Rattle.rows.specs.Shown.{store_means}
use Rattle.rows.proofs.MeaningLaws.{made-some, some-made, made-count}
use Rattle.rows.proofs.store.RowStore.fits_make.Goals as goal

pub returns-then-kids-kid_count : goal.returns-then-kids-kid_count
returns-then-kids-kid_count c =
    let f = store_means c.args.self.now in
    let count : length c.args.kids.now ≡ kids_of c.args.op = omega (arith, c.kid_count.ensures) in (
      λ yes. made-some f c.args.op c.args.kids.now count (c.all_terms.ensures.0 yes),
      λ some. c.all_terms.ensures.1 (some-made f c.args.op c.args.kids.now some),
    )

pub returns-else-kids-kid_count : goal.returns-else-kids-kid_count
returns-else-kids-kid_count c = (
  λ yes. absurd (omega (arith, eqb-true _ _ yes, c.if-kids-kid_count.false)),
  λ some. absurd (omega (arith, c.kid_count.ensures, made-count (store_means c.args.self.now) c.args.op c.args.kids.now some)),
)
