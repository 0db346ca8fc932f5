use Rattle.std.proofs.Common.{◌≡◌, ◌∙◌, ◌∷◌, [], ap, codes, decimal, arith}
use Rattle.std.proofs.lemmas.Grind.{common_steps}
use Rattle.deriv_file.proofs.RowLaws.{two_words}
use Rattle.deriv_file.proofs.line.substitution.Goals as goal

pub returns-in_ok-by-in-shift : goal.returns-in_ok-by-in-shift
returns-in_ok-by-in-shift c =
    let by = c.in_ok-by-in-shift.by in
    let word : c.in_ok-take.field-0.now ≡ codes "shift" = grind (arith, common_steps) in
    let number = c.in_ok-by-in-shift.ensures.some in (
      two_words c.args.words.now c.take.new.self (codes "s") c.in_ok-take.field-0.now (decimal by) c.in_ok-take.ensures number.0
          ∙ ap (λ w. codes "s" ∷ w ∷ decimal by ∷ []) word,
      omega (arith, number.1),
    )
