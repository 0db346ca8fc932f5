use Rattle.std.proofs.Common.{◌≡◌, length, ap, sym, subst, arith}
use Rattle.theory.specs.RuleNames.{kinds_of, premises_of}
use Rattle.book.specs.declared.trying.Fit.TheVariants as fit
use Rattle.book.specs.Shown.{book_means}
use Rattle.book.specs.Fits.{AreParts, IsShaped, MayConclude, Finds}
use Rattle.book.proofs.FitLaws.{adds-trans, parts-rule, rule-some, side-before, all-before, may-conclude, fits-exactly}
use Rattle.book.proofs.kernel.Book.fit.Goals as goal

pub returns-then-not-are_parts-clause-fits : goal.returns-then-not-are_parts-clause-fits
returns-then-not-are_parts-clause-fits c =
    let a = c.args.self.now in
    let step = c.args.step.now in
    fits-exactly a step fit.Parts
    (λ are. let yes = c.are_parts.ensures.1 (subst (AreParts (book_means a) (kinds_of step.rule)) (sym c.as_slice.ensures.value) are) in let no = c.if-not-are_parts.true in cc)

pub returns-then-as_slice-count_premises-clause-fits : goal.returns-then-as_slice-count_premises-clause-fits
returns-then-as_slice-count_premises-clause-fits c =
    let a = c.args.self.now in
    let step = c.args.step.now in
    let parts : AreParts (book_means a) (kinds_of step.rule) step.parts = rw c.as_slice.ensures.value at (c.are_parts.ensures.0 c.if-not-are_parts.false) in
    fits-exactly a step fit.Count (parts, λ same. absurd (omega (arith, same, ap length c.as_slice-2.ensures.value, c.if-as_slice-count_premises.true, c.count_premises.ensures)))

pub returns-in-Some-clause-fits : goal.returns-in-Some-clause-fits
returns-in-Some-clause-fits c =
    let a = c.args.self.now in
    let step = c.args.step.now in
    let parts : AreParts (book_means a) (kinds_of step.rule) step.parts = rw c.as_slice.ensures.value at (c.are_parts.ensures.0 c.if-not-are_parts.false) in
    let count : length step.premises ≡ premises_of step.rule = omega (arith, ap length c.as_slice-2.ensures.value, c.if-as_slice-count_premises.false, c.count_premises.ensures) in
    let shaped : IsShaped a step = record { parts = parts; count = count } in
    fits-exactly a step (fit.Premise c.in-Some.at) (shaped, rw c.in-Some.is at c.in_ok-at.ensures.some)

pub failing_side-requires : goal.failing_side-requires
failing_side-requires c =
    let a = c.args.self.now in
    let step = c.args.step.now in
    let parts : AreParts (book_means a) (kinds_of step.rule) step.parts = rw c.as_slice.ensures.value at (c.are_parts.ensures.0 c.if-not-are_parts.false) in
    rule-some a c.failing_premise.new.self c.failing_premise.ensures.adds.extends step (parts-rule a step parts)

pub returns-in_err-at-2-clause-adds : goal.returns-in_err-at-2-clause-adds
returns-in_err-at-2-clause-adds c = adds-trans c.args.self.now c.failing_premise.new.self c.failing_side.new.self c.failing_premise.ensures.adds c.failing_side.ensures.adds

pub returns-in-Some-2-clause-adds : goal.returns-in-Some-2-clause-adds
returns-in-Some-2-clause-adds c = adds-trans c.args.self.now c.failing_premise.new.self c.failing_side.new.self c.failing_premise.ensures.adds c.failing_side.ensures.adds

pub returns-in-Some-2-clause-fits : goal.returns-in-Some-2-clause-fits
returns-in-Some-2-clause-fits c =
    let a = c.args.self.now in
    let step = c.args.step.now in
    let parts : AreParts (book_means a) (kinds_of step.rule) step.parts = rw c.as_slice.ensures.value at (c.are_parts.ensures.0 c.if-not-are_parts.false) in
    let count : length step.premises ≡ premises_of step.rule = omega (arith, ap length c.as_slice-2.ensures.value, c.if-as_slice-count_premises.false, c.count_premises.ensures) in
    let shaped : IsShaped a step = record { parts = parts; count = count } in
    let wants = rw c.in_default.is at c.in_ok-at.ensures.none in
    let fails = side-before a c.failing_premise.new.self c.failing_premise.ensures.adds step (parts-rule a step parts) c.in-Some-2.at (rw c.in-Some-2.is at c.in_ok-at-2.ensures.some) in
    let finds : Finds a step (fit.Side c.in-Some-2.at) = (shaped, wants, fails) in
    fits-exactly a step (fit.Side c.in-Some-2.at) finds

pub returns-in-Some-2-clause-finds : goal.returns-in-Some-2-clause-finds
returns-in-Some-2-clause-finds c =
    let a = c.args.self.now in
    let step = c.args.step.now in
    let parts : AreParts (book_means a) (kinds_of step.rule) step.parts = rw c.as_slice.ensures.value at (c.are_parts.ensures.0 c.if-not-are_parts.false) in
    let count : length step.premises ≡ premises_of step.rule = omega (arith, ap length c.as_slice-2.ensures.value, c.if-as_slice-count_premises.false, c.count_premises.ensures) in
    let shaped : IsShaped a step = record { parts = parts; count = count } in
    let wants = rw c.in_default.is at c.in_ok-at.ensures.none in
    let fails = side-before a c.failing_premise.new.self c.failing_premise.ensures.adds step (parts-rule a step parts) c.in-Some-2.at (rw c.in-Some-2.is at c.in_ok-at-2.ensures.some) in
    let finds : Finds a step (fit.Side c.in-Some-2.at) = (shaped, wants, fails) in
    finds

pub returns-in-None-clause-adds : goal.returns-in-None-clause-adds
returns-in-None-clause-adds c = adds-trans c.args.self.now c.failing_premise.new.self c.failing_side.new.self c.failing_premise.ensures.adds c.failing_side.ensures.adds

pub returns-in-None-clause-fits : goal.returns-in-None-clause-fits
returns-in-None-clause-fits c =
    let a = c.args.self.now in
    let step = c.args.step.now in
    let parts : AreParts (book_means a) (kinds_of step.rule) step.parts = rw c.as_slice.ensures.value at (c.are_parts.ensures.0 c.if-not-are_parts.false) in
    let count : length step.premises ≡ premises_of step.rule = omega (arith, ap length c.as_slice-2.ensures.value, c.if-as_slice-count_premises.false, c.count_premises.ensures) in
    let shaped : IsShaped a step = record { parts = parts; count = count } in
    let wants = rw c.in_default.is at c.in_ok-at.ensures.none in
    let all = all-before a c.failing_premise.new.self c.failing_premise.ensures.adds step (parts-rule a step parts) (rw c.in-None.is at c.in_ok-at-2.ensures.none) in
    let may : MayConclude a step = may-conclude a step shaped wants all in
    fits-exactly a step fit.Fits may

pub returns-in-None-clause-finds : goal.returns-in-None-clause-finds
returns-in-None-clause-finds c =
    let a = c.args.self.now in
    let step = c.args.step.now in
    let parts : AreParts (book_means a) (kinds_of step.rule) step.parts = rw c.as_slice.ensures.value at (c.are_parts.ensures.0 c.if-not-are_parts.false) in
    let count : length step.premises ≡ premises_of step.rule = omega (arith, ap length c.as_slice-2.ensures.value, c.if-as_slice-count_premises.false, c.count_premises.ensures) in
    let shaped : IsShaped a step = record { parts = parts; count = count } in
    let wants = rw c.in_default.is at c.in_ok-at.ensures.none in
    let all = all-before a c.failing_premise.new.self c.failing_premise.ensures.adds step (parts-rule a step parts) (rw c.in-None.is at c.in_ok-at-2.ensures.none) in
    let may : MayConclude a step = may-conclude a step shaped wants all in
    may
