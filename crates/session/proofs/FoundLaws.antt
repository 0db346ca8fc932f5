-- What is found of a file whose roots are compared with judgements.
use Rattle.std.proofs.Common.{◌≡◌, ℕ, List, length, refl, sym, ◌∙◌, ap, subst, Option, Some, None, Bor}
use Rattle.trees.specs.Judgements.{Judgement}
use Rattle.derivation.specs.Right.{Derives}
use Rattle.derivation.proofs.UniqueLaws.{derives_one}
use Rattle.replay.specs.declared.judging.Verdict.{Verdict}
use Rattle.replay.specs.declared.judging.Verdict.TheVariants.{Yes, No}
use Rattle.replay.specs.Verdicts.{VerdictIs}
use Rattle.outcomes.specs.declared.outcome.Outcome.TheVariants as outcome
use Rattle.session.specs.declared.program.Program.{Program}
use Rattle.session.specs.Loaded.{codes_of, wanted_by}
use Rattle.session.specs.Modules.{DifferAt}
use Rattle.session.specs.Answers.{IsFound}

-- they are the same
pub found_same : (bytes : List ℕ) (verdict : Verdict) (rows roots : ℕ) (Ks Js : List Judgement) → verdict ≡ Yes rows roots → VerdictIs bytes verdict → Derives bytes rows Ks → Ks ≡ Js → IsFound bytes (Some Js) (outcome.Judged verdict)
found_same bytes verdict rows roots Ks Js is right derives same =
    let v = subst (VerdictIs bytes) is right in
    let d = derives_one bytes rows rows Ks v.1 derives v.2 in
    let count : roots ≡ length Js = v.3 ∙ ap length (sym d.1 ∙ same) in
    subst (λ w. IsFound bytes (Some Js) (outcome.Judged w)) (sym is) (v.0, subst (Derives bytes rows) same derives, count)

-- they differ
pub found_other : (bytes : List ℕ) (verdict : Verdict) (rows roots k : ℕ) (Ks Js : List Judgement) → verdict ≡ Yes rows roots → VerdictIs bytes verdict → Derives bytes rows Ks → DifferAt Ks Js k → IsFound bytes (Some Js) (outcome.RootDiffers k)
found_other bytes verdict rows roots k Ks Js is right derives other =
    let v = subst (VerdictIs bytes) is right in (v.0, (rows, Ks, derives, other))

-- they are not compared: there is no module, or a row is bad
pub found_alone : (bytes : List ℕ) (of : Option (Bor Program)) (verdict : Verdict) → VerdictIs bytes verdict → ((rows roots : ℕ) (program : Bor Program) → verdict ≡ Yes rows roots → of ≡ Some program → ⊥)
    → IsFound bytes (wanted_by (codes_of of)) (outcome.Judged verdict)
found_alone bytes None verdict is other = is
found_alone bytes (Some program) (No row) is other = is
found_alone bytes (Some program) (Yes rows roots) is other = absurd (other rows roots program refl refl)
