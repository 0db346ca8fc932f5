use Rattle.std.proofs.Common.{sym, subst, Some, None}
use Rattle.translation.specs.Translated.{judgements_of}
use Rattle.resolver.specs.Resolved.{defs_in}
use Rattle.replay.specs.Shown.{root_judgements}
use Rattle.outcomes.specs.declared.outcome.Outcome.TheVariants as outcome
use Rattle.session.specs.Answers.{IsFound}
use Rattle.session.specs.Loaded.{codes_of, stated_by, wanted_by}
use Rattle.session.specs.Modules.{Compares}
use Rattle.session.proofs.FoundLaws.{found_alone, found_other, found_same}
use Rattle.session.proofs.replay_command.judged.Goals as goal
use Rattle.session.proofs.replay_command.judged.Goals.{in_default-via-in-Yes+in_default, in_default-via-in_default}

pub returns-in-Some : goal.returns-in-Some
returns-in-Some c =
    let bytes = c.args.bytes.now in
    let found = c.in_ok-judged.judged in
    let Ks = root_judgements found.rows in
    let yes = c.in-Yes-Some in
    let Js = judgements_of (stated_by (defs_in yes.program.now.codes)) in
    let other = subst (λ ds. Compares Ks (judgements_of (stated_by ds)) (Some c.in-Some.root)) c.as_slice.ensures (subst (Compares Ks (judgements_of (stated_by c.as_slice.result.now))) c.in-Some.is c.in_ok-root.ensures) in
    subst (λ o. IsFound bytes (wanted_by (codes_of o)) (outcome.RootDiffers c.in-Some.root)) (sym yes.is-1)
    (found_other bytes found.verdict yes.rows-0 yes.roots-0 c.in-Some.root Ks Js yes.is-0 c.in_ok-judged.ensures.verdict (c.in_ok-judged.ensures.roots yes.rows-0 yes.roots-0 yes.is-0) other)

pub returns-in-None : goal.returns-in-None
returns-in-None c =
    let bytes = c.args.bytes.now in
    let found = c.in_ok-judged.judged in
    let Ks = root_judgements found.rows in
    let yes = c.in-Yes-Some in
    let Js = judgements_of (stated_by (defs_in yes.program.now.codes)) in
    let same = subst (λ ds. Compares Ks (judgements_of (stated_by ds)) None) c.as_slice.ensures (subst (Compares Ks (judgements_of (stated_by c.as_slice.result.now))) c.in-None.is c.in_ok-root.ensures) in
    subst (λ o. IsFound bytes (wanted_by (codes_of o)) (outcome.Judged found.verdict)) (sym yes.is-1)
    (found_same bytes found.verdict yes.rows-0 yes.roots-0 Ks Js yes.is-0 c.in_ok-judged.ensures.verdict (c.in_ok-judged.ensures.roots yes.rows-0 yes.roots-0 yes.is-0) same)

pub returns-in_default : goal.returns-in_default
returns-in_default c =
    found_alone c.args.bytes.now c.args.of c.in_ok-judged.judged.verdict c.in_ok-judged.ensures.verdict
    (λ rows roots program yes some. elim c.in_default.branch [
      | in_default-via-in-Yes+in_default w ↦ let none = w.in_default.is-1 in cc
      | in_default-via-in_default w ↦ let bad = w.in_default.is-0 in cc
    ])
