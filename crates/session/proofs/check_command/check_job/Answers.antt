use Rattle.std.proofs.Common.{◌∙◌, ap, subst, length, inl}
use Rattle.translation.specs.Translated.{judgements_of}
use Rattle.book_writer.specs.Written.{IsWritten}
use Rattle.session.specs.Checks.{IsChecked}
use Rattle.session.specs.Loaded.{stated_by, texts_of}
use Rattle.outcomes.specs.declared.outcome.Outcome.TheVariants as outcome
use Rattle.session.proofs.PlaceLaws.{count_of_places}
use Rattle.session.proofs.check_command.check_job.Goals as goal

pub returns-in_ok-path-in-Derived : goal.returns-in_ok-path-in-Derived
returns-in_ok-path-in-Derived c =
    let program = c.args.program.now in
    let derived = subst (IsChecked c.as_slice-defs.result.now) c.in-Derived.is c.in_ok-other.ensures in
    let spelt = ap (λ ds. judgements_of (stated_by ds)) c.as_slice-defs.ensures ∙ c.requires.judgements_are in
    inl (record {
      path_is = c.in_ok-path-in-Derived.ensures;
      rows = derived.0;
      written = subst (IsWritten c.in-Derived.bytes.items derived.0) spelt derived.1;
      is_told = ap outcome.Checked (ap length c.as_slice-defs.ensures ∙ count_of_places (texts_of program) program.codes c.requires);
    })
