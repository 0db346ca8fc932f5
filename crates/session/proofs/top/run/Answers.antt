use Rattle.std.proofs.Common.{◌≡◌, ◌∙◌, IsErr, ap, refl, subst, sym}
use Rattle.host_io.specs.Seen.{seen_files, seen_sink}
use Rattle.command_words.specs.Words.{command, texts}
use Rattle.session.specs.Answers.{MayAnswer, MayStore, once, wants_json}
use Rattle.session.specs.Printing.{Printed}
use Rattle.outcomes.specs.Json.{text_in}
use Rattle.outcomes.specs.Outcomes.{status_of}
use Rattle.outcomes.specs.declared.outcome.Status.TheVariants as status
use Rattle.session.proofs.RunLemmas.{stores, stores_less, stores_nothing}
use Rattle.session.proofs.top.run.Goals as goal

pub returns-in-Ok-outcome_of : goal.returns-in-Ok-outcome_of
returns-in-Ok-outcome_of g c =
    let see = seen_files g.F.Files.held g.F.Files.counts in
    let sink = seen_sink g.O.Sink.taken g.O.Sink.faults in
    let asked = command (texts c.args.words.now) in
    let told = c.in-Ok-outcome_of.outcome in
    let may = subst (λ o. MayAnswer o (see c.args.files.now) (see c.outcome_of.new.files) told) c.in-Ok.ensures c.in-Ok-outcome_of.ensures.answer in
    let left = subst (λ o. MayStore see o (IsErr c.outcome_of.result) c.args.files.now c.outcome_of.new.files) c.in-Ok.ensures c.outcome_of.ensures.stored in
    let json : c.is_json.result ≡ wants_json asked = c.is_json.ensures ∙ ap wants_json c.in-Ok.ensures in
    once (record {
      answer = λ in_memory. record {
        outcome = told;
        may = may;
        printed = subst (λ j. Printed (text_in j told) (status_of told) (sink c.args.out.now) (sink c.print.new.out) c.print.result) json (c.print.ensures.printed in_memory);
      };
      memory = c.print.ensures.memory;
      stored = stores see asked (IsErr c.outcome_of.result) (c.print.result ≡ status.Memory) c.args.files.now c.outcome_of.new.files told may c.print.ensures.spared left;
      read = refl {a = c.args.input.now};
    })

pub returns-in-Err-outcome_of : goal.returns-in-Err-outcome_of
returns-in-Err-outcome_of g c =
    let see = seen_files g.F.Files.held g.F.Files.counts in
    let asked = command (texts c.args.words.now) in
    let left = subst (λ o. MayStore see o (IsErr c.outcome_of.result) c.args.files.now c.outcome_of.new.files) c.in-Ok.ensures c.outcome_of.ensures.stored in
    once (record {
      answer = λ in_memory. absurd (in_memory refl);
      memory = λ spent. refl;
      stored = stores_less see asked (IsErr c.outcome_of.result) (status.Memory ≡ status.Memory) c.args.files.now c.outcome_of.new.files (λ spent. subst IsErr (sym c.in-Err-outcome_of.is) refl) left;
      read = refl {a = c.args.input.now};
    })

pub returns-in-Err : goal.returns-in-Err
returns-in-Err g c =
    let see = seen_files g.F.Files.held g.F.Files.counts in
    once (record {
      answer = λ in_memory. absurd (in_memory refl);
      memory = λ spent. refl;
      stored = stores_nothing see (command (texts c.args.words.now)) (status.Memory ≡ status.Memory) c.args.files.now;
      read = refl {a = c.args.input.now};
    })
