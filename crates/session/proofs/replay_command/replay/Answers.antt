use Rattle.std.proofs.Common.{◌≡◌, ◌++◌, ◌∙◌, ap, sym, subst, List, ℕ, Option, Some, None, Bor}
use Rattle.std.specs.Prelude.{IfOk}
use Rattle.std.specs.Option.{option_map}
use Rattle.host_io.specs.Counts.{counted_fetch}
use Rattle.host_io.specs.Files.{HoldsAt}
use Rattle.host_io.specs.declared.files.Fetched.TheVariants as fetched
use Rattle.host_io.specs.Seen.{seen_files}
use Rattle.outcomes.specs.declared.outcome.Outcome.TheVariants as outcome
use Rattle.session.specs.Answers.{IsFound}
use Rattle.session.specs.Loaded.{IsProgram}
use Rattle.session.proofs.ReplayLaws.{Wants, all_found, may_replay, spelt, wanted_of, wanted_same}
use Rattle.session.proofs.replay_command.replay.Given.{Over}
use Rattle.session.proofs.replay_command.replay.Goals as goal
use Rattle.session.proofs.replay_command.replay.Goals.{Joined-of, in-None, in-Some+in_ok-program-in-Some+in-Ok}

-- where the file is fetched, the module's judgements are wanted, and nothing went wrong
before : (g : Over) (c : Joined-of g) → Wants (g.F.Files.held c.args.files.now) (option_map (λ (m : Bor (List ℕ)). m.now) c.args.of) (wanted_of c.match-of.wanted) × (g.F.Files.held c.match-of.files ≡ g.F.Files.held c.args.files.now) × (g.F.Files.counts c.match-of.files ≡ g.F.Files.counts c.args.files.now)
before g c =
    let held = g.F.Files.held in
    let counts = g.F.Files.counts in
    let see = seen_files held counts in
    let told = held c.args.files.now in
    let name : Option (Bor (List ℕ)) → Option (List ℕ) = option_map (λ m. m.now) in
    elim c.match-of.branch [
      | in-None w ↦ (
        subst (λ o. Wants told (name o) (wanted_of c.match-of.wanted)) (sym w.in-None.is) (subst (λ m. Wants told None (wanted_of m)) (sym w.wanted-is) tt),
        ap held w.files-is,
        ap counts w.files-is,
      )
      | in-Some+in_ok-program-in-Some+in-Ok w ↦
          let is = w.in-Ok.is in
          let p = w.in_ok-program-in-Some.ensures in
          let q = subst (IsProgram w.in-Some.name.now (see c.args.files.now) (see w.read_program.new.files)) is p.program in
          let s = spelt w.in-Some.name.now (see c.args.files.now) (see w.read_program.new.files) w.in-Ok.program q in (
            subst (λ o. Wants told (name o) (wanted_of c.match-of.wanted)) (sym w.in-Some.is) (subst (λ m. Wants told (Some w.in-Some.name.now) (wanted_of m)) (sym w.wanted-is) s),
            ap held w.files-is ∙ p.stored.0,
            ap counts w.files-is ∙ q.0,
          )
    ]

pub returns-in-Found-clause-answer : goal.returns-in-Found-clause-answer
returns-in-Found-clause-answer g c =
    let see = seen_files g.F.Files.held g.F.Files.counts in
    let told = g.F.Files.held c.args.files.now in
    let before = before g (goal.at.returns-in-Found-clause-answer g c).Joined-of in
    let b = c.in-Found.ensures.bytes in
    let wanted = wanted_of c.match-of.wanted in
    let same : b.0 ≡ c.deref.result.now = sym (c.deref.ensures.value ∙ (b.1 ∙ ap (λ xs. xs ++ b.0) c.new-bytes.ensures.items)) in
    let holds = subst (λ h. HoldsAt h c.args.path.now (Some b.0)) before.1 b.2 in
    let found = subst (λ w. IfOk c.judged.result (IsFound c.deref.result.now w)) (sym (wanted_same c.as_ref.result c.match-of.wanted c.as_ref.ensures.value)) c.judged.ensures in
    all_found told c.args.path.now (option_map (λ (m : Bor (List ℕ)). m.now) c.args.of) wanted b.0 (see c.args.files.now) (see c.fetch.new.self) c.judged.result before.0 holds (c.in-Found.ensures.counted ∙ before.2)
    (subst (λ bytes. IfOk c.judged.result (IsFound bytes wanted)) (sym same) found)

pub returns-in-Missing-clause-answer : goal.returns-in-Missing-clause-answer
returns-in-Missing-clause-answer g c =
    let told = g.F.Files.held c.args.files.now in
    let path = c.in_ok-from_str-in-Missing.field-0 in
    let before = before g (goal.at.returns-in-Missing-clause-answer g c).Joined-of in
    let missing = subst (λ h. HoldsAt h c.args.path.now None) before.1 c.in-Missing.ensures.bytes.1 in (
      may_replay told c.args.path.now (option_map (λ (m : Bor (List ℕ)). m.now) c.args.of) (wanted_of c.match-of.wanted) (outcome.MissingFile path) before.0
          (c.in_ok-from_str-in-Missing.ensures.ok, missing),
      c.in-Missing.ensures.counted ∙ ap (counted_fetch fetched.Missing) before.2,
    )

pub returns-in-Failed-clause-answer : goal.returns-in-Failed-clause-answer
returns-in-Failed-clause-answer g c =
    let told = g.F.Files.held c.args.files.now in
    let before = before g (goal.at.returns-in-Failed-clause-answer g c).Joined-of in (
      may_replay told c.args.path.now (option_map (λ (m : Bor (List ℕ)). m.now) c.args.of) (wanted_of c.match-of.wanted) outcome.ReadFault before.0 tt,
      c.in-Failed.ensures.counted ∙ ap (counted_fetch fetched.Failed) before.2,
    )
