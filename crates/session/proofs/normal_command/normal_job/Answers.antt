use Rattle.std.proofs.Common.{ap, subst, length, refl, string_bytes, Some, inl, arith}
use Rattle.translation.specs.Translated.{judgements_of}
use Rattle.codes.specs.declared.code.CodeDef.{out-CodeDef}
use Rattle.resolver.specs.Resolved.{defs_in}
use Rattle.session.specs.Loaded.{stated_by, texts_of}
use Rattle.session.specs.Normals.{AreProved, Comes, IsNormalised, nameless, spent, not_taken}
use Rattle.session.specs.Places.{IsLastNamed}
use Rattle.session.proofs.NormalLaws.{last_is, named_inside, of_other}
use Rattle.session.proofs.normal_command.normal_job.Goals as goal
use Rattle.session.proofs.normal_command.normal_job.Goals.{In-Spent, In-NotTaken, In_ok-other, After-unaligned_job-arg-1}

-- what came, of the definitions of the program
came : (c : In_ok-other) → Comes (defs_in c.args.program.now.codes) c.in_ok-named.named c.in_ok-other.field-0
came c = subst (λ ds. Comes ds c.in_ok-named.named c.in_ok-other.field-0) c.as_slice.ensures c.in_ok-other.ensures

pub normal_in-requires : goal.normal_in-requires
normal_in-requires c = λ k is.
    let inside = named_inside (texts_of c.args.program.now) c.args.program.now.codes c.requires c.args.asked.name.now c.in_ok-named.named c.in_ok-named.ensures k is in
    omega (arith, inside, ap length c.as_slice.ensures)

spent_is : (c : In-Spent) → AreProved (judgements_of (stated_by (defs_in c.args.program.now.codes))) × IsLastNamed (texts_of c.args.program.now) c.args.asked.name.now (Some c.in-Spent.place)
spent_is c =
    let it = subst (Comes (defs_in c.args.program.now.codes) c.in_ok-named.named) c.in-Spent.is (came ((goal.at.spent_at-requires-clause-within c).In_ok-other)) in
    (it.0, last_is (texts_of c.args.program.now) c.args.asked.name.now c.in_ok-named.named it.1.0 c.in-Spent.place c.in_ok-named.ensures it.1.1 it.1.2)

not_taken_is : (c : In-NotTaken) → AreProved (judgements_of (stated_by (defs_in c.args.program.now.codes))) × IsLastNamed (texts_of c.args.program.now) c.args.asked.name.now (Some c.in-NotTaken.place)
not_taken_is c =
    let it = subst (Comes (defs_in c.args.program.now.codes) c.in_ok-named.named) c.in-NotTaken.is (came ((goal.at.refused_at-requires-clause-within c).In_ok-other)) in
    (it.0, last_is (texts_of c.args.program.now) c.args.asked.name.now c.in_ok-named.named it.1.0 c.in-NotTaken.place c.in_ok-named.ensures it.1.1 it.1.2)

unaligned_is : (c : After-unaligned_job-arg-1) → AreProved (judgements_of (stated_by (defs_in c.args.program.now.codes))) × IsLastNamed (texts_of c.args.program.now) c.args.asked.name.now (Some c.in-Unaligned.place)
unaligned_is c =
    let it = subst (Comes (defs_in c.args.program.now.codes) c.in_ok-named.named) c.in-Unaligned.is (came ((goal.at.unaligned_job-requires-clause-within c).In_ok-other)) in
    (it.0, last_is (texts_of c.args.program.now) c.args.asked.name.now c.in_ok-named.named it.1.0 c.in-Unaligned.place c.in_ok-named.ensures it.1.1 it.1.2.0)

pub unaligned_job-requires-clause-within : goal.unaligned_job-requires-clause-within
unaligned_job-requires-clause-within c =
    named_inside (texts_of c.args.program.now) c.args.program.now.codes c.requires c.args.asked.name.now (Some c.in-Unaligned.place) (unaligned_is c).1 c.in-Unaligned.place refl

pub unaligned_job-requires-clause-unaligned : goal.unaligned_job-requires-clause-unaligned
unaligned_job-requires-clause-unaligned c =
    let it = subst (Comes (defs_in c.args.program.now.codes) c.in_ok-named.named) c.in-Unaligned.is (came ((goal.at.unaligned_job-requires-clause-unaligned c).In_ok-other)) in
    it.1.2.1

pub returns-in_ok-unaligned_job-in-Unaligned : goal.returns-in_ok-unaligned_job-in-Unaligned
returns-in_ok-unaligned_job-in-Unaligned c =
    let it = unaligned_is ((goal.at.returns-in_ok-unaligned_job-in-Unaligned c).After-unaligned_job-arg-1) in
    c.in_ok-unaligned_job-in-Unaligned.ensures c.args.asked.name.now c.args.asked.turns it.1 (subst AreProved c.requires.judgements_are it.0)

pub spent_at-requires-clause-within : goal.spent_at-requires-clause-within
spent_at-requires-clause-within c =
    named_inside (texts_of c.args.program.now) c.args.program.now.codes c.requires c.args.asked.name.now (Some c.in-Spent.place) (spent_is c).1 c.in-Spent.place refl

pub refused_at-requires-clause-within : goal.refused_at-requires-clause-within
refused_at-requires-clause-within c =
    named_inside (texts_of c.args.program.now) c.args.program.now.codes c.requires c.args.asked.name.now (Some c.in-NotTaken.place) (not_taken_is c).1 c.in-NotTaken.place refl

pub returns-in_ok-other_job-in-NotTyped : goal.returns-in_ok-other_job-in-NotTyped
returns-in_ok-other_job-in-NotTyped c =
    of_other c.args.asked.module_name.now c.args.asked.name.now c.args.asked.turns (texts_of c.args.program.now) (defs_in c.args.program.now.codes) c.in_ok-other_job-in-NotTyped.field-0
    c.in_ok-other_job-in-NotTyped.ensures

pub returns-in_ok-path-in-Nameless : goal.returns-in_ok-path-in-Nameless
returns-in_ok-path-in-Nameless c =
    let it = subst (Comes (defs_in c.args.program.now.codes) c.in_ok-named.named) c.in-Nameless.is (came ((goal.at.returns-in_ok-path-in-Nameless c).In_ok-other)) in
    nameless (subst AreProved c.requires.judgements_are it.0) (subst (IsLastNamed (texts_of c.args.program.now) c.args.asked.name.now) it.1 c.in_ok-named.ensures)
    c.in_ok-path-in-Nameless.path c.in_ok-path-in-Nameless.ensures c.refused.ensures

pub returns-in_ok-spent_at-in-Spent : goal.returns-in_ok-spent_at-in-Spent
returns-in_ok-spent_at-in-Spent c =
    let it = spent_is ((goal.at.returns-in_ok-spent_at-in-Spent c).In-Spent) in
    spent (subst AreProved c.requires.judgements_are it.0) c.in-Spent.place it.1 c.in_ok-spent_at-in-Spent.ensures

pub returns-in_ok-refused_at-in-NotTaken : goal.returns-in_ok-refused_at-in-NotTaken
returns-in_ok-refused_at-in-NotTaken c =
    let it = not_taken_is ((goal.at.returns-in_ok-refused_at-in-NotTaken c).In-NotTaken) in
    not_taken (subst AreProved c.requires.judgements_are it.0) c.in-NotTaken.place it.1 c.in_ok-refused_at-in-NotTaken.ensures

pub returns-in_ok-path-in-Shown : goal.returns-in_ok-path-in-Shown
returns-in_ok-path-in-Shown c =
    let it = subst (Comes (defs_in c.args.program.now.codes) c.in_ok-named.named) c.in-Shown.is (came ((goal.at.returns-in_ok-path-in-Shown c).In_ok-other)) in
    let shown = c.in-Shown.field-0 in
    inl (record {
      place = it.1.0;
      last = subst (IsLastNamed (texts_of c.args.program.now) c.args.asked.name.now) it.1.1 c.in_ok-named.ensures;
      code = it.1.2.0;
      code_is = it.1.2.1;
      proved = subst AreProved c.requires.judgements_are it.0;
      text = shown.text;
      normalised = subst (λ Js. IsNormalised Js (out-CodeDef it.1.2.0).number (string_bytes shown.text) shown.bytes.items) c.requires.judgements_are it.1.2.2;
      path_is = c.in_ok-path-in-Shown.ensures;
      is_told = refl;
    })
