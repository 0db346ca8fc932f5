use Rattle.std.proofs.Common.{◌≡◌, ◌∙◌, ap, sym, subst, length, Some, codes, arith}
use Rattle.std.specs.FinMap.{empty, insert}
use Rattle.translation.specs.Translated.{judgements_of}
use Rattle.resolver.specs.Resolved.{defs_in}
use Rattle.host_io.specs.Memory.{FilesInMemory}
use Rattle.host_io.specs.Seen.{SeenFiles}
use Rattle.session.specs.Loaded.{IsProgram, stated_by}
use Rattle.session.specs.Makes.{alone}
use Rattle.session.specs.Modules.{Spells}
use Rattle.session.specs.Normals.{AreProved}
use Rattle.outcomes.specs.declared.outcome.Outcome.TheVariants as outcome
use Rattle.session.proofs.ReplayLaws.{spelt}
use Rattle.session.proofs.make_command.make.Goals as goal

-- what is seen of files in memory
abbrev see : FilesInMemory → SeenFiles
see f = record { held = Some f.held; counts = f.counts }

pub returns-in-Some-Some : goal.returns-in-Some-Some
returns-in-Some-Some c =
    let program = c.in-Ok.program in
    let read = subst (IsProgram (codes "Gen") (see c.in_ok-files.files) (see c.read_program.new.files)) c.in-Ok.is c.in_ok-program.ensures.program in
    let Js = judgements_of (stated_by (defs_in program.codes)) in
    let are = read.1.linked.judgements_are in
    let held : c.in_ok-files.files.held ≡ alone c.args.count =
    c.in_ok-files.ensures ∙ ap (insert empty (codes "Gen.ctt")) (c.as_str.ensures.value ∙ c.in_ok-text.ensures) in
    let found = c.in_ok-roots.ensures c.in-Some-Some.roots c.in-Some-Some.is-0 in
    let long : length Js ≡ c.in-Some-Some.roots = ap length are ∙ found.1 in
    λ yes. record {
      text = c.in_ok-text.text;
      text_is = c.in_ok-text.ensures;
      spelt = Js;
      spells = subst (λ h. Spells (Some h) (codes "Gen") Js) held (spelt (codes "Gen") (see c.in_ok-files.files) (see c.read_program.new.files) program read);
      proved = subst AreProved (sym are) found.0;
      twice = omega (arith, long, c.if-roots-twice.true, c.in-Some-Some.ensures);
      is_told = ap (λ k. outcome.Made c.in_ok-text.text c.args.count k) (sym long);
    }
