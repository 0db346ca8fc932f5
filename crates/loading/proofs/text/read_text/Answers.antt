use Rattle.std.proofs.Common.{◌≡◌, Some, rules, subst}
use Rattle.host_io.specs.Files.{HoldsAt}
use Rattle.module_texts.specs.Texts.{path_of}
use Rattle.loading.proofs.TooLong.{too_long}
use Rattle.loading.proofs.text.read_text.Goals as goal

pub returns-in-Longer-clause-err : goal.returns-in-Longer-clause-err
returns-in-Longer-clause-err g c =
    let held = c.in-Longer.ensures.bytes in
    let there : c.as_str.result.now ≡ path_of c.args.name.now = search rules in
    let holds = subst (λ path. HoldsAt (g.F.Files.held c.args.files.now) path (Some held.0)) there held.2 in
    (held.0, holds, (search rules, too_long held.0 held.3))
