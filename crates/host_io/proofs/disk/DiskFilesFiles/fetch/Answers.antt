use Rattle.std.proofs.Common.{None, sym, subst}
use Rattle.host_io.specs.declared.files.Fetched.{Fetched}
use Rattle.host_io.specs.Files.{FetchGives}
use Rattle.host_io.proofs.FetchLemmas.{gives}
use Rattle.host_io.proofs.disk.DiskFilesFiles.fetch.Goals as goal

pub returns-clause-bytes : goal.returns-clause-bytes
returns-clause-bytes g c =
    let old = c.args.into.now.items in
    let new = c.append_file-answer.new.into.items in
    let Gives : Fetched → Type 0 = λ fetched. FetchGives None c.args.path.now c.args.limit old new fetched in
    subst Gives (sym c.fetched_from-fetched.ensures)
    (gives c.args.path.now c.args.limit old new g.R.File.Read.remaining c.append_file-answer.result c.append_file-answer.ensures.ok c.append_file-answer.ensures.err)
