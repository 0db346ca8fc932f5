use Rattle.std.proofs.Common.{rules}
use Rattle.host_io.proofs.FetchLemmas.{below}
use Rattle.host_io.proofs.disk.append_below.Goals as goal

pub returns-in-Ok-clause-ok : goal.returns-in-Ok-clause-ok
returns-in-Ok-clause-ok g c =
    below (g.R.Read.remaining c.args.reader) c.args.limit c.in-Ok.count c.args.into.now.items c.read_to_end.new.buf.items (search rules) c.in-Ok.ensures.appends (search rules) c.if-count-limit.true
