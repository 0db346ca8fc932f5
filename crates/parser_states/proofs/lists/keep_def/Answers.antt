use Rattle.std.proofs.Common.{◌∙◌}
use Rattle.syntax.specs.View.{defs_of, def_of}
use Rattle.parser_states.proofs.Keeping.{keep_none, keep_some}
use Rattle.parser_states.proofs.lists.keep_def.Goals as goal

pub returns-then-room-eq0 : goal.returns-then-room-eq0
returns-then-room-eq0 c = keep_none c.args.room (defs_of c.args.defs) (def_of c.args.def) c.if-room-eq0.true

pub returns : goal.returns
returns c = c.in_ok-push.ensures.ok ∙ keep_some c.args.room (defs_of c.args.defs) (def_of c.args.def) c.if-room-eq0.false
