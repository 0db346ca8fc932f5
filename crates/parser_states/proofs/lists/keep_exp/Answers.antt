use Rattle.std.proofs.Common.{◌∙◌}
use Rattle.syntax.specs.View.{exps_of, tree_of}
use Rattle.parser_states.proofs.Keeping.{keep_none, keep_some}
use Rattle.parser_states.proofs.lists.keep_exp.Goals as goal

pub returns-then-room-eq0 : goal.returns-then-room-eq0
returns-then-room-eq0 c = keep_none c.args.room (exps_of c.args.exps) (tree_of c.args.exp) c.if-room-eq0.true

pub returns : goal.returns
returns c = c.in_ok-push.ensures.ok ∙ keep_some c.args.room (exps_of c.args.exps) (tree_of c.args.exp) c.if-room-eq0.false
