use Rattle.std.proofs.Common.{◌∙◌}
use Rattle.syntax.specs.View.{elements_of, element_of}
use Rattle.parser_states.proofs.Keeping.{keep_none, keep_some}
use Rattle.parser_states.proofs.lists.keep_element.Goals as goal

pub returns-then-room-eq0-clause-ok : goal.returns-then-room-eq0-clause-ok
returns-then-room-eq0-clause-ok c = keep_none c.args.room (elements_of c.args.elements.now) (element_of c.args.element) c.if-room-eq0.true

pub returns-clause-ok : goal.returns-clause-ok
returns-clause-ok c = c.in_ok-push.ensures.ok ∙ keep_some c.args.room (elements_of c.args.elements.now) (element_of c.args.element) c.if-room-eq0.false
