use Rattle.std.proofs.Common.{◌∙◌, ap, subst}
use Rattle.bidirect.specs.Checked.{AreChecked}
use Rattle.session.specs.Found.{nodes_of}
use Rattle.session.proofs.NodeLaws.{all_conclude}
use Rattle.session.proofs.found.found_of.Goals as goal

pub returns-in_ok-nodes_of-in-Direct : goal.returns-in_ok-nodes_of-in-Direct
returns-in_ok-nodes_of-in-Direct c =
    let found = subst (AreChecked c.check_definitions.new.book c.args.defs.now) c.in-Direct.is c.in_ok-roots.ensures.checked in
    all_conclude c.check_definitions.new.book c.args.defs.now c.in-Direct.roots c.in_ok-nodes_of-in-Direct.field-0.items found (c.in_ok-nodes_of-in-Direct.ensures ∙ ap nodes_of c.deref.ensures.value)
