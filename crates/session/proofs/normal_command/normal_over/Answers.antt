use Rattle.std.proofs.Common.{subst, map}
use Rattle.translation.specs.Translated.{judgements_of}
use Rattle.book.specs.Shown.{book_concludes}
use Rattle.book.specs.declared.kernel.NodeId.{NodeId}
use Rattle.session.specs.Found.{IsFound}
use Rattle.session.specs.Loaded.{stated_by}
use Rattle.session.specs.Normals.{AreProved}
use Rattle.session.proofs.NodeLaws.{all_proved}
use Rattle.session.proofs.NormalLaws.{comes_of}
use Rattle.session.proofs.normal_command.normal_over.Goals as goal
use Rattle.session.proofs.normal_command.normal_over.Goals.{After-laws_of_nodes}

-- all that the definitions state can be derived
proved : (c : After-laws_of_nodes) → AreProved (judgements_of (stated_by c.args.defs.now))
proved c =
    let found = subst (IsFound c.found_of.new.book c.args.defs.now) c.in-Stated.is c.in_ok-nodes.ensures in
    all_proved (book_concludes c.found_of.new.book) (map (λ (n : NodeId). n.0) c.in-Stated.nodes.items) (judgements_of (stated_by c.args.defs.now)) c.laws_of_nodes.ensures found

pub returns-in-Some : goal.returns-in-Some
returns-in-Some c =
    comes_of c.args.defs.now c.args.named c.in-Some.place c.in_ok-normal_of-in-Some.field-0 (proved ((goal.at.returns-in-Some c).After-laws_of_nodes)) c.in-Some.is c.in_ok-normal_of-in-Some.ensures

pub returns : goal.returns
returns c = (proved ((goal.at.returns c).After-laws_of_nodes), c.in-None.is)
