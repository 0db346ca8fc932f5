use Rattle.std.proofs.Common.{map, refl, subst}
use Rattle.translation.specs.Translated.{judgements_of}
use Rattle.book.specs.Shown.{book_concludes}
use Rattle.book.specs.declared.kernel.NodeId.{NodeId}
use Rattle.session.specs.Found.{IsFound}
use Rattle.session.specs.Loaded.{stated_by}
use Rattle.session.specs.Normals.{AreProved}
use Rattle.session.proofs.NodeLaws.{all_proved}
use Rattle.session.proofs.prompt_command.begin.Goals as goal

pub returns : goal.returns
returns c =
    let defs = c.as_slice-defs.result.now in
    let found = subst (IsFound c.found_of.new.book defs) c.in-Stated.is c.in_ok-nodes.ensures in
    let proved = all_proved (book_concludes c.found_of.new.book) (map (λ (n : NodeId). n.0) c.in-Stated.nodes.items) (judgements_of (stated_by defs)) c.laws_of_nodes.ensures found in
    let stated = subst (λ ds. AreProved (judgements_of (stated_by ds))) c.as_slice-defs.ensures proved in
    (subst AreProved c.requires.judgements_are stated, refl, refl)
