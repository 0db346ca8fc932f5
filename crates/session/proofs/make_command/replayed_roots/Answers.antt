use Rattle.std.proofs.Common.{◌∙◌, ap, sym, subst, length, map, Some}
use Rattle.translation.specs.Translated.{judgements_of}
use Rattle.resolver.specs.Resolved.{defs_in}
use Rattle.book.specs.Shown.{book_concludes}
use Rattle.book.specs.declared.kernel.NodeId.{NodeId}
use Rattle.session.specs.Answers.{IsFound as IsOutcome}
use Rattle.session.specs.Found.{IsFound}
use Rattle.session.specs.Loaded.{stated_by}
use Rattle.session.specs.Normals.{AreProved}
use Rattle.session.proofs.NodeLaws.{all_proved}
use Rattle.session.proofs.make_command.replayed_roots.Goals as goal

pub returns : goal.returns
returns c =
    let defs = c.as_slice.result.now in
    let concluded = subst (IsFound c.found_of.new.book defs) c.in-Stated.is c.in_ok-found.ensures in
    let proved = all_proved (book_concludes c.found_of.new.book) (map (λ (n : NodeId). n.0) c.in-Stated.nodes.items) (judgements_of (stated_by defs)) c.laws_of_nodes.ensures concluded in
    let are = ap (λ ds. judgements_of (stated_by ds)) c.as_slice.ensures ∙ c.requires.judgements_are in
    λ k is.
    let told = c.roots_of.ensures k is in
    let judged = subst (IsOutcome c.deref-2.result.now (Some (judgements_of (stated_by (defs_in c.args.program.now.codes))))) told.1 c.in_ok-outcome.ensures in
    (subst AreProved are proved, ap length (sym c.requires.judgements_are) ∙ sym judged.2)
