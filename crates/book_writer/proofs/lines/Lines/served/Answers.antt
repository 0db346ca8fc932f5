use Rattle.std.proofs.Common.{◌∙◌, List, Bool, false, replicate, sym, ap, subst, arith}
use Rattle.std.proofs.lemmas.List.{with_items_is}
use Rattle.book_writer.specs.Served.{AreServed}
use Rattle.book_writer.proofs.lines.Lines.served.Goals as goal

pub mark_served-requires-clause-clear : goal.mark_served-requires-clause-clear
mark_served-requires-clause-clear c =
    c.deref_mut.ensures.value ∙ c.in_ok-marks.ensures.items_if_clones_equal (λ y same. same) ∙ ap (λ n. replicate n false) c.len.ensures

pub returns : goal.returns
returns c =
    subst (λ (ms : List Bool). AreServed c.args.self.now c.args.roots.now ms) (sym (with_items_is c.in_ok-marks.marks c.mark_served.new.marks (omega (arith, c.mark_served.ensures.count, c.in_ok-marks.ensures.len, c.len.ensures)))) c.mark_served.ensures
