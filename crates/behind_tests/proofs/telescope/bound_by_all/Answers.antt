use Rattle.std.proofs.Common.{reverse, subst}
use Rattle.behind_tests.specs.Telescopes.{IsTerm}
use Rattle.behind_tests.proofs.TelescopeLaws.{all_later, all_less}
use Rattle.behind_tests.proofs.telescope.bound_by_all.Goals as goal

pub bound-requires : goal.bound-requires
bound-requires c =
    let l = c.loop-two in
    let (G, all, body) = l.invariant in
    let (H, same, here, below) = all_less l.book l.arguments.items c.pop.new.self.items c.in-Some.two G c.in-Some.ensures.items all in
    (H, here, subst (IsTerm l.book l.body) same body)

pub loop-two-preserved : goal.loop-two-preserved
loop-two-preserved c =
    let l = c.loop-two in
    let (G, all, body) = l.invariant in
    let (H, same, here, below) = all_less l.book l.arguments.items c.pop.new.self.items c.in-Some.two G c.in-Some.ensures.items all in
    let e = c.in_ok-body.ensures in
    (H, all_later l.book c.bound.new.book (reverse c.pop.new.self.items) H e.extends below, e.typed H here (subst (IsTerm l.book l.body) same body))
