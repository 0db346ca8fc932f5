use Rattle.std.proofs.Common.{refl, sym, ap, subst, Some}
use Rattle.trees.specs.Language.{TmEq}
use Rattle.presuppositions.specs.declared.source.Label.TheVariants as label
use Rattle.typed_nodes.specs.Typed.{Says}
use Rattle.presupposed.specs.Tasks.{asked}
use Rattle.presupposed.proofs.StepLaws.{found_one}
use Rattle.presupposed.proofs.walk.Search.unfold.Goals as goal

pub right_side-requires : goal.right_side-requires
right_side-requires c =
    let (top, I, J, leads, (K, says, (G, l, r, A, is, u, e))) = c.requires in
    (G, l, r, A, u, subst (Says c.args.book.now c.args.self.now.found) is says)

pub returns-clause-goes : goal.returns-clause-goes
returns-clause-goes c = λ top I J leads does.
    let a = c.args in
    let (K, says, (G, l, r, A, is, u, e)) = does in
    let typed = c.in_ok-right.ensures.typed G l r A u (subst (Says a.book.now a.self.now.found) is says) in
    found_one a.book.now c.right_side.new.book a.self.now c.insert.new.self (asked a.node label.Right) top c.in_ok-right.right I J c.in_ok-right.ensures.extends leads
    (TmEq G l r A, u.says, ap Some (sym e))
    (subst (Says c.right_side.new.book c.in_ok-right.right) (sym e) typed)
    c.in_ok-insert.ensures
