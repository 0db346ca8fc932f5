use Rattle.std.proofs.Common.{◌≡◌, subst}
use Rattle.trees.specs.Claimed.{claimed}
use Rattle.book.specs.Shown.{book_means, book_concludes}
use Rattle.trails.proofs.EquationLaws.{equation-is}
use Rattle.trails.proofs.glued.equation_of.Goals as goal

pub returns-in-TmEq : goal.returns-in-TmEq
returns-in-TmEq c =
    let f = book_means c.args.book.now in
    let o = book_concludes c.args.book.now c.args.node.0 in
    equation-is f _ c.in-TmEq.field-3 o (subst (λ x. claimed f x ≡ o) c.in-TmEq.is c.in_ok-ctx.ensures.claim) c.in_ok-ctx.ensures.there
