use Rattle.std.proofs.Common.{◌≡◌, ◌<◌, ◌↔◌, IsSome}
use Rattle.std.proofs.lemmas.Bool.{ltb-true, lt-ltb}
use Rattle.book.specs.Shown.{book_nodes, book_concludes}
use Rattle.book.proofs.CutLaws.{nodes-counted}
use Rattle.book.proofs.FitLaws.{node-there-iff}
use Rattle.book.proofs.kernel.Book.is_node.Goals as goal

pub returns-clause-there : goal.returns-clause-there
returns-clause-there c =
    let k = c.args.node.0 in
    let there : IsSome (book_nodes c.args.self.now k) ↔ IsSome (book_concludes c.args.self.now k) = node-there-iff _ _ c.self.view_is c.self.invariant.right k in
    let counted : IsSome (book_concludes c.args.self.now k) ↔ (k < c.len.result) = nodes-counted _ _ c.self.view_is c.self.invariant.right c.len.result c.len.ensures.count k in
    (λ lt. there.1 (counted.1 (ltb-true k c.len.result lt)), λ some. lt-ltb k c.len.result (counted.0 (there.0 some)))

pub returns-clause-concludes : goal.returns-clause-concludes
returns-clause-concludes c =
    let k = c.args.node.0 in
    let counted : IsSome (book_concludes c.args.self.now k) ↔ (k < c.len.result) = nodes-counted _ _ c.self.view_is c.self.invariant.right c.len.result c.len.ensures.count k in
    (λ lt. counted.1 (ltb-true k c.len.result lt), λ some. lt-ltb k c.len.result (counted.0 some))
