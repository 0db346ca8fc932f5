use Rattle.std.proofs.Common.{◌≡◌, ℕ, Some, subst}
use Rattle.trees.specs.Judgements.{Judgement}
use Rattle.derivation.specs.Derivations.{Provable}
use Rattle.interned.specs.Shown.{rows_mean}
use Rattle.book.specs.Contents.{Contents}
use Rattle.book.specs.Shown.{book_concludes}
use Rattle.book.proofs.BookLaws.{nodes-provable}
use Rattle.book.proofs.kernel.Book.laws_of_nodes.Goals as goal

pub returns : goal.returns
returns c =
    let inside = c.self.inside in
    subst (λ (b : Contents). (k : ℕ) (J : Judgement) → book_concludes b k ≡ Some J → Provable J) c.self.view_is
    (nodes-provable (rows_mean inside.rows) inside.nodes.rows c.self.invariant.right)
