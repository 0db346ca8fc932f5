-- What a book said is said by those that extend it.
use Rattle.std.proofs.Common.{◌≡◌, ℕ, sym, ◌∙◌}
use Rattle.trees.specs.Things.{AContext}
use Rattle.rows.specs.Views.{IsContext}
use Rattle.book.specs.Contents.{Contents}
use Rattle.book.specs.Shown.{Extends, book_means}

pub further : {a b c : Contents} → Extends a b → Extends b c → Extends a c
further e f = record {
  rows = record { keeps = λ k x is. f.rows.keeps k x (e.rows.keeps k x is) };
  nodes = λ k node is. f.nodes k node (e.nodes k node is);
  conclusions = λ k J is. f.conclusions k J (e.conclusions k J is);
  marks = λ mark is. f.marks mark (e.marks mark is);
}

pub same_context : {a b : Contents} → Extends a b → (k : ℕ) → IsContext (book_means a k) → book_means b k ≡ book_means a k
same_context e k is = e.rows.keeps k (AContext is.0) is.1 ∙ sym is.1

pub kept_context : {a b : Contents} → Extends a b → (k : ℕ) → IsContext (book_means a k) → IsContext (book_means b k)
kept_context e k is = (is.0, e.rows.keeps k (AContext is.0) is.1)
