-- A node that is added to the rows of a file.
use Rattle.std.proofs.Common.{◌≡◌, ℕ, ◌+◌, ◌<◌, ◌≤◌, List, [], ◌∷◌, ◌++◌, length, take, drop, refl, sym, ◌∙◌, ap, ap₂, subst, arith, Some, length-append}
use Rattle.std.proofs.Math.Seq.{take-append_seam, drop-append_seam}
use Rattle.theory.specs.declared.rule.RuleName.{RuleName}
use Rattle.theory.specs.RuleNames.{kinds_of, premises_of}
use Rattle.trees.specs.Judgements.{Judgement}
use Rattle.deriv_file.specs.declared.row.Row.{Row}
use Rattle.deriv_file.specs.declared.row.Row.TheVariants as row
use Rattle.derivation.specs.Meanings.{Meaning, Concludes, thing_at, conclusion_at}
use Rattle.derivation.specs.Right.{RightNode, RightRow}
use Rattle.book.proofs.NodeLaws.{use-counts, few_cells}
use Rattle.book_writer.specs.declared.lines.RowHead.TheVariants as head
use Rattle.book_writer.specs.Held.{row_of}
use Rattle.book_writer.specs.Means.{meaning_after, meanings_in, lines_conclude, IsFile}
use Rattle.book_writer.proofs.FileLaws.{use-of}
use Rattle.book_writer.proofs.MeansLaws.{count-in, node-means}

pub record Counts (rule : RuleName) (parts premises : List ℕ) : Type 0 where
  pub parts_count : length parts ≡ length (kinds_of rule)
  pub count : length (parts ++ premises) ≡ length (kinds_of rule) + premises_of rule
  pub few : length parts + length premises ≤ 26

pub node-counts : (rows : List Row) (rule : RuleName) (parts premises : List ℕ) (J : Judgement) → RightNode (meanings_in rows) rule parts premises J → Counts rule parts premises
node-counts rows rule parts premises J right =
    let all : List Meaning = meanings_in rows in
    let n = use-counts (thing_at all) (conclusion_at all) rule parts premises J (use-of all rule parts premises J right) in
    record {
      parts_count = n.0;
      count = length-append parts premises ∙ ap₂ (λ a b. a + b) n.0 n.1;
      few = omega (arith, n.0, n.1, few_cells rule);
    }

module _ (rows : List Row) (h : IsFile rows) (rule : RuleName) (parts premises : List ℕ) (J : Judgement) (right : RightNode (meanings_in rows) rule parts premises J) (names : List ℕ) (are : names ≡ parts ++ premises) where
  abbrev all : List Meaning
  all = meanings_in rows

  row-is : row_of (head.Node rule) names ≡ row.Node rule parts premises
  row-is =
      let n = node-counts rows rule parts premises J right in
      ap (row_of (head.Node rule)) are
      ∙ ap₂ (row.Node rule)
      (ap (λ k. take k (parts ++ premises)) (sym n.parts_count) ∙ take-append_seam parts premises)
      (ap (λ k. drop k (parts ++ premises)) (sym n.parts_count) ∙ drop-append_seam parts premises)

  node-right : (ms : List Meaning) → 0 < length ms → RightNode ms rule parts premises J → RightRow ms (row.Node rule parts premises) (Concludes J)
  node-right [] some r = absurd (omega arith)
  node-right (m ∷ ms) some r = (J, r, refl)

  means : RightRow all (row.Node rule parts premises) (meaning_after all (row.Node rule parts premises)) × (lines_conclude (rows ++ row.Node rule parts premises ∷ []) (length rows) ≡ Some J)
  means = node-means rows h (row.Node rule parts premises) J (node-right all (omega (arith, h.some, count-in rows)) right)

  pub node-row-right : RightRow all (row_of (head.Node rule) names) (meaning_after all (row_of (head.Node rule) names))
  node-row-right = subst (λ (r : Row). RightRow all r (meaning_after all r)) (sym row-is) means.0

  pub node-row-concludes : lines_conclude (rows ++ row_of (head.Node rule) names ∷ []) (length rows) ≡ Some J
  node-row-concludes = ap (λ (r : Row). lines_conclude (rows ++ r ∷ []) (length rows)) row-is ∙ means.1
