-- The spare of a book, which covers a conclusion's rows and its node.
use Rattle.std.proofs.Common.{◌≤◌, ◌<◌, ◌+◌, ◌/◌, min, ℕ, arith}
use Rattle.theory.specs.declared.rule.RuleName.{RuleName}
use Rattle.rules.specs.Schemas.{most_rows}
use Rattle.region.specs.Held.{Held, Covers, SpendsRow}

-- what is left for rows, where so many are left in their table and in that of nodes
abbrev pub spare_of : ℕ → Held → ℕ
spare_of rows nodes = min rows (min nodes.spare_rows (nodes.spare_words / 32))

pub some_rows : (rule : RuleName) → 1 ≤ most_rows rule
some_rows rule = grind arith

pub node-covered : (rows count words : ℕ) (nodes : Held) → 1 ≤ count → count ≤ spare_of rows nodes → words ≤ 32 → Covers nodes 1 words
node-covered rows count words nodes some enough few = record { in_rows = omega arith; in_words = omega arith }

pub spent_once : (rows left count words : ℕ) (nodes next : Held) → 1 ≤ count → rows < left + count → words ≤ 32 → SpendsRow nodes next words → spare_of rows nodes ≤ spare_of left next + count
spent_once rows left count words nodes next some fewer few spent =
    omega (arith, spent.in_rows, spent.in_words)
