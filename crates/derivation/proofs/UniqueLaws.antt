-- A row means one thing at most, and a file has one verdict.
use Rattle.std.proofs.Common.{◌≡◌, ℕ, ◌<◌, ◌++◌, List, [], ◌∷◌, length, sym, ◌∙◌, ap, ap₂, subst, arith}
use Rattle.theory.specs.declared.rule.RuleName.{RuleName}
use Rattle.trees.specs.Judgements.{Judgement}
use Rattle.deriv_file.specs.declared.row.Row.{Row}
use Rattle.deriv_file.specs.declared.row.Row.TheVariants.{Header, Node, Root}
use Rattle.deriv_file.specs.Spelling.{newest}
use Rattle.deriv_file.proofs.RowsLaws.{spell_rows_one}
use Rattle.derivation.specs.Meanings.{Meaning, Concludes}
use Rattle.derivation.specs.Right.{RightNode, RightRow, RightRows, AllRight, FirstBad, Derives, roots_of}

-- a node concludes one judgement
node_one : (before : List Meaning) (rule : RuleName) (parts premises : List ℕ) (J K : Judgement) → RightNode before rule parts premises J → RightNode before rule parts premises K → J ≡ K
node_one before rule parts premises J K a b =
    let a_parts = a.parts_are in
    let b_parts = b.parts_are in
    let a_rule = a.instance.is in
    let b_rule = b.instance.is in
    let a_gives = a.instance.gives in
    let b_gives = b.instance.gives in
    let things_one : a.xs ≡ b.xs = cc in
    let rules_one : a.instance.rule ≡ b.instance.rule = cc in
    cc

-- a right row means one thing
pub row_one : (before : List Meaning) (row : Row) (m n : Meaning) → RightRow before row m → RightRow before row n → m ≡ n
row_one [] (Header version) m n a b = a ∙ sym b
row_one [] row m n a b = absurd a
row_one (x ∷ before) (Header version) m n a b = absurd a
row_one (x ∷ before) (Node rule parts premises) m n a b =
    a.2 ∙ ap Concludes (node_one (x ∷ before) rule parts premises a.0 b.0 a.1 b.1) ∙ sym b.2
row_one (x ∷ before) (Root node) m n a b = a.2 ∙ sym b.2
row_one (x ∷ before) row m n a b = cc

-- right rows mean one list
pub rows_one : (before : List Meaning) (rows : List Row) (all other : List Meaning) → RightRows before rows all → RightRows before rows other → all ≡ other
rows_one before [] all other a b = a ∙ sym b
rows_one before (row ∷ rows) all other a b =
    let first : a.0 ≡ b.0 = row_one before row a.0 b.0 a.1 b.1 in
    rows_one (before ++ a.0 ∷ []) rows all other a.2 (subst (λ m. RightRows (before ++ m ∷ []) rows other) (sym first) b.2)

-- the rows and roots of a file are fixed
pub derives_one : (bytes : List ℕ) (n m : ℕ) (Js Ks : List Judgement) → Derives bytes n Js → Derives bytes m Ks → (n ≡ m) × (Js ≡ Ks)
derives_one bytes n m Js Ks a b =
    let rows : a.spelt ≡ b.spelt = spell_rows_one newest 0 _ a.spelt b.spelt a.begins.spelt b.begins.spelt in
    let all : a.all ≡ b.all = rows_one [] b.spelt a.all b.all (subst (λ r. RightRows [] r a.all) rows a.begins.right) b.begins.right in
    (a.rows_are ∙ ap length rows ∙ sym b.rows_are, a.roots_are ∙ ap₂ roots_of all rows ∙ sym b.roots_are)

-- a file whose rows all are right has no first bad row
pub no_bad : (bytes : List ℕ) (k : ℕ) → AllRight bytes → FirstBad bytes k → ⊥
no_bad bytes k right bad =
    let some = right.0 in
    let within = bad.within in
    bad.bad (right.1 k (omega arith))

-- the first bad row is one
pub bad_one : (bytes : List ℕ) (j k : ℕ) → FirstBad bytes j → FirstBad bytes k → j ≡ k
bad_one bytes j k a b =
    let not_less : j < k → ⊥ = λ lt. a.bad (b.before j lt) in
    let not_more : k < j → ⊥ = λ lt. b.bad (a.before k lt) in
    omega arith
