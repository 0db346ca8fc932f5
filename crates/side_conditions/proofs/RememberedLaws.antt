-- What is remembered of rows from one question to the next.
use Rattle.std.proofs.Common.{rules, ◌≡◌, ℕ, zero, suc, ◌<◌, ◌≤◌, Bool, List, [], Option, Some, None, is_some, refl, sym, ◌∙◌, ap, subst, arith}
use Rattle.std.specs.Prelude.{IsSome, option_and_then}
use Rattle.std.specs.Option.{option_or}
use Rattle.trees.specs.Judgements.{Context}
use Rattle.trees.specs.Things.{Thing, ATree, Meanings}
use Rattle.rows.specs.Views.{IsTree}
use Rattle.rows.specs.declared.views.TermId.{TermId}
use Rattle.closures.specs.Environments.{Waiting, deepest}
use Rattle.closures.specs.declared.environments.Environment.{Environment}
use Rattle.closures.specs.declared.environments.Environment.TheVariants as env
use Rattle.closures.specs.Closures.{IsClosure}
use Rattle.closures.proofs.HeadLaws.{row-stands}
use Rattle.indexmap.specs.IndexMap.{get}
use Rattle.side_conditions.specs.declared.subtree.Subtree.{Subtree}
use Rattle.side_conditions.specs.declared.reading.Reading.{Reading}
use Rattle.side_conditions.specs.declared.readings.Readings.{Readings}
use Rattle.side_conditions.specs.contracts.subtree.SubtreePartialEq.TheImpl.{eq-value}
use Rattle.side_conditions.specs.Levels.{indices, with_names}
use Rattle.side_conditions.specs.Readings.{Reads}
use Rattle.side_conditions.specs.Remembered.{AreKept}
use Rattle.side_conditions.specs.Shapes.{tree_of, tree_at}
use Rattle.side_conditions.specs.Shown.{remembered_at, reading_at, IsForgotten}
use Rattle.side_conditions.specs.Walks.{Remembers}
use Rattle.side_conditions.specs.Whole.{row_alone, whole_row}
use Rattle.side_conditions.proofs.WalkLaws.{row_tree, root_reads}

-- what the subtree of a whole row is
record IsWhole (s : Subtree) (row : TermId) : Type 0 where
  row_is : s.closure.row ≡ row
  none_waits : s.closure.environment ≡ env.Empty
  outermost : s.depth ≡ 0

whole : (s : Subtree) (row : TermId) → whole_row s ≡ Some row → IsWhole s row
whole s row = by s.closure.row s.closure.environment s.depth refl refl refl
  where
    by : (r : TermId) (e : Environment) (d : ℕ) → s.closure.row ≡ r → s.closure.environment ≡ e → s.depth ≡ d → row_alone r e d ≡ Some row → IsWhole s row
    by r env.Empty zero a b c is = let same : r ≡ row = cc in record { row_is = a ∙ same; none_waits = b; outermost = c }
    by r env.Empty (suc d) a b c is = cc
    by r (env.Node at lift) d a b c is = cc

-- the whole tree of a row
abbrev tree_whole : TermId → Subtree
tree_whole row = record { closure = record { row = row; environment = env.Empty }; depth = 0 }

nothing_other : (r : Readings) (s : Subtree) → r.others.entries ≡ [] → get eq-value.it r.others s ≡ None
nothing_other r s none = search rules

-- nothing but whole rows is remembered
pub kept-remembers : (Valued : Type 0) (f : Meanings) (known : List (List Waiting)) (names : List Bool) (r : Readings) → AreKept Valued f names r → Remembers Valued f known names (reading_at r)
kept-remembers Valued f known names r kept = record {
  kept = λ s there. stands s (reading_at r s) refl there;
  right = λ G same s found is. reads G same s found (at_row s found is);
}
  where
    -- the row whose tree it is, which is remembered
    At : Subtree → Option Reading → Type 0
    At s found = (row : TermId) × IsWhole s row × (remembered_at r row ≡ Some found)

    at_row : (s : Subtree) (found : Option Reading) → reading_at r s ≡ Some found → At s found
    at_row s found is = by (whole_row s) refl (sym (ap (option_or (option_and_then (remembered_at r) (whole_row s))) (nothing_other r s kept.alone)) ∙ is)
      where
        here : (o : Option (Option Reading)) → option_or o None ≡ Some found → o ≡ Some found
        here None is = cc
        here (Some other) is = is

        by : (o : Option TermId) → whole_row s ≡ o → option_or (option_and_then (remembered_at r) (whole_row s)) None ≡ Some found → At s found
        by None e is = cc
        by (Some row) e is = (row, whole s row e, here (remembered_at r row) (ap (λ x. option_or (option_and_then (remembered_at r) x) None) (sym e) ∙ is))

    stands : (s : Subtree) (o : Option (Option Reading)) → reading_at r s ≡ o → IsSome o → IsClosure f known deepest s.closure
    stands s None is there = cc
    stands s (Some found) is there =
        let x = at_row s found is in
        row-stands f known deepest x.0.0 s.closure (kept.trees x.0 found x.2) (ap (λ (t : TermId). t.0) x.1.row_is) x.1.none_waits

    reads : (G : Context) → indices G ≡ names → (s : Subtree) (found : Option Reading) → At s found → Reads Valued (with_names s.depth G) (tree_at f known s) found
    reads G same s found x =
        subst (λ n. Reads Valued (with_names n G) (tree_at f known s) found) (sym x.1.outermost)
        (subst (λ t. Reads Valued G t found)
        (sym (row_tree f known x.0.0 s (kept.trees x.0 found x.2) (ap (λ (t : TermId). t.0) x.1.row_is) x.1.none_waits))
        (kept.right x.0 found x.2 G same))

-- what was read is forgotten, but for whole rows
pub forgotten-kept : (Valued : Type 0) (f : Meanings) (known : List (List Waiting)) (names : List Bool) (r after : Readings) → Remembers Valued f known names (reading_at r) → IsForgotten r after → AreKept Valued f names after
forgotten-kept Valued f known names r after remembers forgotten = record {
  alone = forgotten.alone;
  trees = λ row found is. (remembers.kept (tree_whole row) (ap is_some (there row found is))).row;
  right = λ row found is G same.
      subst (λ t. Reads Valued G t found)
      (row_tree f known row.0 (tree_whole row) (remembers.kept (tree_whole row) (ap is_some (there row found is))).row refl refl)
      (remembers.right G same (tree_whole row) found (there row found is));
}
  where
    there : (row : TermId) (found : Option Reading) → remembered_at after row ≡ Some found → reading_at r (tree_whole row) ≡ Some found
    there row found is = ap (λ o. option_or o (get eq-value.it r.others (tree_whole row))) (forgotten.fewer row found is)

-- less is remembered
pub kept-fewer : (Valued : Type 0) (f : Meanings) (names : List Bool) (r after : Readings) → AreKept Valued f names r → IsForgotten r after → AreKept Valued f names after
kept-fewer Valued f names r after kept forgotten = record {
  alone = forgotten.alone;
  trees = λ row found is. kept.trees row found (forgotten.fewer row found is);
  right = λ row found is. kept.right row found (forgotten.fewer row found is);
}

-- the first rows mean the same
pub kept-as : (Valued : Type 0) (mark : ℕ) (f g : Meanings) (names : List Bool) (r : Readings) → ((k : ℕ) (x : Thing) → k < mark → f k ≡ Some x → g k ≡ Some x) → r.mark ≤ mark → AreKept Valued f names r → AreKept Valued g names r
kept-as Valued mark f g names r same le kept = record {
  alone = kept.alone;
  trees = λ row found is. let t = kept.trees row found is in (t.0, also row found is t);
  right = λ row found is G names_are.
      let t = kept.trees row found is in
      subst (λ o. Reads Valued G (tree_of o) found) (t.1 ∙ sym (also row found is t)) (kept.right row found is G names_are);
}
  where
    also : (row : TermId) (found : Option Reading) → remembered_at r row ≡ Some found → (t : IsTree (f row.0)) → g row.0 ≡ Some (ATree t.0)
    also row found is t =
        let below = r.below row (ap is_some is) in
        same row.0 (ATree t.0) (omega (arith, below, le)) t.1

-- nothing was read
pub kept-nothing : (Valued : Type 0) (f : Meanings) (names : List Bool) (r : Readings) → ((s : Subtree) → reading_at r s ≡ None) → r.others.entries ≡ [] → AreKept Valued f names r
kept-nothing Valued f names r nothing alone = record {
  alone = alone;
  trees = λ row found is. absurd (none row found is);
  right = λ row found is. absurd (none row found is);
}
  where
    none : (row : TermId) (found : Option Reading) → remembered_at r row ≡ Some found → ⊥
    none row found is =
        let read : reading_at r (tree_whole row) ≡ Some found = ap (λ o. option_or o (get eq-value.it r.others (tree_whole row))) is in
        let not = nothing (tree_whole row) in
        cc

-- what the tree of a row was read as
pub row-reads : (Valued : Type 0) (f : Meanings) (known : List (List Waiting)) (names : List Bool) (r : Readings) (row : ℕ) (root : Subtree) → IsTree (f row) → root.closure.row.0 ≡ row → root.closure.environment ≡ env.Empty → root.depth ≡ 0 → Remembers Valued f known names (reading_at r) → (found : Option Reading) → reading_at r root ≡ Some found → (G : Context) → indices G ≡ names → Reads Valued G (tree_of (f row)) found
row-reads Valued f known names r row root tree is none outermost remembers found there G same =
    subst (λ t. Reads Valued G t found) (row_tree f known row root tree is none)
    (root_reads Valued f known names (reading_at r) root found remembers outermost (sym there) G same)
