-- What an entry states, and when rows derive it.
use Rattle.std.specs.Prelude.{◌≡◌, ℕ, List, [], ◌∷◌, Bool, true, false, ◌&&◌, ◌||◌, not}
use Rattle.std.specs.Prelude.{Option, Some, None, ◌≤◌, nat_le, length, sum_by}
use Rattle.std.specs.List.{list_all}
use Rattle.theory.specs.declared.rule.RuleName.{RuleName}
use Rattle.theory.specs.declared.rule.RuleName.TheVariants.{Composition}
use Rattle.theory.specs.declared.rule.CompRule.TheVariants.{CompPi, CompSig, CompPath, CompGlue}
use Rattle.theory.specs.declared.rule.CompRule.TheVariants.{CompU}
use Rattle.theory.specs.RuleNames.{kinds_of}
use Rattle.trees.specs.Things.{both}
use Rattle.patterns.specs.Patterns.{patterns, JudgementPattern}
use Rattle.pattern_sides.specs.Follows.{follows}
use Rattle.recipes.specs.declared.row.Row.{Row}
use Rattle.recipes.specs.Statements.{Statement, pattern_of}
use Rattle.recipes.specs.Derivations.{Derives}
use Rattle.recipes.specs.Checks.{is_derived}
use Rattle.presuppositions.specs.declared.source.Entry.{Entry}
use Rattle.presuppositions.specs.declared.source.Label.{Label}
use Rattle.presuppositions.specs.declared.source.Label.TheVariants as label
use Rattle.presuppositions.specs.declared.source.Source.{Source}
use Rattle.presuppositions.specs.Behind.{behind_pattern, pattern_views}
use Rattle.presuppositions.specs.Sought.{is_none, is_sought, numbers_made}
use Rattle.presuppositions.specs.Sources.{source_patterns}

-- over the parts and the side conditions of a rule
abbrev pub over_rule : RuleName → List JudgementPattern → JudgementPattern → Option Statement
over_rule name wants gives =
    Some (record {
      kinds = kinds_of name;
      wants = wants;
      sides = (pattern_of name).sides;
      gives = gives ∷ [];
    })

-- What the sources name of the premises of the rule derives what stands behind its conclusion.
-- There is none where a source names nothing, or nothing of the label stands behind it.
abbrev pub entry_statement : RuleName → Label → List Source → Option Statement
entry_statement name l sources =
    let r = pattern_of name in
    both (over_rule name) (source_patterns r.wants sources) (behind_pattern l r.gives)

-- the right sides of the rules of composition that are typed as they are made
abbrev pub is_unfolded : RuleName → Label → Bool
is_unfolded (Composition CompPi) label.Right = true
is_unfolded (Composition CompSig) label.Right = true
is_unfolded (Composition CompPath) label.Right = true
is_unfolded (Composition CompGlue) label.Right = true
is_unfolded (Composition CompU) label.Right = true
is_unfolded _ _ = false

-- nothing of the label stands behind the conclusion of the rule, or what stands there is unfolded
abbrev pub has_none : RuleName → Label → Bool
has_none name l = is_none (behind_pattern l (pattern_of name).gives) || is_unfolded name l

-- few sources, all of which a walk can have, and rows that make few numbers
abbrev pub is_walked : RuleName → Label → List Source → List Row → Bool
is_walked name l sources rows =
    nat_le (length sources) 16
    && (nat_le (sum_by numbers_made rows) 512
    && list_all (is_sought patterns pattern_views (pattern_of name).wants l) sources)

-- the rows derive, of what the sources name, what stands behind the conclusion of the rule
pub record IsEntry (earlier : List Statement) (name : RuleName) (l : Label)
    (sources : List Source) (rows : List Row) (last : ℕ) : Type 0 where
  pub statement : Statement
  pub is : entry_statement name l sources ≡ Some statement
  pub derives : Derives earlier statement rows (last ∷ [])
  pub due : has_none name l ≡ false
  pub few_sources : length sources ≤ 16
  pub few_numbers : sum_by numbers_made rows ≤ 512
  pub sought : list_all (is_sought patterns pattern_views (pattern_of name).wants l) sources ≡ true

-- an entry, where one is due
abbrev pub Answers : List Statement → RuleName → Label → Option Entry → Type 0
Answers earlier name l None = has_none name l ≡ true
Answers earlier name l (Some e) = IsEntry earlier name l e.sources.now e.rows.now e.last

-- it is of these sources and rows
abbrev pub Has : List Source → List Row → ℕ → Option Entry → Type 0
Has sources rows last None = ⊥
Has sources rows last (Some e) =
    (e.sources.now ≡ sources) × (e.rows.now ≡ rows) × (e.last ≡ last)

-- a test of entries

abbrev pub is_derived_where : List Statement → List Row → ℕ → Option Statement → Bool
is_derived_where earlier rows last None = false
is_derived_where earlier rows last (Some s) = is_derived follows earlier s rows (last ∷ [])

abbrev pub is_entry : List Statement → RuleName → Label → List Source → List Row → ℕ → Bool
is_entry earlier name l sources rows last =
    not (has_none name l)
    && (is_walked name l sources rows
    && is_derived_where earlier rows last (entry_statement name l sources))
