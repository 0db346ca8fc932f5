-- When the rows of a recipe are right at given parts, and when they derive a statement.
use Rattle.std.specs.Prelude.{◌≡◌, ℕ, List, [], ◌∷◌, ◌++◌, map, take, length}
use Rattle.std.specs.Prelude.{slice_get, Some}
use Rattle.std.specs.List.{All}
use Rattle.trees.specs.Trees.{greatest_shift}
use Rattle.trees.specs.Judgements.{Judgement, trees}
use Rattle.trees.specs.Things.{Thing, kind_of, meanings}
use Rattle.theory.specs.declared.rule.RuleName.{RuleName}
use Rattle.theory.specs.RuleNames.{kinds_of, premises_of}
use Rattle.patterns.specs.Values.{parts_of, judgement_of, condition_of}
use Rattle.conditions.specs.Sides.{SideHolds}
use Rattle.rules.specs.Instances.{IsInstance}
use Rattle.recipes.specs.declared.row.Row.{Row}
use Rattle.recipes.specs.declared.row.Row.TheVariants as row
use Rattle.recipes.specs.Statements.{Statement, Claimed}
use Rattle.recipes.specs.Made.{Made, AThing, ANode, thing_at, node_at, built_by, ShiftIsAtMost}
use Rattle.recipes.specs.Made.{greatest_part_shift}

-- the statement at these parts: its premises, side conditions and conclusions

abbrev pub premises_at : Statement → List Thing → List Judgement
premises_at s parts = map (judgement_of (parts_of parts)) s.wants

abbrev pub SidesHold : Statement → List Thing → Type 0
SidesHold s parts = All SideHolds (map (condition_of (parts_of parts)) s.sides)

abbrev pub conclusions_at : Statement → List Thing → List Judgement
conclusions_at s parts = map (judgement_of (parts_of parts)) s.gives

-- the statement at these parts is that
pub record StatesAt (s : Statement) (parts : List Thing) (c : Claimed trees) : Type 0 where
  pub wants : premises_at s parts ≡ c.wants
  pub sides : map (condition_of (parts_of parts)) s.sides ≡ c.sides
  pub gives : conclusions_at s parts ≡ c.gives

-- the parts are of the statement's kinds, their shifts are small, and its side conditions hold
pub record MayStandAt (s : Statement) (parts : List Thing) : Type 0 where
  pub kinds : map kind_of parts ≡ s.kinds
  pub shifts : All (ShiftIsAtMost greatest_part_shift) parts
  pub sides : SidesHold s parts

-- the rule at the parts that these rows made, of the nodes that these made, concludes J
pub record Concludes (known : List Made) (name : RuleName) (parts nodes : List ℕ)
    (J : Judgement) : Type 0 where
  pub things : List Thing
  pub premises : List Judgement
  pub things_are : meanings (thing_at known) (take (length (kinds_of name)) parts) ≡ Some things
  pub premises_are : meanings (node_at known) (take (premises_of name) nodes) ≡ Some premises
  pub shifts : All (ShiftIsAtMost greatest_shift) things
  pub instance : IsInstance name things premises J

-- the earlier statement, at the parts that these rows made, of the nodes that these made
pub record Follows (known : List Made) (s : Statement) (parts nodes : List ℕ)
    (gives : List Judgement) : Type 0 where
  pub things : List Thing
  pub things_are : meanings (thing_at known) (take (length s.kinds) parts) ≡ Some things
  pub premises_are : meanings (node_at known) (take (length s.wants) nodes)
      ≡ Some (premises_at s things)
  pub may_stand : MayStandAt s things
  pub given : gives ≡ conclusions_at s things

pub record FollowsFrom (earlier : List Statement) (known : List Made) (k : ℕ)
    (parts nodes : List ℕ) (gives : List Judgement) : Type 0 where
  pub statement : Statement
  pub is : slice_get earlier k ≡ Some statement
  pub follows : Follows known statement parts nodes gives

-- `then` takes substitutions of no greater shift
abbrev pub ThenTakes : List Made → Row → Type 0
ThenTakes known (row.Then d e) =
    ((x : Thing) → thing_at known d ≡ Some x → ShiftIsAtMost greatest_shift x)
    × ((x : Thing) → thing_at known e ≡ Some x → ShiftIsAtMost greatest_shift x)
ThenTakes known _ = Unit {0}

-- Over parts and premises, and what earlier rows made, the row makes this. `earlier` has what
-- earlier recipes state.
abbrev pub Makes : List Statement → List Thing → List Judgement → List Made
    → Row → List Made → Type 0
Makes earlier parts premises known (row.Premise k) new =
    (J : Judgement) × (slice_get premises k ≡ Some J) × (new ≡ ANode J ∷ [])
Makes earlier parts premises known (row.Conclude name ps ns) new =
    (J : Judgement) × Concludes known name ps ns J × (new ≡ ANode J ∷ [])
Makes earlier parts premises known (row.Derive k ps ns) new =
    (gives : List Judgement) × FollowsFrom earlier known k ps ns gives × (new ≡ map ANode gives)
Makes earlier parts premises known r new =
    (x : Thing) × (built_by parts known r ≡ Some x) × ThenTakes known r × (new ≡ AThing x ∷ [])

-- the rows make one after another what stands in `whole` behind `known`
abbrev pub Runs : List Statement → List Thing → List Judgement → List Made
    → List Row → List Made → Type 0
Runs earlier parts premises known [] whole = known ≡ whole
Runs earlier parts premises known (r ∷ rows) whole =
    (new : List Made) ×
    (Makes earlier parts premises known r new
    × Runs earlier parts premises (known ++ new) rows whole)

-- at these parts and premises the rows are right, and those named by `outs` conclude this
pub record RunsTo (earlier : List Statement) (parts : List Thing) (premises : List Judgement)
    (rows : List Row) (outs : List ℕ) (conclusions : List Judgement) : Type 0 where
  pub whole : List Made
  pub runs : Runs earlier parts premises [] rows whole
  pub outs_are : meanings (node_at whole) outs ≡ Some conclusions

-- Wherever the statement may stand, the rows derive its conclusions from its premises, and the
-- rows that `outs` names conclude these.
pub record Derives (earlier : List Statement) (s : Statement) (rows : List Row)
    (outs : List ℕ) : Type 0 where
  pub derives : (parts : List Thing) → MayStandAt s parts →
      RunsTo earlier parts (premises_at s parts) rows outs (conclusions_at s parts)
