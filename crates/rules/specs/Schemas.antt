-- What the programs of a rule say.
use Rattle.std.specs.Prelude.{◌≡◌, ◌==◌, ◌&&◌, ◌||◌, not, Bool, true, ℕ, zero, suc}
use Rattle.std.specs.Prelude.{nat_le, nat_lt, List}
use Rattle.std.specs.Prelude.{[], ◌∷◌, Option, Some, map, length, option_and_then}
use Rattle.std.specs.List.{list_all, list_any}
use Rattle.theory.specs.declared.rule.RuleName.{RuleName}
use Rattle.theory.specs.declared.rule.RuleName.TheVariants.{Composition}
use Rattle.theory.specs.declared.rule.CompRule.TheVariants.{CompPi, CompSig, CompPath, CompGlue}
use Rattle.theory.specs.declared.rule.CompRule.TheVariants.{CompU}
use Rattle.theory.specs.RuleNames.{premises_of}
use Rattle.trees.specs.declared.claim.JudgementForm.{JudgementForm}
use Rattle.trees.specs.declared.claim.JudgementForm.TheVariants as form
use Rattle.trees.specs.Trees.{Tree}
use Rattle.trees.specs.Judgements.{Judgement, SideCondition, TreeRule}
use Rattle.trees.specs.Things.{Thing, ATree}
use Rattle.trees.specs.Claimed.{said}
use Rattle.conditions.specs.SideTests.{formula_over, face_over, holds_over, alike_over}
use Rattle.rules.specs.Rules.{AtAllCases}
use Rattle.rules.specs.Run.{thing_of, things_of, rows_in, rows_of_all, is_then}
use Rattle.rules.specs.Run.{then_takes, left, rank_in}
use Rattle.rules.specs.declared.derived.Derived.{Derived}
use Rattle.rules.specs.declared.derived.Derived.TheVariants.{Fill}
use Rattle.rules.specs.DerivedTrees.{TreeOver, arity_of, derived, rank_of, rows_of}
use Rattle.rules.specs.declared.instruction.Instruction.{Instruction}
use Rattle.rules.specs.declared.program.Program.{Program}
use Rattle.rules.specs.declared.program.Program.TheVariants as program
use Rattle.rules.specs.declared.program.Test.{Test}
use Rattle.rules.specs.declared.program.Test.TheVariants as test
use Rattle.rules.specs.declared.program.Schema.{Schema}

-- the form and the places of a judgement that is made

abbrev pub form_of : Program → JudgementForm
form_of (program.Ctx G) = form.Ctx
form_of (program.Ty G A) = form.Ty
form_of (program.TyEq G A B) = form.TyEq
form_of (program.Tm G a A) = form.Tm
form_of (program.TmEq G a b A) = form.TmEq
form_of (program.Sb H d G) = form.Sb

abbrev pub places_of : Program → List (List Instruction)
places_of (program.Ctx G) = G.now ∷ []
places_of (program.Ty G A) = G.now ∷ A.now ∷ []
places_of (program.TyEq G A B) = G.now ∷ A.now ∷ B.now ∷ []
places_of (program.Tm G a A) = G.now ∷ a.now ∷ A.now ∷ []
places_of (program.TmEq G a b A) = G.now ∷ a.now ∷ b.now ∷ A.now ∷ []
places_of (program.Sb H d G) = H.now ∷ d.now ∷ G.now ∷ []

abbrev pub judgement_of : Option (List Thing) → Program → Option Judgement
judgement_of parts p = said (form_of p) (things_of parts (places_of p))

-- the same of side conditions

abbrev pub condition_over : Test → List Thing → Option SideCondition
condition_over (test.IsFormula G r) = formula_over
condition_over (test.IsFace G p) = face_over
condition_over (test.Holds G p) = holds_over
condition_over (test.Alike G d e) = alike_over

abbrev pub test_places : Test → List (List Instruction)
test_places (test.IsFormula G r) = G.now ∷ r.now ∷ []
test_places (test.IsFace G p) = G.now ∷ p.now ∷ []
test_places (test.Holds G p) = G.now ∷ p.now ∷ []
test_places (test.Alike G d e) = G.now ∷ d.now ∷ e.now ∷ []

abbrev pub condition_of : Option (List Thing) → Test → Option SideCondition
condition_of parts t = option_and_then (condition_over t) (things_of parts (test_places t))

-- at these parts the programs say what the rule does
abbrev pub Says : Schema → List Thing → TreeRule → Type 0
Says s parts r =
    (map (judgement_of (Some parts)) s.wants.now ≡ map Some r.wants)
    × (map (condition_of (Some parts)) s.sides.now ≡ map Some r.sides)
    × (judgement_of (Some parts) s.gives ≡ Some r.gives)

-- Programs within bounds.

-- how many rows the conclusion of a rule takes at most, with the row of its node
abbrev pub most_rows : RuleName → ℕ
most_rows (Composition CompPi) = 2048
most_rows (Composition CompSig) = 2048
most_rows (Composition CompPath) = 2048
most_rows (Composition CompGlue) = 2048
most_rows (Composition CompU) = 2048
most_rows rule = 16

-- how many rows a premise or a side condition takes at most
abbrev pub most_wanted : ℕ
most_wanted = 64

-- what the instructions make stands on a short stack
abbrev pub is_shallow : List Instruction → Bool
is_shallow [] = true
is_shallow (instruction ∷ rest) = nat_le (left (instruction ∷ rest)) 16 && is_shallow rest

-- each `then` takes what it may
abbrev pub thens_fit : List Instruction → Bool
thens_fit [] = true
thens_fit (instruction ∷ rest) = (not (is_then instruction) || then_takes rest) && thens_fit rest

abbrev pub has_then : List Instruction → Bool
has_then = list_any is_then

abbrev pub fits : List Instruction → Bool
fits place = is_shallow place && thens_fit place

abbrev pub all_fit : ℕ → List (List Instruction) → Bool
all_fit most places = list_all fits places && nat_lt (rows_of_all places) most

-- without `then`
abbrev pub plain_fit : ℕ → List (List Instruction) → Bool
plain_fit most places = all_fit most places && not (list_any has_then places)

abbrev pub is_bounded : RuleName → Schema → Bool
is_bounded name s =
    length s.wants.now == premises_of name
    && list_all (λ p. plain_fit most_wanted (places_of p)) s.wants.now
    && list_all (λ t. plain_fit most_wanted (test_places t)) s.sides.now
    && all_fit (most_rows name) (places_of s.gives)

-- the programs are those of the rule, and within its bounds
abbrev pub Means : RuleName → Schema → Type 0
Means name s = AtAllCases name (Says s) × (is_bounded name s ≡ true)

-- Programs of derived trees.

-- P holds of all trees of that number and of the tree over them
abbrev pub AtAllTrees : (n : ℕ) → TreeOver n → (List Thing → Tree → Type 0) → Type 0
AtAllTrees zero t P = P [] t
AtAllTrees (suc n) f P = (t : Tree) → AtAllTrees n (f t) (λ xs u. P (ATree t ∷ xs) u)

-- at all trees the program makes the derived tree
abbrev pub MakesTree : Derived → List Instruction → Type 0
MakesTree d place =
    AtAllTrees (arity_of d) (derived d) (λ xs t. thing_of (Some xs) place ≡ Some (ATree t))

-- it stands on a short stack, has no `then`, makes so many rows and calls lower ranks alone
abbrev pub is_program : Derived → List Instruction → Bool
is_program d place =
    fits place
    && not (has_then place)
    && rows_in place == rows_of d
    && nat_le (rank_in place) (rank_of d)

-- The same by cases, so that it computes as soon as the tree is known.
abbrev pub Makes : Derived → List Instruction → Type 0
Makes Fill place = MakesTree Fill place × (is_program Fill place ≡ true)
Makes d place = MakesTree d place × (is_program d place ≡ true)
