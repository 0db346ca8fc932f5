-- What closures and their heads mean, and when they mean something.
use Rattle.std.specs.Prelude.{◌≡◌, ℕ, zero, suc, ◌+◌, ◌-◌, ◌^◌, ◌<◌, ◌≤◌, ◌⊎◌, List}
use Rattle.std.specs.Prelude.{[], ◌∷◌, Option, Some, None, map, option_and_then}
use Rattle.std.specs.List.{All}
use Rattle.trees.specs.declared.op.Op.{Op}
use Rattle.trees.specs.Operators.{binds_of}
use Rattle.trees.specs.Trees.{Subst, Var, shift_by, id, count_of}
use Rattle.trees.specs.Things.{Thing, ATree, ASubst, Meanings, both, consed, made}
use Rattle.substitution.specs.Delayed.{Delayed as UnderBinders, at_depth, closed}
use Rattle.rows.specs.Views.{IsTree, IsSubst}
use Rattle.closures.specs.Environments.{Waiting, waiting, deepened, listed, IsWithin, deepest}
use Rattle.closures.specs.declared.environments.Delayed.{Delayed}
use Rattle.closures.specs.declared.environments.Delayed.TheVariants.{Under, Raised}
use Rattle.closures.specs.declared.environments.Environment.{Environment}
use Rattle.closures.specs.declared.closure.Closure.{Closure}
use Rattle.closures.specs.declared.variables.Found.{Found}
use Rattle.closures.specs.declared.variables.Found.TheVariants as found
use Rattle.closures.specs.declared.variables.Entered.{Entered}
use Rattle.closures.specs.declared.variables.Entered.TheVariants as entered
use Rattle.closures.specs.declared.heads.Head.{Head}
use Rattle.closures.specs.declared.heads.Head.TheVariants as head

-- the substitution that a thing is
abbrev pub subst_of : Option Thing → Subst
subst_of (Some (ASubst d)) = d
subst_of _ = id

-- the substitution that waits
abbrev pub delayed_subst : Meanings → Delayed → Subst
delayed_subst f (Under row) = subst_of (f row.0)
delayed_subst f (Raised n) = shift_by n

abbrev pub delays : Meanings → List Waiting → List UnderBinders
delays f ws = map (λ w. at_depth w.depth (delayed_subst f w.delayed)) ws

-- a thing under substitutions that wait, where it is a tree
abbrev pub under : Option Thing → List UnderBinders → Option Thing
under (Some (ATree t)) env = Some (ATree (closed t env))
under _ env = None

-- what a closure means: its row's tree under what waits
abbrev pub closure_meaning : Meanings → List (List Waiting) → Closure → Option Thing
closure_meaning f known c = under (f c.row.0) (delays f (listed known c.environment))

-- a variable under what waits
abbrev pub variable_meaning : Meanings → List Waiting → ℕ → Option Thing
variable_meaning f ws k = Some (ATree (closed (Var k) (delays f ws)))

-- what a variable becomes
abbrev pub found_meaning : Meanings → List (List Waiting) → Found → Option Thing
found_meaning f known (found.Index k) = Some (ATree (Var k))
found_meaning f known (found.Tree c) = closure_meaning f known c

-- what a variable becomes that has met one substitution
abbrev pub entered_meaning : Meanings → List (List Waiting) → Entered → Option Thing
entered_meaning f known (entered.Past k environment) =
    variable_meaning f (listed known environment) k
entered_meaning f known (entered.Tree c) = closure_meaning f known c

-- what each kid of an operator means, from the kid `at` on, each under its binders
abbrev pub kid_things : Meanings → List Waiting → Op → ℕ → List ℕ → List (Option Thing)
kid_things f ws op at [] = []
kid_things f ws op at (k ∷ ks) =
    under (f k) (delays f (deepened (binds_of op at) ws)) ∷ kid_things f ws op (suc at) ks

-- all of them, where each is there
abbrev pub all_there : {A : Type 0} → List (Option A) → Option (List A)
all_there [] = Some []
all_there (o ∷ os) = both consed o (all_there os)

-- what a head says of a closure: a variable, or an operator over the closures of its kids
abbrev pub head_meaning : Meanings → List (List Waiting) → Head → Option Thing
head_meaning f known (head.Var k) = Some (ATree (Var k))
head_meaning f known (head.Make op kids environment) =
    option_and_then (made op) (all_there (kid_things f (listed known environment) op 0 kids.now))

-- the row of what waits is that of a substitution
abbrev pub IsDelayed : Meanings → Delayed → Type 0
IsDelayed f (Under row) = IsSubst (f row.0)
IsDelayed f (Raised n) = Unit {0}

-- the environment names nodes, substitutions wait there, and none waits under more than n binders
pub record Stands (f : Meanings) (known : List (List Waiting)) (n : ℕ) (environment : Environment) :
    Type 0 where
  pub within : IsWithin known environment
  pub substs : All (λ w. IsDelayed f w.delayed) (listed known environment)
  pub shallow : All (λ w. w.depth ≤ n) (listed known environment)

-- the same of an environment that waits under `lift` more binders, of which there are at most n
pub record StandsUnder (f : Meanings) (known : List (List Waiting))
    (n lift : ℕ) (after : Environment) : Type 0 where
  pub below : lift ≤ n
  pub within : IsWithin known after
  pub substs : All (λ w. IsDelayed f w.delayed) (listed known after)
  pub shallow : All (λ w. w.depth + lift ≤ n) (listed known after)

-- the row is that of a tree, under such an environment
pub record IsClosure (f : Meanings) (known : List (List Waiting)) (n : ℕ) (c : Closure) :
    Type 0 where
  pub row : IsTree (f c.row.0)
  pub environment : Stands f known n c.environment

-- The index past all the trees that a substitution pushes, under `lift` binders, if a variable
-- passes them. Where there are 2^64 trees and more it may be that none is told.
abbrev pub IsPassed : Option Thing → ℕ → ℕ → Option ℕ → Type 0
IsPassed (Some (ASubst d)) lift index (Some past) =
    (lift + count_of d.pushed ≤ index) ×
    (past ≡ index - count_of d.pushed + d.shift) × (d.shift ≤ deepest)
IsPassed (Some (ASubst d)) lift index None =
    (index < lift + count_of d.pushed) ⊎ (2 ^ 64 ≤ count_of d.pushed)
IsPassed _ lift index past = ⊥

-- the index grew by one shift at most
abbrev pub IsNear : ℕ → Entered → Type 0
IsNear index (entered.Past k environment) = k ≤ index + deepest
IsNear index (entered.Tree c) = Unit {0}

-- what waits before lifted trees
abbrev pub raised_list : ℕ → List Waiting → List Waiting
raised_list zero ws = ws
raised_list (suc n) ws = waiting 0 (Raised (suc n)) ∷ ws

abbrev pub FoundStands : Meanings → List (List Waiting) → ℕ → Found → Type 0
FoundStands f known n (found.Index k) = Unit {0}
FoundStands f known n (found.Tree c) = IsClosure f known n c

abbrev pub EnteredStands : Meanings → List (List Waiting) → ℕ → Entered → Type 0
EnteredStands f known n (entered.Past k environment) = Stands f known n environment
EnteredStands f known n (entered.Tree c) = IsClosure f known n c

abbrev pub HeadStands : Meanings → List (List Waiting) → ℕ → Head → Type 0
HeadStands f known n (head.Var k) = Unit {0}
HeadStands f known n (head.Make op kids environment) = Stands f known n environment
