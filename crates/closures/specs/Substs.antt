-- What a substitution means before others that wait, and its head.
use Rattle.std.specs.Prelude.{◌≡◌, ℕ, List, [], ◌∷◌, map, Option, Some, None, slice_get}
use Rattle.std.specs.List.{All}
use Rattle.trees.specs.Trees.{Subst, then, shift_by}
use Rattle.trees.specs.Things.{Thing, ASubst, Meanings, both, pushed_on}
use Rattle.substitution.specs.Shifts.{then_all}
use Rattle.rows.specs.declared.views.SubId.{SubId}
use Rattle.rows.specs.Views.{IsSubst}
use Rattle.closures.specs.Environments.{Waiting, waiting, listed, IsWithin}
use Rattle.closures.specs.Closures.{closure_meaning, delayed_subst, IsClosure}
use Rattle.closures.specs.declared.environments.Delayed.TheVariants.{Under}
use Rattle.closures.specs.declared.environments.Environment.{Environment}
use Rattle.closures.specs.declared.substs.SubstClosure.{SubstClosure}
use Rattle.closures.specs.declared.substs.SubstHead.{SubstHead}
use Rattle.closures.specs.declared.substs.SubstHead.TheVariants.{Shift, Push}

-- a thing and then the substitutions that wait, where it is a substitution
abbrev pub followed_by : Option Thing → List Subst → Option Thing
followed_by (Some (ASubst d)) ds = Some (ASubst (then d (then_all ds)))
followed_by _ ds = None

abbrev pub waiting_substs : Meanings → List Waiting → List Subst
waiting_substs f ws = map (λ w. delayed_subst f w.delayed) ws

abbrev pub subst_closure_meaning : Meanings → List (List Waiting) → SubstClosure → Option Thing
subst_closure_meaning f known c =
    followed_by (f c.row.0) (waiting_substs f (listed known c.environment))

abbrev pub subst_head_meaning : Meanings → List (List Waiting) → SubstHead → Option Thing
subst_head_meaning f known (Shift n) = Some (ASubst (shift_by n))
subst_head_meaning f known (Push rest c) =
    both pushed_on (subst_closure_meaning f known rest) (closure_meaning f known c)

-- the substitution of a row waits, under no binder
pub record IsPlain (w : Waiting) : Type 0 where
  pub here : w.depth ≡ 0
  pub row : SubId
  pub under : w.delayed ≡ Under row

-- the row of each that waits is that of a substitution, under no binder
pub record IsPlainSubst (f : Meanings) (w : Waiting) : Type 0 where
  pub plain : IsPlain w
  pub subst : IsSubst (f plain.row.0)

pub record IsSubstClosure (f : Meanings) (known : List (List Waiting)) (c : SubstClosure) :
    Type 0 where
  pub row : IsSubst (f c.row.0)
  pub within : IsWithin known c.environment
  pub plain : All (IsPlainSubst f) (listed known c.environment)

abbrev pub SubstHeadStands : Meanings → List (List Waiting) → SubstHead → Type 0
SubstHeadStands f known (Shift n) = Unit {0}
SubstHeadStands f known (Push rest c) = IsSubstClosure f known rest × IsClosure f known 0 c

-- the substitution that waits first, and what waits after it
pub record WaitsFirst (known : List (List Waiting)) (environment : Environment)
    (row : SubId) (rest : Environment) : Type 0 where
  pub list : listed known environment ≡ waiting 0 (Under row) ∷ listed known rest
  pub node : ℕ
  pub there : slice_get known node ≡ Some (waiting 0 (Under row) ∷ listed known rest)
  pub within : IsWithin known rest

abbrev pub IsFirst : List (List Waiting) → Environment → Option (SubId × Environment) → Type 0
IsFirst known environment None = listed known environment ≡ []
IsFirst known environment (Some first) = WaitsFirst known environment first.0 first.1
