-- What rows in memory mean, and how their kids and substitutions stand beside them.
use Rattle.std.specs.Prelude.{◌≡◌, ℕ, List, [], ◌∷◌, length, take, drop, slice_get, sum_by}
use Rattle.std.specs.Prelude.{Option, Some, None, IsSome, unwrap_or, option_and_then}
use Rattle.std.specs.Prelude.{Bool, true, false, IsTrue}
use Rattle.trees.specs.declared.op.Op.{Op}
use Rattle.trees.specs.Operators.{kids_of}
use Rattle.trees.specs.Trees.{Subst, Var, shift_by, count_of}
use Rattle.trees.specs.Judgements.{Nil}
use Rattle.trees.specs.declared.kind.PartKind.{PartKind}
use Rattle.trees.specs.declared.kind.PartKind.TheVariants as part
use Rattle.trees.specs.Things.{Thing, ATree, ASubst, AContext, Meanings, both, meanings, made}
use Rattle.trees.specs.Things.{instance_of, pushed_on, then_of, with_variable, with_a_name}
use Rattle.trees.specs.Things.{with_a_face}
use Rattle.rows.specs.Tables.{built}
use Rattle.rows.specs.Counts.{is_count_held}
use Rattle.rows.specs.declared.held.Held.{Held}
use Rattle.rows.specs.declared.held.Held.TheVariants as held
use Rattle.rows.specs.declared.held.HeldSub.{HeldSub}
use Rattle.rows.specs.declared.held.HeldSubRow.{HeldSubRow}
use Rattle.rows.specs.declared.held.HeldSubRow.TheVariants as heldsub
use Rattle.rows.specs.declared.held.HeldSize.{HeldSize}

-- the kids of an operator that stand from this place on
abbrev pub kids_at : List ℕ → ℕ → ℕ → List ℕ
kids_at kids count at = take count (drop at kids)

-- what a substitution means as it is held, and the rows that it names
abbrev pub held_row_meaning : Meanings → HeldSubRow → Option Thing
held_row_meaning f (heldsub.Shift n) = Some (ASubst (shift_by n))
held_row_meaning f (heldsub.Push d a) = both pushed_on (f d) (f a)
held_row_meaning f (heldsub.Then d e) = both then_of (f d) (f e)

abbrev pub held_row_names : HeldSubRow → List ℕ
held_row_names (heldsub.Shift n) = []
held_row_names (heldsub.Push d a) = d ∷ a ∷ []
held_row_names (heldsub.Then d e) = d ∷ e ∷ []

abbrev pub held_sub_meaning : Meanings → Option HeldSub → Option Thing
held_sub_meaning f None = None
held_sub_meaning f (Some s) = held_row_meaning f s.row

-- what a row means, over these kids and substitutions
abbrev pub held_meaning : Meanings → List ℕ → List HeldSub → Held → Option Thing
held_meaning f kids subs (held.Var k) = Some (ATree (Var k))
held_meaning f kids subs (held.Make op at) =
    option_and_then (made op) (meanings f (kids_at kids (kids_of op) at))
held_meaning f kids subs (held.Instance t d) = both instance_of (f t) (f d)
held_meaning f kids subs (held.Subst at) = held_sub_meaning f (slice_get subs at)
held_meaning f kids subs held.CtxNil = Some (AContext Nil)
held_meaning f kids subs (held.CtxVar G A) = both with_variable (f G) (f A)
held_meaning f kids subs (held.CtxName G) = option_and_then with_a_name (f G)
held_meaning f kids subs (held.CtxFace G p) = both with_a_face (f G) (f p)

abbrev pub kind_held : Held → PartKind
kind_held (held.Var k) = part.Term
kind_held (held.Make op at) = part.Term
kind_held (held.Instance t d) = part.Term
kind_held (held.Subst at) = part.Subst
kind_held held.CtxNil = part.Context
kind_held (held.CtxVar G A) = part.Context
kind_held (held.CtxName G) = part.Context
kind_held (held.CtxFace G p) = part.Context

-- what a row means after rows that mean these things, with some thing where it means none
abbrev pub thing_of : List ℕ → List HeldSub → List Thing → Held → Thing
thing_of kids subs known r = unwrap_or (held_meaning (slice_get known) kids subs r) (AContext Nil)

abbrev pub things_of : List Held → List ℕ → List HeldSub → List Thing
things_of rows kids subs = built (thing_of kids subs) rows

-- how many kids, and how many substitutions, a row holds beside it
abbrev pub kid_cells : Held → ℕ
kid_cells (held.Make op at) = kids_of op
kid_cells _ = 0

abbrev pub sub_cells : Held → ℕ
sub_cells (held.Subst at) = 1
sub_cells _ = 0

abbrev pub kids_held : List Held → ℕ
kids_held rows = sum_by kid_cells rows

abbrev pub subs_held : List Held → ℕ
subs_held rows = sum_by sub_cells rows

-- the size of a substitution at this row
pub record IsHeldSize (row : ℕ) (d : Subst) (size : HeldSize) : Type 0 where
  pub count : IsTrue (is_count_held row (count_of d.pushed) size.pushed)
  pub shift : d.shift ≡ size.shift

abbrev pub IsSizeAt : ℕ → Option Thing → HeldSize → Type 0
IsSizeAt row (Some (ASubst d)) size = IsHeldSize row d size
IsSizeAt row _ size = ⊥

-- a row that holds nothing beside it
abbrev pub is_alone : Held → Bool
is_alone (held.Make op at) = false
is_alone (held.Subst at) = false
is_alone _ = true

-- Each row means something, its kids and its substitution follow those of earlier rows, and sizes
-- are held right.
pub record AreHeld (rows : List Held) (kids : List ℕ) (subs : List HeldSub) : Type 0 where
  pub mean : (k : ℕ) (r : Held) → slice_get rows k ≡ Some r
      → IsSome (held_meaning (slice_get (take k (things_of rows kids subs))) kids subs r)
  pub kids_full : length kids ≡ kids_held rows
  pub subs_full : length subs ≡ subs_held rows
  pub kids_placed : (k : ℕ) (op : Op) (at : ℕ) →
      slice_get rows k ≡ Some (held.Make op at) → at ≡ kids_held (take k rows)
  pub subs_placed : (k at : ℕ) → slice_get rows k ≡ Some (held.Subst at) →
      at ≡ subs_held (take k rows)
  pub sized : (k at : ℕ) (s : HeldSub) (d : Subst) →
      slice_get rows k ≡ Some (held.Subst at) → slice_get subs at ≡ Some s
      → slice_get (things_of rows kids subs) k ≡ Some (ASubst d) → IsHeldSize k d s.size
