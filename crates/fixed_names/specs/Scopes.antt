-- What the scopes fix that nodes stand for.
use Rattle.std.specs.Prelude.{◌≡◌, ℕ, zero, suc, ◌&&◌, Bool, true, IsTrue, nat_le, List, [], ◌∷◌}
use Rattle.std.specs.Prelude.{length, slice_index_or}
use Rattle.rows.specs.Tables.{built}
use Rattle.fixed_names.specs.Fixed.{Fixed, none_fixed, fix, bound}
use Rattle.fixed_names.specs.declared.scopes.Fixing.{Fixing}
use Rattle.fixed_names.specs.declared.scopes.Scope.{Scope}
use Rattle.fixed_names.specs.declared.scopes.Scope.TheVariants as scope

-- over nodes that fix these
abbrev pub fixed_in : List Fixed → Scope → Fixed
fixed_in known scope.Open = none_fixed
fixed_in known (scope.Node at depth) = bound depth (slice_index_or known at none_fixed)

abbrev pub fixed_at : List Fixed → Fixing → Fixed
fixed_at known node = fix node.index (fixed_in known node.outer)

abbrev pub all_fixed : List Fixing → List Fixed
all_fixed = built fixed_at

-- the scope is open or names one of the first n nodes
abbrev pub is_before : ℕ → Scope → Bool
is_before n scope.Open = true
is_before n (scope.Node at depth) = nat_le (suc at) n

abbrev pub IsWithin : List Fixed → Scope → Type 0
IsWithin known s = IsTrue (is_before (length known) s)

-- below how many binders
abbrev pub depth_of : Scope → ℕ
depth_of scope.Open = zero
depth_of (scope.Node at depth) = depth

-- one more than the number of the node
abbrev pub rank : Scope → ℕ
rank scope.Open = zero
rank (scope.Node at depth) = suc at

-- each node, from the n-th on, names nodes before it
abbrev pub all_earlier_from : ℕ → List Fixing → Bool
all_earlier_from n [] = true
all_earlier_from n (node ∷ nodes) = is_before n node.outer && all_earlier_from (suc n) nodes

abbrev pub AllEarlier : List Fixing → Type 0
AllEarlier nodes = all_earlier_from 0 nodes ≡ true
