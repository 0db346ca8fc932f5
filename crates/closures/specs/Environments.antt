-- The lists that nodes of environments stand for.
use Rattle.std.specs.Prelude.{◌≡◌, ℕ, suc, ◌+◌, ◌-◌, ◌^◌, nat_le, Bool, true, ◌&&◌}
use Rattle.std.specs.Prelude.{IsTrue, List, [], ◌∷◌, length, slice_index_or}
use Rattle.rows.specs.Tables.{built}
use Rattle.closures.specs.declared.environments.Delayed.{Delayed}
use Rattle.closures.specs.declared.environments.Node.{Node}
use Rattle.closures.specs.declared.environments.Environment.{Environment}
use Rattle.closures.specs.declared.environments.Environment.TheVariants as env

-- what waits, and under how many binders
pub record Waiting : Type 0 where
  pub depth : ℕ
  pub delayed : Delayed

abbrev pub waiting : ℕ → Delayed → Waiting
waiting n delayed = record { depth = n; delayed = delayed }

-- the most binders that an environment counts
abbrev pub deepest : ℕ
deepest = 2 ^ 64 - 1

-- the same under b more binders
abbrev pub deepened : ℕ → List Waiting → List Waiting
deepened b [] = []
deepened b (w ∷ ws) = waiting (w.depth + b) w.delayed ∷ deepened b ws

-- the list of an environment over nodes that stand for these lists
abbrev pub listed : List (List Waiting) → Environment → List Waiting
listed known env.Empty = []
listed known (env.Node at lift) = deepened lift (slice_index_or known at [])

-- the list of a node
abbrev pub node_list : List (List Waiting) → Node → List Waiting
node_list known node = waiting 0 node.delayed ∷ listed known node.rest

abbrev pub lists_of : List Node → List (List Waiting)
lists_of = built node_list

-- the environment is empty or names one of the first n nodes
abbrev pub is_before : ℕ → Environment → Bool
is_before n env.Empty = true
is_before n (env.Node at lift) = nat_le (suc at) n

abbrev pub IsWithin : List (List Waiting) → Environment → Type 0
IsWithin known environment = IsTrue (is_before (length known) environment)

-- each node, from the n-th on, names nodes before it
abbrev pub all_earlier_from : ℕ → List Node → Bool
all_earlier_from n [] = true
all_earlier_from n (node ∷ nodes) = is_before n node.rest && all_earlier_from (suc n) nodes

abbrev pub AllEarlier : List Node → Type 0
AllEarlier nodes = all_earlier_from 0 nodes ≡ true
