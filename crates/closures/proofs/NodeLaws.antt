-- What a variable becomes that meets what waits at a node.
use Rattle.std.proofs.Common.{◌≡◌, ℕ, ◌+◌, ◌<◌, ◌≤◌, List, [], ◌∷◌, sym, ◌∙◌, ap, arith}
use Rattle.std.specs.List.{All}
use Rattle.std.proofs.lemmas.List.Elements.{All-nil, All-cons, All-head, All-tail, All-same}
use Rattle.std.proofs.lemmas.Option.{get_or_from_slice_get}
use Rattle.trees.specs.Things.{Meanings}
use Rattle.rows.specs.declared.views.SubId.{SubId}
use Rattle.closures.specs.Environments.{Waiting, waiting, deepened, listed, node_list, IsWithin}
use Rattle.closures.specs.Closures.{variable_meaning, IsDelayed, Stands, StandsUnder}
use Rattle.closures.specs.Weights.{delayed_weight, weight_of}
use Rattle.closures.specs.declared.environments.Delayed.TheVariants.{Under, Raised}
use Rattle.closures.specs.declared.environments.Node.{Node}
use Rattle.closures.specs.declared.environments.Environment.{Environment}
use Rattle.closures.specs.declared.environments.Environment.TheVariants as env
use Rattle.closures.proofs.EnvironmentLaws.{AtNode}
use Rattle.closures.proofs.WeightLaws.{delayed_weight-pos, weight_of-deepened}
use Rattle.closures.proofs.VariableLaws.{FitsUnder, DelayedStands, step-below, step-raised, stands-past}

-- what holds of all under more binders holds of all
All-undeepened : (P Q : Waiting → Type 0) (b : ℕ) → ((w : Waiting) → Q (waiting (w.depth + b) w.delayed) → P w) → (ws : List Waiting) → All Q (deepened b ws) → All P ws
All-undeepened P Q b h [] all = All-nil P
All-undeepened P Q b h (w ∷ ws) all =
    All-cons P w ws
    (h w (All-head Q (waiting (w.depth + b) w.delayed) (deepened b ws) all))
    (All-undeepened P Q b h ws (All-tail Q (waiting (w.depth + b) w.delayed) (deepened b ws) all))

module _ {known : List (List Waiting)} {at : ℕ} {node : Node} (here : AtNode known at node) (lift : ℕ) where
  -- what waits at the node comes first
  pub listed-node : listed known (env.Node at lift) ≡ waiting lift node.delayed ∷ deepened lift (listed known node.rest)
  listed-node =
      ap (deepened lift) (get_or_from_slice_get known at (node_list known node) [] here.list)
      ∙ ap (λ n. waiting n node.delayed ∷ deepened lift (listed known node.rest)) (let e : 0 + lift ≡ lift = omega arith in e)

  pub weight_of-node : weight_of (listed known (env.Node at lift)) ≡ delayed_weight node.delayed + weight_of (listed known node.rest)
  weight_of-node = ap weight_of listed-node ∙ ap (λ n. delayed_weight node.delayed + n) (weight_of-deepened lift (listed known node.rest))

  module _ (f : Meanings) (n : ℕ) (s : Stands f known n (env.Node at lift)) where
    substs : All (DelayedStands f) (waiting lift node.delayed ∷ deepened lift (listed known node.rest))
    substs = All-same (DelayedStands f) _ _ (sym listed-node) s.substs

    shallow : All (FitsUnder n) (waiting lift node.delayed ∷ deepened lift (listed known node.rest))
    shallow = All-same (FitsUnder n) _ _ (sym listed-node) s.shallow

    pub is_delayed-node : IsDelayed f node.delayed
    is_delayed-node = All-head (DelayedStands f) (waiting lift node.delayed) _ substs

    pub stands-node : StandsUnder f known n lift node.rest
    stands-node = record {
      below = All-head (FitsUnder n) (waiting lift node.delayed) _ shallow;
      within = here.within;
      substs = All-undeepened (DelayedStands f) (DelayedStands f) lift (λ w h. h) (listed known node.rest) (All-tail (DelayedStands f) (waiting lift node.delayed) _ substs);
      shallow = All-undeepened (λ w. w.depth + lift ≤ n) (FitsUnder n) lift (λ w h. h) (listed known node.rest) (All-tail (FitsUnder n) (waiting lift node.delayed) _ shallow);
    }

  -- past what waits at the node
  module _ (past : Environment) (list : listed known past ≡ deepened lift (listed known node.rest)) where
    pub meaning-below : (f : Meanings) (k : ℕ) → k < lift → variable_meaning f (listed known past) k ≡ variable_meaning f (listed known (env.Node at lift)) k
    meaning-below f k lt =
        ap (λ ws. variable_meaning f ws k) list
        ∙ sym (step-below f (waiting lift node.delayed) (deepened lift (listed known node.rest)) k lt)
        ∙ ap (λ ws. variable_meaning f ws k) (sym listed-node)

    pub meaning-raised : (f : Meanings) (k by : ℕ) → lift ≤ k → node.delayed ≡ Raised by → variable_meaning f (listed known past) (k + by) ≡ variable_meaning f (listed known (env.Node at lift)) k
    meaning-raised f k by le is =
        ap (λ ws. variable_meaning f ws (k + by)) list
        ∙ sym (step-raised f lift by k (deepened lift (listed known node.rest)) le)
        ∙ ap (λ s. variable_meaning f (waiting lift s ∷ deepened lift (listed known node.rest)) k) (sym is)
        ∙ ap (λ ws. variable_meaning f ws k) (sym listed-node)

    pub weight-past : weight_of (listed known past) < weight_of (listed known (env.Node at lift))
    weight-past =
        let e = weight_of-node in
        let p = delayed_weight-pos node.delayed in
        let l : weight_of (listed known past) ≡ weight_of (listed known node.rest) = ap weight_of list ∙ weight_of-deepened lift (listed known node.rest) in
        omega arith

    pub stands-past_node : IsWithin known past → (f : Meanings) (n : ℕ) → Stands f known n (env.Node at lift) → Stands f known n past
    stands-past_node within f n s = stands-past f known n lift node.rest past (stands-node f n s) list within

  -- the substitution of a row waits at the node
  pub meaning-under : (f : Meanings) (row : SubId) (k : ℕ) → node.delayed ≡ Under row → variable_meaning f (waiting lift (Under row) ∷ deepened lift (listed known node.rest)) k ≡ variable_meaning f (listed known (env.Node at lift)) k
  meaning-under f row k is =
      ap (λ s. variable_meaning f (waiting lift s ∷ deepened lift (listed known node.rest)) k) (sym is)
      ∙ ap (λ ws. variable_meaning f ws k) (sym listed-node)
