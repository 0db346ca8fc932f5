-- The walk of a variable through an environment. What is left weighs less after each node, so that no node is passed twice,
-- and each raises the index by one shift at most.
use Rattle.std.proofs.Common.{◌≡◌, ℕ, zero, suc, ◌+◌, ◌*◌, ◌^◌, ◌<◌, ◌≤◌, ◌⊎◌, ⊎_elim, Bool, true, false, cond, List, [], ◌∷◌, ◌++◌, Some, length, get_or, length-append, refl, ◌∙◌, ap, arith}
use Rattle.std.specs.Prelude.{slice_get, nat_le}
use Rattle.std.proofs.lemmas.Bool.{le-leb, lt-leb}
use Rattle.std.proofs.lemmas.Option.{slice_get-get_or}
use Rattle.trees.specs.Things.{Meanings}
use Rattle.rows.specs.Tables.{Grows}
use Rattle.closures.specs.Environments.{Waiting, deepest, listed, IsWithin}
use Rattle.closures.specs.Closures.{variable_meaning, Stands}
use Rattle.closures.specs.Weights.{weight_of}
use Rattle.closures.specs.declared.environments.Environment.{Environment}
use Rattle.closures.specs.declared.environments.Environment.TheVariants as env
use Rattle.rows.proofs.TableLaws.{grows-same, grows-grows}
use Rattle.closures.proofs.EnvironmentLaws.{before}
use Rattle.closures.proofs.WeightLaws.{weight_of-deepened}

-- 1 for a weight of w at most
abbrev pub light : ℕ → ℕ → ℕ
light w m = cond (nat_le m w) 1 0

-- how many lists weigh w at most
abbrev pub light_count : ℕ → List (List Waiting) → ℕ
light_count w [] = 0
light_count w (ws ∷ known) = light w (weight_of ws) + light_count w known

light-one : (w m : ℕ) → m ≤ w → light w m ≡ 1
light-one w m le = ap (λ b. cond b 1 0) (le-leb m w le)

light-none : (w m : ℕ) → w < m → light w m ≡ 0
light-none w m lt = ap (λ b. cond b 1 0) (lt-leb m w lt)

light-most : (w m : ℕ) → light w m ≤ 1
light-most w m = by (nat_le m w)
  where
    by : (b : Bool) → cond b 1 0 ≤ 1
    by true = omega arith
    by false = omega arith

light-rises : (v w m : ℕ) → v ≤ w → light v m ≤ light w m
light-rises v w m le = ⊎_elim (λ (a : m ≤ w). let e = light-one w m a in let b = light-most v m in omega arith) (λ (a : w < m). let e = light-none v m (omega arith) in omega arith) cases
  where
    cases : (m ≤ w) ⊎ (w < m)
    cases = grind arith

pub light_count-most : (w : ℕ) (known : List (List Waiting)) → light_count w known ≤ length known
light_count-most w [] = omega arith
light_count-most w (ws ∷ known) = let a = light-most w (weight_of ws) in let r = light_count-most w known in omega arith

pub light_count-rises : (v w : ℕ) (known : List (List Waiting)) → v ≤ w → light_count v known ≤ light_count w known
light_count-rises v w [] le = omega arith
light_count-rises v w (ws ∷ known) le = let a = light-rises v w (weight_of ws) le in let r = light_count-rises v w known le in omega arith

pub light_count-append : (w : ℕ) (known more : List (List Waiting)) → light_count w (known ++ more) ≡ light_count w known + light_count w more
light_count-append w [] more = omega arith
light_count-append w (ws ∷ known) more = let r = light_count-append w known more in omega arith

pub light_count-here : (w : ℕ) (known : List (List Waiting)) (k : ℕ) (ws : List Waiting) → slice_get known k ≡ Some ws → weight_of ws ≤ w → 1 ≤ light_count w known
light_count-here w [] k ws at le = absurd (cc at)
light_count-here w (us ∷ known) zero ws at le =
    let same : weight_of us ≡ weight_of ws = let e : us ≡ ws = cc at in ap weight_of e in
    let a = light-one w (weight_of us) (omega arith) in
    omega arith
light_count-here w (us ∷ known) (suc k) ws at le = let r = light_count-here w known k ws at le in omega arith

-- a list that weighs more than v, and w at most, is counted at w alone
pub light_count-less : (v w : ℕ) (known : List (List Waiting)) (k : ℕ) (ws : List Waiting) → slice_get known k ≡ Some ws → v < weight_of ws → weight_of ws ≤ w → light_count v known + 1 ≤ light_count w known
light_count-less v w [] k ws at lt le = absurd (cc at)
light_count-less v w (us ∷ known) zero ws at lt le =
    let same : weight_of us ≡ weight_of ws = let e : us ≡ ws = cc at in ap weight_of e in
    let a = light-one w (weight_of us) (omega arith) in
    let b = light-none v (weight_of us) (omega arith) in
    let r = light_count-rises v w known (omega arith) in
    omega arith
light_count-less v w (us ∷ known) (suc k) ws at lt le =
    let a = light-rises v w (weight_of us) (omega arith) in
    let r = light_count-less v w known k ws at lt le in
    omega arith

pub record Looks (f : Meanings) (old : List (List Waiting)) (index0 : ℕ) (env0 : Environment) (new : List (List Waiting)) (index : ℕ) (e : Environment) : Type 0 where
  pub grows : Grows old new
  pub stands : (n : ℕ) → Stands f old n env0 → Stands f new n e
  pub meaning : variable_meaning f (listed new e) index ≡ variable_meaning f (listed old env0) index0
  pub weight : weight_of (listed new e) ≤ weight_of (listed old env0)
  pub room : index + light_count (weight_of (listed new e)) new * deepest ≤ 2 ^ 32 + length new * deepest

pub looks-first : (f : Meanings) (old : List (List Waiting)) (index0 : ℕ) (env0 : Environment) → index0 < 2 ^ 32 → Looks f old index0 env0 old index0 env0
looks-first f old index0 env0 small = record {
  grows = grows-same old;
  stands = λ n h. h;
  meaning = refl;
  weight = omega arith;
  room = let m = light_count-most (weight_of (listed old env0)) old in omega arith;
}

-- the list of the node, which weighs what its environment does
module _ (known : List (List Waiting)) (at lift : ℕ) (within : IsWithin known (env.Node at lift)) where
  node_there : slice_get known at ≡ Some (get_or known at [])
  node_there = slice_get-get_or known at [] (before at (length known) within)

  node_weight : weight_of (listed known (env.Node at lift)) ≡ weight_of (get_or known at [])
  node_weight = weight_of-deepened lift (get_or known at [])

module _ {f : Meanings} {old : List (List Waiting)} {index0 : ℕ} {env0 : Environment} {new : List (List Waiting)} {index at lift : ℕ} (l : Looks f old index0 env0 new index (env.Node at lift)) (within : IsWithin new (env.Node at lift)) where
  pub looks-fits : length new ≤ 2 ^ 64 → index + 2 ^ 64 ≤ 2 ^ 128
  looks-fits few =
      let w = node_weight new at lift within in
      let h = light_count-here (weight_of (listed new (env.Node at lift))) new at _ (node_there new at lift within) (omega arith) in
      let r = l.room in
      omega arith

  pub looks-past : (newer : List (List Waiting)) (next : ℕ) (rest : Environment) → Grows new newer → variable_meaning f (listed newer rest) next ≡ variable_meaning f (listed new (env.Node at lift)) index → ((n : ℕ) → Stands f new n (env.Node at lift) → Stands f newer n rest) → weight_of (listed newer rest) < weight_of (listed new (env.Node at lift)) → next ≤ index + deepest → Looks f old index0 env0 newer next rest
  looks-past newer next rest g meaning stands less near = record {
    grows = grows-grows old new newer l.grows g;
    stands = λ n h. stands n (l.stands n h);
    meaning = meaning ∙ l.meaning;
    weight = let w = l.weight in omega arith;
    room =
        let v = weight_of (listed newer rest) in
        let w = node_weight new at lift within in
        let fewer = light_count-less v (weight_of (listed new (env.Node at lift))) new at _ (node_there new at lift within) (omega arith) (omega arith) in
        let split : light_count v newer ≡ light_count v new + light_count v g.0 = ap (light_count v) g.1 ∙ light_count-append v new g.0 in
        let added = light_count-most v g.0 in
        let size : length newer ≡ length new + length g.0 = ap length g.1 ∙ length-append new g.0 in
        let r = l.room in
        omega arith;
  }
