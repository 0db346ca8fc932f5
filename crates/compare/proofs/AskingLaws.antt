-- A comparison on its way: what was asked so far, and what is left to ask.
use Rattle.std.proofs.Common.{◌≡◌, List, [], ◌++◌, sym, ◌∙◌, ap, append_assoc}
use Rattle.std.specs.List.{All, Contains}
use Rattle.std.proofs.lemmas.List.{append-nil}
use Rattle.std.proofs.lemmas.List.Elements.{All-nil, All-append, All-contains, Contains-append_left, Contains-append_right}
use Rattle.trees.specs.Things.{Meanings}
use Rattle.rows.specs.Tables.{Grows}
use Rattle.closures.specs.Environments.{Waiting}
use Rattle.compare.specs.Pairs.{Agrees, Asks, IsPair}
use Rattle.compare.specs.declared.pairs.Pair.{Pair}
use Rattle.compare.proofs.StandLaws.{is_pair-grows, SamePair, same_pair}
use Rattle.compare.proofs.WalkLaws.{All-from_each}

-- the goal holds exactly where what is left does and the pairs asked for agree, beside those that were there
pub record Asking (f : Meanings) (known : List (List Waiting)) (goal left : Type 0) (old new : List Pair) : Type 0 where
  pub more : List Pair
  pub grown : new ≡ old ++ more
  pub stand : All (IsPair f known 0) more
  pub split : goal → left × All (Agrees f known) more
  pub join : left → All (Agrees f known) new → goal

-- an All of the items that stand in another list
All-within : {P : Type 0} (Q : P → Type 0) (some all : List P) → ((p : P) → Contains some p → Contains all p) → All Q all → All Q some
All-within Q some all within holds = All-from_each Q some (λ p c. All-contains Q all p holds (within p c))

in-mid : (mid more new : List Pair) → new ≡ mid ++ more → (p : Pair) → Contains mid p → Contains new p
in-mid mid more new grown p c = rw grown (Contains-append_left mid more p c)

after : (mid more new : List Pair) → new ≡ mid ++ more → (p : Pair) → Contains more p → Contains new p
after mid more new grown p c = rw grown (Contains-append_right mid more p c)

module _ (f : Meanings) (known : List (List Waiting)) (goal left : Type 0) where
  -- nothing was asked
  pub asking-begin : (pairs : List Pair) → (goal → left) → (left → goal) → Asking f known goal left pairs pairs
  asking-begin pairs to fro = record {
    more = [];
    grown = sym (append-nil pairs);
    stand = All-nil (IsPair f known 0);
    split = λ g. (to g, All-nil (Agrees f known));
    join = λ l all. fro l;
  }

  module _ (old mid : List Pair) (a : Asking f known goal left old mid) where
    -- a part of what is left is asked for
    pub asking-next : (part rest : Type 0) (new : List Pair) → (left → part × rest) → (part → rest → left) → Asks f known part mid new → Asking f known goal rest old new
    asking-next part rest new apart together b = record {
      more = a.more ++ b.more;
      grown = b.grown ∙ ap (λ ps. ps ++ b.more) a.grown ∙ append_assoc old a.more b.more;
      stand = All-append (IsPair f known 0) a.more b.more a.stand b.stand;
      split = λ g.
          let s = a.split g in
          let p = apart s.0 in
          (p.1, All-append (Agrees f known) a.more b.more s.1 (b.forth p.0));
      join = λ r all. a.join (together (b.back all) r) (All-within (Agrees f known) mid new (in-mid mid b.more new b.grown) all);
    }

    -- what is left holds
    pub asking-end : left → Asks f known goal old mid
    asking-end l = record {
      more = a.more;
      grown = a.grown;
      stand = a.stand;
      forth = λ g. (a.split g).1;
      back = λ all. a.join l all;
    }

    -- what is left does not hold
    pub asking-no : (left → ⊥) → goal → ⊥
    asking-no differ g = differ (a.split g).0

    -- all pairs stand, where those do that were there
    pub asking-stand : All (IsPair f known 0) old → All (IsPair f known 0) mid
    asking-stand stand = rw a.grown (All-append (IsPair f known 0) old a.more stand a.stand)

    -- what is left in other words, with more nodes
    pub asking-grows : (newer : List (List Waiting)) (other : Type 0) → All (IsPair f known 0) old → Grows known newer → (left → other) → (other → left) → Asking f newer goal other old mid
    asking-grows newer other stand g to fro =
        let stands : (p : Pair) → Contains mid p → IsPair f known 0 p = λ p c. All-contains (IsPair f known 0) mid p (asking-stand stand) c in
        let same : (p : Pair) → Contains mid p → SamePair f known newer p = λ p c. same_pair f known newer 0 p g (stands p c) in
        record {
          more = a.more;
          grown = a.grown;
          stand = All-from_each (IsPair f newer 0) a.more (λ p c. is_pair-grows f known newer 0 p g (All-contains (IsPair f known 0) a.more p a.stand c));
          split = λ h.
              let s = a.split h in
              (to s.0, All-from_each (Agrees f newer) a.more (λ p c. (same p (after old a.more mid a.grown p c)).forth (All-contains (Agrees f known) a.more p s.1 c)));
          join = λ l all. a.join (fro l) (All-from_each (Agrees f known) mid (λ p c. (same p c).back (All-contains (Agrees f newer) mid p all c)));
        }
