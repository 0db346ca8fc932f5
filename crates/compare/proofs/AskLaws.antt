-- Pairs that a comparison asks for.
use Rattle.std.proofs.Common.{◌≡◌, ℕ, List, [], ◌∷◌, ◌++◌, refl, sym, ◌∙◌, ap, Bool, IsTrue, ◌↔◌}
use Rattle.std.specs.List.{All}
use Rattle.std.proofs.lemmas.List.{append-nil}
use Rattle.std.proofs.lemmas.List.Elements.{All-nil, All-cons, All-contains, Contains-push}
use Rattle.trees.specs.Things.{Meanings}
use Rattle.rows.specs.Views.{IsTree}
use Rattle.closures.specs.Environments.{Waiting}
use Rattle.closures.specs.Closures.{closure_meaning}
use Rattle.closures.specs.declared.environments.Environment.TheVariants as env
use Rattle.closures.specs.declared.closure.Closure.{Closure}
use Rattle.compare.specs.Pairs.{Agrees, Adds, IsOne, IsThere, IsNew, Asks, IsPair}
use Rattle.compare.specs.declared.pairs.Pair.{Pair}
use Rattle.closures.proofs.HeadLaws.{row-stands}

module _ (f : Meanings) (known : List (List Waiting)) where
  -- nothing to ask for
  pub asks-true : (goal : Type 0) (pairs : List Pair) → goal → Asks f known goal pairs pairs
  asks-true goal pairs holds = record {
    more = [];
    grown = sym (append-nil pairs);
    stand = All-nil (IsPair f known 0);
    forth = λ g. All-nil (Agrees f known);
    back = λ all. holds;
  }

  -- the same in other words
  pub asks-as : (goal other : Type 0) (old new : List Pair) → (goal → other) → (other → goal) → Asks f known goal old new → Asks f known other old new
  asks-as goal other old new to fro a = record {
    more = a.more;
    grown = a.grown;
    stand = a.stand;
    forth = λ g. a.forth (fro g);
    back = λ all. to (a.back all);
  }

  -- one pair
  pub asks-pair : (p : Pair) (old new : List Pair) → IsPair f known 0 p → Adds p old new → Asks f known (Agrees f known p) old new
  asks-pair p old new s (IsOne same e) = rw e (asks-true (Agrees f known p) old (ap (closure_meaning f known) same))
  asks-pair p old new s (IsThere there e) = rw e record {
    more = [];
    grown = sym (append-nil old);
    stand = All-nil (IsPair f known 0);
    forth = λ g. All-nil (Agrees f known);
    back = λ all. All-contains (Agrees f known) old p all there;
  }
  asks-pair p old new s (IsNew e) = rw e record {
    more = p ∷ [];
    grown = refl;
    stand = All-cons (IsPair f known 0) p [] s (All-nil (IsPair f known 0));
    forth = λ g. All-cons (Agrees f known) p [] g (All-nil (Agrees f known));
    back = λ all. All-contains (Agrees f known) (old ++ p ∷ []) p all (Contains-push old p);
  }

  -- a row as it is
  pub row-meaning : (row : ℕ) (c : Closure) → c.row.0 ≡ row → c.environment ≡ env.Empty → IsTree (f row) → closure_meaning f known c ≡ f row
  row-meaning row c is none tree = rw (none, is, tree.1) refl

  pub asks-rows : (left right : ℕ) (p : Pair) (old new : List Pair) → p.left.row.0 ≡ left → p.left.environment ≡ env.Empty → p.right.row.0 ≡ right → p.right.environment ≡ env.Empty → IsTree (f left) → IsTree (f right) → Adds p old new → Asks f known (f left ≡ f right) old new
  asks-rows left right p old new l le r re tl tr a =
      let ml = row-meaning left p.left l le tl in
      let mr = row-meaning right p.right r re tr in
      asks-as (Agrees f known p) (f left ≡ f right) old new (λ g. sym ml ∙ g ∙ mr) (λ g. ml ∙ g ∙ sym mr)
      (asks-pair p old new (row-stands f known 0 left p.left tl l le, row-stands f known 0 right p.right tr r re) a)

-- where no pairs were there, those that are there stand, and agree exactly where the goal holds

pub asks-stand : (f : Meanings) (known : List (List Waiting)) (goal : Type 0) (old new : List Pair) → old ≡ [] → Asks f known goal old new → All (IsPair f known 0) new
asks-stand f known goal old new none a = rw (a.grown, none) a.stand

pub asks-decides : (f : Meanings) (known : List (List Waiting)) (goal : Type 0) (old new : List Pair) (b : Bool) → old ≡ [] → Asks f known goal old new → (IsTrue b ↔ All (Agrees f known) new) → (IsTrue b ↔ goal)
asks-decides f known goal old new b none a agree = (λ yes. a.back (agree.0 yes), λ g. agree.1 (rw (a.grown, none) (a.forth g)))

-- no pair is there
pub none-stand : (f : Meanings) (known : List (List Waiting)) (n : ℕ) (pairs : List Pair) → pairs ≡ [] → All (IsPair f known n) pairs
none-stand f known n pairs none = rw none (All-nil (IsPair f known n))
