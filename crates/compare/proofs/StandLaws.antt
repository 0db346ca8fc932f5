-- Pairs of closures that mean trees.
use Rattle.std.proofs.Common.{◌≡◌, ℕ, ◌≤◌, List, [], ◌∷◌, ◌++◌, length, drop, refl, sym, ◌∙◌, ap}
use Rattle.std.specs.List.{All}
use Rattle.std.proofs.lemmas.List.Elements.{All-nil, All-push, All-same}
use Rattle.trees.specs.Things.{Meanings}
use Rattle.rows.specs.Tables.{Grows}
use Rattle.closures.specs.Environments.{Waiting}
use Rattle.compare.specs.Pairs.{Agrees, Adds, IsOne, IsThere, IsNew, IsPair, pair_size, size_of}
use Rattle.compare.specs.declared.pairs.Pair.{Pair}
use Rattle.closures.proofs.HeadLaws.{closure-grows, closure-deeper, closure_meaning-grows}

pub is_pair-grows : (f : Meanings) (old new : List (List Waiting)) (n : ℕ) (p : Pair) → Grows old new → IsPair f old n p → IsPair f new n p
is_pair-grows f old new n p g s = (closure-grows f old new n p.left g s.0, closure-grows f old new n p.right g s.1)

pub is_pair-weaker : (f : Meanings) (known : List (List Waiting)) (n m : ℕ) (p : Pair) → n ≤ m → IsPair f known n p → IsPair f known m p
is_pair-weaker f known n m p le s = (closure-deeper f known n m p.left le s.0, closure-deeper f known n m p.right le s.1)

-- a pair that stands agrees as it did
pub record SamePair (f : Meanings) (old new : List (List Waiting)) (p : Pair) : Type 0 where
  pub forth : Agrees f old p → Agrees f new p
  pub back : Agrees f new p → Agrees f old p
  pub size_is : pair_size f old p ≡ pair_size f new p

pub same_pair : (f : Meanings) (old new : List (List Waiting)) (n : ℕ) (p : Pair) → Grows old new → IsPair f old n p → SamePair f old new p
same_pair f old new n p g s =
    let l = closure_meaning-grows f old new p.left g s.0.environment.within in
    let r = closure_meaning-grows f old new p.right g s.1.environment.within in
    record {
      forth = λ a. l ∙ a ∙ sym r;
      back = λ a. sym l ∙ a ∙ r;
      size_is = ap size_of (sym l);
    }

-- pairs after the first ones

pub drop-length : {X : Type 0} (xs ys : List X) → drop (length xs) (xs ++ ys) ≡ ys
drop-length [] ys = refl
drop-length (x ∷ xs) ys = drop-length xs ys

drop-all : {X : Type 0} (xs : List X) → drop (length xs) xs ≡ []
drop-all [] = refl
drop-all (x ∷ xs) = drop-all xs

pub after-none : {X : Type 0} (Q : X → Type 0) (xs : List X) → All Q (drop (length xs) xs)
after-none Q xs = rw (drop-all xs) (All-nil Q)

pub after-more : (Q : Pair → Type 0) (old more cur new : List Pair) (p : Pair) → cur ≡ old ++ more → Adds p cur new → Q p → All Q (drop (length old) cur) → All Q (drop (length old) new)
after-more Q old more cur new p grown (IsOne same e) q all = rw e all
after-more Q old more cur new p grown (IsThere there e) q all = rw e all
after-more Q old more cur new p grown (IsNew e) q all =
    let whole : drop (length old) new ≡ drop (length old) cur ++ p ∷ [] = rw (e, grown) (drop-more old more) in
    All-same Q _ _ whole (All-push Q (drop (length old) cur) p all q)
  where
    drop-more : (xs ys : List Pair) → drop (length xs) ((xs ++ ys) ++ p ∷ []) ≡ drop (length xs) (xs ++ ys) ++ p ∷ []
    drop-more [] ys = refl
    drop-more (x ∷ xs) ys = drop-more xs ys
