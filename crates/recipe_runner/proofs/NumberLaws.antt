-- What numbers stand for that earlier rows of a recipe made.
use Rattle.std.proofs.Common.{◌≡◌, ℕ, zero, suc, ◌<◌, List, [], ◌∷◌, ◌++◌, length, map, sym, ◌∙◌, ap, subst, arith, Option, Some}
use Rattle.std.specs.Prelude.{slice_index}
use Rattle.std.specs.List.{All}
use Rattle.std.proofs.lemmas.List.Elements.{All-nil, All-cons}
use Rattle.trees.specs.Judgements.{Judgement}
use Rattle.trees.specs.Things.{Thing, both, meanings}
use Rattle.trees.proofs.OptionLaws.{both_of_some}
use Rattle.trees.proofs.Meanings.{meanings-cons}
use Rattle.book.specs.Contents.{Contents}
use Rattle.book.specs.Shown.{book_means, book_concludes, Extends}
use Rattle.recipes.specs.Made.{Made, AThing, ANode, thing_at, node_at}
use Rattle.recipe_runner.specs.Running.{AreNumbersOf, numbers_at}

-- a number of what an earlier row made
pub record IsThere {X : Type 0} (means : ℕ → Option X) (made : List ℕ) (n : ℕ) (x : X) : Type 0 where
  pub within : n < length made
  pub is : means (slice_index made n) ≡ Some x

pub thing-there : (b : Contents) (known : List Made) (made : List ℕ) (n : ℕ) (x : Thing) → AreNumbersOf b known made → thing_at known n ≡ Some x → IsThere (book_means b) made n x
thing-there b [] made n x are e = absurd (cc e)
thing-there b (m ∷ ms) [] n x are e = absurd are
thing-there b (AThing y ∷ ms) (k ∷ ks) zero x are e =
    record { within = omega arith; is = are.0 ∙ e }
thing-there b (ANode J ∷ ms) (k ∷ ks) zero x are e = absurd (cc e)
thing-there b (m ∷ ms) (k ∷ ks) (suc n) x are e =
    let rest = thing-there b ms ks n x are.1 e in
    let lt = rest.within in
    record { within = omega arith; is = rest.is }

pub node-there : (b : Contents) (known : List Made) (made : List ℕ) (n : ℕ) (J : Judgement) → AreNumbersOf b known made → node_at known n ≡ Some J → IsThere (book_concludes b) made n J
node-there b [] made n J are e = absurd (cc e)
node-there b (m ∷ ms) [] n J are e = absurd are
node-there b (ANode K ∷ ms) (k ∷ ks) zero J are e =
    record { within = omega arith; is = are.0 ∙ e }
node-there b (AThing x ∷ ms) (k ∷ ks) zero J are e = absurd (cc e)
node-there b (m ∷ ms) (k ∷ ks) (suc n) J are e =
    let rest = node-there b ms ks n J are.1 e in
    let lt = rest.within in
    record { within = omega arith; is = rest.is }

-- numbers of what earlier rows made
pub record AreThere {X : Type 0} (means : ℕ → Option X) (made : List ℕ) (ns : List ℕ) (xs : List X) : Type 0 where
  pub within : All (λ n. n < length made) ns
  pub are : meanings means (numbers_at made ns) ≡ Some xs

all-there : {X : Type 0} (at means : ℕ → Option X) (made : List ℕ) → ((n : ℕ) (x : X) → at n ≡ Some x → IsThere means made n x) → (ns : List ℕ) (xs : List X) → meanings at ns ≡ Some xs → AreThere means made ns xs
all-there at means made there [] xs e = record { within = All-nil (λ n. n < length made); are = e }
all-there at means made there (n ∷ ns) xs e =
    let m = meanings-cons at n ns xs e in
    let first = there n m.first m.first_is in
    let rest = all-there at means made there ns m.rest m.rest_is in
    record {
      within = All-cons (λ k. k < length made) n ns first.within rest.within;
      are = rw (first.is, rest.are) (ap Some (sym m.whole));
    }

pub things-there : (b : Contents) (known : List Made) (made ns : List ℕ) (xs : List Thing) → AreNumbersOf b known made → meanings (thing_at known) ns ≡ Some xs → AreThere (book_means b) made ns xs
things-there b known made ns xs are e =
    all-there (thing_at known) (book_means b) made (λ n x at. thing-there b known made n x are at) ns xs e

pub nodes-there : (b : Contents) (known : List Made) (made ns : List ℕ) (Js : List Judgement) → AreNumbersOf b known made → meanings (node_at known) ns ≡ Some Js → AreThere (book_concludes b) made ns Js
nodes-there b known made ns Js are e =
    all-there (node_at known) (book_concludes b) made (λ n J at. node-there b known made n J are at) ns Js e

-- what is made of two that earlier rows made
pub record TwoThere (b : Contents) (made : List ℕ) (F : Thing → Thing → Option Thing) (m n : ℕ) (z : Thing) : Type 0 where
  pub first : Thing
  pub second : Thing
  pub first_in : m < length made
  pub second_in : n < length made
  pub first_is : book_means b (slice_index made m) ≡ Some first
  pub second_is : book_means b (slice_index made n) ≡ Some second
  pub gives : both F (book_means b (slice_index made m)) (book_means b (slice_index made n)) ≡ Some z

pub two-there : (b : Contents) (known : List Made) (made : List ℕ) (F : Thing → Thing → Option Thing) (m n : ℕ) (z : Thing) → AreNumbersOf b known made → both F (thing_at known m) (thing_at known n) ≡ Some z → TwoThere b made F m n z
two-there b known made F m n z are e =
    let o = both_of_some F (thing_at known m) (thing_at known n) z e in
    let x = thing-there b known made m o.left are o.left_is in
    let y = thing-there b known made n o.right are o.right_is in
    record {
      first = o.left;
      second = o.right;
      first_in = x.within;
      second_in = y.within;
      first_is = x.is;
      second_is = y.is;
      gives = rw (x.is, y.is) o.gives;
    }

-- the book extended, and more numbers

pub numbers-later : (b c : Contents) → Extends b c → (known : List Made) (made : List ℕ) → AreNumbersOf b known made → AreNumbersOf c known made
numbers-later b c ext [] [] are = tt
numbers-later b c ext [] (n ∷ ns) are = absurd are
numbers-later b c ext (m ∷ ms) [] are = absurd are
numbers-later b c ext (AThing x ∷ ms) (n ∷ ns) are = (ext.rows.keeps n x are.0, numbers-later b c ext ms ns are.1)
numbers-later b c ext (ANode J ∷ ms) (n ∷ ns) are = (ext.conclusions n J are.0, numbers-later b c ext ms ns are.1)

pub numbers-join : (b : Contents) (known : List Made) (made : List ℕ) (new : List Made) (ns : List ℕ) → AreNumbersOf b known made → AreNumbersOf b new ns → AreNumbersOf b (known ++ new) (made ++ ns)
numbers-join b [] [] new ns are is = is
numbers-join b [] (k ∷ ks) new ns are is = absurd are
numbers-join b (x ∷ xs) [] new ns are is = absurd are
numbers-join b (x ∷ xs) (k ∷ ks) new ns are is = (are.0, numbers-join b xs ks new ns are.1 is)

-- nodes that conclude this
pub node-numbers : (b : Contents) (Js : List Judgement) (ns : List ℕ) → meanings (book_concludes b) ns ≡ Some Js → AreNumbersOf b (map ANode Js) ns
node-numbers b [] [] e = tt
node-numbers b (J ∷ Js) [] e = absurd (cc e)
node-numbers b Js (n ∷ ns) e =
    let m = meanings-cons (book_concludes b) n ns Js e in
    subst (λ Ks. AreNumbersOf b (map ANode Ks) (n ∷ ns)) (sym m.whole) (m.first_is, node-numbers b m.rest ns m.rest_is)
