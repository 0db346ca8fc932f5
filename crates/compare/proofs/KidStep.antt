-- One more kid on both sides of a pair.
use Rattle.std.proofs.Common.{◌≡◌, ℕ, suc, ◌+◌, ◌<◌, ◌≤◌, List, [], ◌∷◌, ◌++◌, length, take, drop, get_or, refl, ap, arith, Option, Some}
use Rattle.std.specs.Prelude.{slice_get}
use Rattle.std.specs.List.{All}
use Rattle.std.proofs.lemmas.List.{take_all}
use Rattle.trees.specs.declared.op.Op.{Op}
use Rattle.trees.specs.Operators.{kids_of, binds_of}
use Rattle.trees.specs.Things.{Thing, Meanings}
use Rattle.rows.specs.Views.{IsTree}
use Rattle.closures.specs.Environments.{Waiting, deepened, listed, IsWithin}
use Rattle.closures.specs.Closures.{Stands, IsClosure, closure_meaning, under, delays}
use Rattle.compare.specs.Pairs.{IsPair, Adds}
use Rattle.compare.specs.Kids.{kids_meant, KidsStand, KidsOpen}
use Rattle.closures.specs.declared.environments.Environment.{Environment}
use Rattle.closures.specs.declared.closure.Closure.{Closure}
use Rattle.compare.specs.declared.pairs.Pair.{Pair}
use Rattle.compare.proofs.KidLaws.{kid_things-length, kids-more, kid_things-at, take-more, place-of, All-at}
use Rattle.trees.proofs.OperatorLaws.{binds_of-most}
use Rattle.closures.proofs.HeadLaws.{closure-deeper, kid-stands}
use Rattle.compare.proofs.StandLaws.{after-more}

-- a kid on one side: what its closure means stands at its place
pub record Side (f : Meanings) (known : List (List Waiting)) (op : Op) (ks : List ℕ) (e : Environment) (at : ℕ) (c : Closure) : Type 0 where
  pub thing : Option Thing
  pub meaning : closure_meaning f known c ≡ thing
  pub more : take (at + 1) (kids_meant f known op ks e) ≡ take at (kids_meant f known op ks e) ++ thing ∷ []
  pub stands : (n : ℕ) → Stands f known n e → IsClosure f known (suc n) c

pub side : (f : Meanings) (known : List (List Waiting)) (n : ℕ) (op : Op) (ks : List ℕ) (e : Environment) (at : ℕ) (c : Closure) → KidsStand f known n op ks e → at < kids_of op → c.row.0 ≡ get_or ks at 0 → listed known c.environment ≡ deepened (binds_of op at) (listed known e) → IsWithin known c.environment → Side f known op ks e at c
side f known n op ks e at c stand lt row list within =
    let count = stand.count in
    let place : slice_get ks at ≡ Some c.row.0 = place-of ks at c.row.0 (omega arith) row in
    let here = kid_things-at f (listed known e) op at ks c.row.0 place in
    let tree : IsTree (f c.row.0) = All-at (λ k. IsTree (f k)) ks at c.row.0 place stand.rows in
    record {
      thing = under (f c.row.0) (delays f (deepened (binds_of op at) (listed known e)));
      meaning = ap (λ ws. under (f c.row.0) (delays f ws)) list;
      more = take-more (kids_meant f known op ks e) at _ here;
      stands = λ m s. closure-deeper f known (m + binds_of op at) (suc m) c (let b = binds_of-most op at in omega arith) (kid-stands f known m (binds_of op at) c.row.0 e c tree s refl list within);
    }

pub next-kid : (f : Meanings) (known : List (List Waiting)) (op : Op) (cells others : List ℕ) (e d : Environment) (at : ℕ) (p : Pair) (old cur new : List Pair)
    → Side f known op cells e at p.left → Side f known op others d at p.right
    → KidsOpen f known (take at (kids_meant f known op cells e)) (take at (kids_meant f known op others d)) old cur
    → ((n : ℕ) → Stands f known n e → Stands f known n d → All (IsPair f known (suc n)) (drop (length old) cur))
    → Adds p cur new
    → KidsOpen f known (take (at + 1) (kids_meant f known op cells e)) (take (at + 1) (kids_meant f known op others d)) old new
    × ((n : ℕ) → Stands f known n e → Stands f known n d → All (IsPair f known (suc n)) (drop (length old) new))
next-kid f known op cells others e d at p old cur new l r opened stand adds = (
  rw (l.more, r.more) (kids-more f known (take at (kids_meant f known op cells e)) (take at (kids_meant f known op others d)) l.thing r.thing p l.meaning r.meaning old cur new opened adds),
  λ n se sd. after-more (IsPair f known (suc n)) old opened.more cur new p opened.grown adds (l.stands n se, r.stands n sd) (stand n se sd),
)

-- all kids
pub kids-all : (f : Meanings) (known : List (List Waiting)) (n : ℕ) (op : Op) (ks : List ℕ) (e : Environment) (at : ℕ) → KidsStand f known n op ks e → kids_of op ≤ at → take at (kids_meant f known op ks e) ≡ kids_meant f known op ks e
kids-all f known n op ks e at stand le = take_all at (kids_meant f known op ks e) (omega (arith, stand.count, kid_things-length f (listed known e) op 0 ks))
