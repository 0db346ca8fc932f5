-- The heads of both closures of a pair.
use Rattle.std.specs.Prelude.{option_and_then}
use Rattle.std.proofs.Common.{◌≡◌, ◌<◌, ℕ, Bool, true, false, not, Bor, List, [], refl, sym, ◌∙◌, ap, arith, Some}
use Rattle.std.proofs.lemmas.List.{append-nil}
use Rattle.std.proofs.lemmas.List.Elements.{All-nil}
use Rattle.trees.specs.declared.op.Op.{Op}
use Rattle.trees.specs.Trees.{Tree, Var, Make}
use Rattle.trees.specs.Things.{ATree, Meanings, made}
use Rattle.substitution.specs.Delayed.{closed}
use Rattle.rows.specs.Views.{IsTree}
use Rattle.rows.specs.Tables.{Grows}
use Rattle.closures.specs.Environments.{Waiting, listed}
use Rattle.closures.specs.Closures.{IsClosure, HeadStands, closure_meaning, head_meaning, kid_things, all_there, under, delays}
use Rattle.compare.specs.Pairs.{Agrees, IsPair, Opens, pair_size, size, size_of}
use Rattle.compare.specs.Kids.{kids_meant, KidsStand, KidsOpen}
use Rattle.closures.specs.declared.environments.Environment.{Environment}
use Rattle.closures.specs.declared.closure.Closure.{Closure}
use Rattle.closures.specs.declared.heads.Head.{Head}
use Rattle.closures.specs.declared.heads.Head.TheVariants as head
use Rattle.compare.specs.declared.pairs.Pair.{Pair}
use Rattle.closures.proofs.EnvironmentLaws.{listed-grows}
use Rattle.rows.proofs.TableLaws.{grows-grows}
use Rattle.closures.proofs.HeadLaws.{stands-grows, closure_meaning-grows, closure-grows}
use Rattle.compare.proofs.StandLaws.{is_pair-grows, SamePair, same_pair}
use Rattle.compare.proofs.KidLaws.{MadeOfKids, made_of_kids, both_kids, opens-kids, other_operator, no_variable}

head-grows : (f : Meanings) (old new : List (List Waiting)) (n : ℕ) (h : Head) → Grows old new → HeadStands f old n h → head_meaning f new h ≡ head_meaning f old h
head-grows f old new n (head.Var k) g s = refl
head-grows f old new n (head.Make op cells e) g s = ap (λ ws. option_and_then (made op) (all_there (kid_things f ws op 0 cells.now))) (listed-grows old new e g s.within)

head_stands-grows : (f : Meanings) (old new : List (List Waiting)) (n : ℕ) (h : Head) → Grows old new → HeadStands f old n h → HeadStands f new n h
head_stands-grows f old new n (head.Var k) g s = tt
head_stands-grows f old new n (head.Make op cells e) g s = stands-grows f old new n e g s

-- a closure that stands means a tree
pub closure-tree : (f : Meanings) (known : List (List Waiting)) (n : ℕ) (c : Closure) → IsClosure f known n c → IsTree (closure_meaning f known c)
closure-tree f known n c s = (closed s.row.0 (delays f (listed known c.environment)), ap (λ o. under o (delays f (listed known c.environment))) s.row.1)

-- the heads of both closures, over the nodes that are there after both were opened
pub record Heads (f : Meanings) (old known : List (List Waiting)) (p : Pair) (left right : Head) : Type 0 where
  pub grows : Grows old known
  pub left_is : head_meaning f known left ≡ closure_meaning f known p.left
  pub right_is : head_meaning f known right ≡ closure_meaning f known p.right
  pub left_stands : (n : ℕ) → IsPair f old n p → HeadStands f known n left
  pub right_stands : (n : ℕ) → IsPair f old n p → HeadStands f known n right
  pub left_tree : IsTree (closure_meaning f known p.left)
  pub right_tree : IsTree (closure_meaning f known p.right)
  pub same : SamePair f old known p

pub heads : (f : Meanings) (old mid known : List (List Waiting)) (n : ℕ) (p : Pair) (left right : Head) → IsPair f old n p → Grows old mid → Grows mid known
    → head_meaning f mid left ≡ closure_meaning f old p.left → ((m : ℕ) → IsClosure f old m p.left → HeadStands f mid m left)
    → head_meaning f known right ≡ closure_meaning f mid p.right → ((m : ℕ) → IsClosure f mid m p.right → HeadStands f known m right)
    → Heads f old known p left right
heads f old mid known n p left right s g h left_is left_stands right_is right_stands =
    let whole = grows-grows old mid known g h in
    let now = is_pair-grows f old known n p whole s in
    record {
      grows = whole;
      left_is = head-grows f mid known n left h (left_stands n s.0) ∙ left_is ∙ sym (closure_meaning-grows f old known p.left whole s.0.environment.within);
      right_is = right_is ∙ sym (closure_meaning-grows f mid known p.right h (closure-grows f old mid n p.right g s.1).environment.within);
      left_stands = λ m t. head_stands-grows f mid known m left h (left_stands m t.0);
      right_stands = λ m t. right_stands m (closure-grows f old mid m p.right g t.1);
      left_tree = closure-tree f known n p.left now.0;
      right_tree = closure-tree f known n p.right now.1;
      same = same_pair f old known n p whole s;
    }

-- an operator on one side

pub made_left : (f : Meanings) (old known : List (List Waiting)) (p : Pair) (op : Op) (cells : Bor (List ℕ)) (e : Environment) (right : Head) → (h : Heads f old known p (head.Make op cells e) right) → MadeOfKids f (listed known e) op cells.now h.left_tree.0
made_left f old known p op cells e right h = made_of_kids f (listed known e) op cells.now h.left_tree.0 (h.left_is ∙ h.left_tree.1)

pub made_right : (f : Meanings) (old known : List (List Waiting)) (p : Pair) (op : Op) (cells : Bor (List ℕ)) (e : Environment) (left : Head) → (h : Heads f old known p left (head.Make op cells e)) → MadeOfKids f (listed known e) op cells.now h.right_tree.0
made_right f old known p op cells e left h = made_of_kids f (listed known e) op cells.now h.right_tree.0 (h.right_is ∙ h.right_tree.1)

pub kids-stand-left : (f : Meanings) (old known : List (List Waiting)) (n : ℕ) (p : Pair) (op : Op) (cells : Bor (List ℕ)) (e : Environment) (right : Head) → Heads f old known p (head.Make op cells e) right → IsPair f old n p → KidsStand f known n op cells.now e
kids-stand-left f old known n p op cells e right h s =
    let m = made_left f old known p op cells e right h in
    record { rows = m.rows; count = m.count; environment_stands = h.left_stands n s }

pub kids-stand-right : (f : Meanings) (old known : List (List Waiting)) (n : ℕ) (p : Pair) (op : Op) (cells : Bor (List ℕ)) (e : Environment) (left : Head) → Heads f old known p left (head.Make op cells e) → IsPair f old n p → KidsStand f known n op cells.now e
kids-stand-right f old known n p op cells e left h s =
    let m = made_right f old known p op cells e left h in
    record { rows = m.rows; count = m.count; environment_stands = h.right_stands n s }

-- both trees are one where the pair agrees
trees-agree : (f : Meanings) (old known : List (List Waiting)) (p : Pair) (left right : Head) → (h : Heads f old known p left right) → Agrees f old p → h.left_tree.0 ≡ h.right_tree.0
trees-agree f old known p left right h a =
    let e : Some (ATree h.left_tree.0) ≡ Some (ATree h.right_tree.0) = sym h.left_tree.1 ∙ h.same.forth a ∙ h.right_tree.1 in
    cc

pub operators-agree : (f : Meanings) (old known : List (List Waiting)) (p : Pair) (op other : Op) (cells others : Bor (List ℕ)) (e d : Environment) → Heads f old known p (head.Make op cells e) (head.Make other others d) → Agrees f old p → op ≡ other
operators-agree f old known p op other cells others e d h a =
    other_operator f (listed known e) (listed known d) op other cells.now others.now h.left_tree.0 h.right_tree.0
    (made_left f old known p op cells e (head.Make other others d) h) (made_right f old known p other others d (head.Make op cells e) h)
    (trees-agree f old known p (head.Make op cells e) (head.Make other others d) h a)

pub variable-left : (f : Meanings) (old known : List (List Waiting)) (p : Pair) (k : ℕ) (op : Op) (cells : Bor (List ℕ)) (e : Environment) → Heads f old known p (head.Var k) (head.Make op cells e) → Agrees f old p → ⊥
variable-left f old known p k op cells e h a =
    let v : Some (ATree (Var k)) ≡ Some (ATree h.left_tree.0) = h.left_is ∙ h.left_tree.1 in
    let w : Var k ≡ h.left_tree.0 = cc in
    no_variable f (listed known e) op cells.now h.right_tree.0 k (made_right f old known p op cells e (head.Var k) h) (w ∙ trees-agree f old known p (head.Var k) (head.Make op cells e) h a)

pub variable-right : (f : Meanings) (old known : List (List Waiting)) (p : Pair) (k : ℕ) (op : Op) (cells : Bor (List ℕ)) (e : Environment) → Heads f old known p (head.Make op cells e) (head.Var k) → Agrees f old p → ⊥
variable-right f old known p k op cells e h a =
    let v : Some (ATree (Var k)) ≡ Some (ATree h.right_tree.0) = h.right_is ∙ h.right_tree.1 in
    let w : Var k ≡ h.right_tree.0 = cc in
    no_variable f (listed known e) op cells.now h.left_tree.0 k (made_left f old known p op cells e (head.Var k) h) (w ∙ sym (trees-agree f old known p (head.Make op cells e) (head.Var k) h a))

-- variables on both sides
pub variables-agree : (f : Meanings) (old known : List (List Waiting)) (p : Pair) (k l : ℕ) → Heads f old known p (head.Var k) (head.Var l) → Agrees f old p → k ≡ l
variables-agree f old known p k l h a =
    let e : Some (ATree (Var k)) ≡ Some (ATree (Var l)) = h.left_is ∙ h.same.forth a ∙ sym h.right_is in
    cc

pub variables-open : (f : Meanings) (old known : List (List Waiting)) (p : Pair) (pairs : List Pair) (k l : ℕ) → Heads f old known p (head.Var k) (head.Var l) → k ≡ l → Opens f known p pairs pairs
variables-open f old known p pairs k l h e =
    let z : pair_size f known p ≡ 1 = ap size_of (sym h.left_is) in
    record {
      more = [];
      grown = sym (append-nil pairs);
      forth = λ a. All-nil (Agrees f known);
      back = λ smaller. sym h.left_is ∙ ap (λ n. Some (ATree (Var n))) e ∙ h.right_is;
      less = omega arith;
    }

-- a tree has an operator or a variable
size-positive : (t : Tree) → 0 < size t
size-positive (Var k) = omega arith
size-positive (Make op kids) = omega arith

-- closures of one environment whose rows mean the same
pub rows-open : (f : Meanings) (known : List (List Waiting)) (n : ℕ) (p : Pair) (pairs : List Pair) → IsPair f known n p
    → p.left.environment ≡ p.right.environment → f p.left.row.0 ≡ f p.right.row.0 → Opens f known p pairs pairs
rows-open f known n p pairs s one same =
    let tree = closure-tree f known n p.left s.0 in
    let sized : pair_size f known p ≡ size tree.0 = ap size_of tree.1 in
    let positive = size-positive tree.0 in
    let whole : Agrees f known p =
    ap (λ o. under o (delays f (listed known p.left.environment))) same
    ∙ ap (λ e. under (f p.right.row.0) (delays f (listed known e))) one in
    record {
      more = [];
      grown = sym (append-nil pairs);
      forth = λ a. All-nil (Agrees f known);
      back = λ smaller. whole;
      less = omega arith;
    }

-- one operator on both sides
pub operators-open : (f : Meanings) (old known : List (List Waiting)) (p : Pair) (op other : Op) (cells others : Bor (List ℕ)) (e d : Environment) (pairs new : List Pair) → op ≡ other → Heads f old known p (head.Make op cells e) (head.Make other others d) → KidsOpen f known (kids_meant f known op cells.now e) (kids_meant f known op others.now d) pairs new → Opens f known p pairs new
operators-open f old known p op other cells others e d pairs new same h k =
    let r : MadeOfKids f (listed known d) op others.now h.right_tree.0 = rw same (made_right f old known p other others d (head.Make op cells e) h) in
    opens-kids f known p (kids_meant f known op cells.now e) (kids_meant f known op others.now d) pairs new
    (both_kids f known p op (listed known e) (listed known d) cells.now others.now h.left_tree.0 h.right_tree.0 h.left_tree.1 h.right_tree.1
    (made_left f old known p op cells e (head.Make other others d) h) r)
    k

pub heads-are : (f : Meanings) (old known : List (List Waiting)) (p : Pair) (left right l r : Head) → left ≡ l → right ≡ r → Heads f old known p left right → Heads f old known p l r
heads-are f old known p left right l r e d h = rw (← e, ← d) h

pub not_true : (b : Bool) → true ≡ not b → b ≡ false
not_true true e = cc
not_true false e = refl

pub not_false : (b : Bool) → false ≡ not b → b ≡ true
not_false true e = refl
not_false false e = cc
