-- Substitutions that are compared tree by tree.
use Rattle.std.proofs.Common.{◌+◌, length-append, ◌≡◌, ℕ, ◌<◌, List, [], length, refl, sym, ◌∙◌, ap, ap₂, arith, Option, Some}
use Rattle.std.specs.List.{All}
use Rattle.std.proofs.lemmas.List.Elements.{All-nil, All-same, All-contains}
use Rattle.trees.specs.Trees.{Tree, NoTrees, More, Subst, push, shift_by}
use Rattle.trees.specs.Things.{Thing, ATree, ASubst, Meanings, both, pushed_on}
use Rattle.trees.specs.Trees.{count_of}
use Rattle.substitution.proofs.ThenLaws.{then-id}
use Rattle.rows.specs.Views.{IsSubst}
use Rattle.rows.specs.Tables.{Grows}
use Rattle.closures.specs.Environments.{Waiting, listed}
use Rattle.closures.specs.Closures.{closure_meaning, IsClosure}
use Rattle.closures.specs.Substs.{followed_by, waiting_substs, subst_closure_meaning, subst_head_meaning, IsPlainSubst, IsSubstClosure, SubstHeadStands}
use Rattle.closures.specs.declared.environments.Environment.TheVariants as env
use Rattle.closures.specs.declared.closure.Closure.{Closure}
use Rattle.closures.specs.declared.substs.SubstClosure.{SubstClosure}
use Rattle.closures.specs.declared.substs.SubstHead.{SubstHead}
use Rattle.closures.specs.declared.substs.SubstHead.TheVariants.{Shift, Push}
use Rattle.closures.proofs.EnvironmentLaws.{listed-grows, is_before-more}
use Rattle.rows.proofs.TableLaws.{grows-same, grows-grows}
use Rattle.compare.specs.Pairs.{Asks, IsPair}
use Rattle.compare.specs.declared.pairs.Pair.{Pair}
use Rattle.closures.proofs.HeadLaws.{closure_meaning-grows, closure-grows}
use Rattle.compare.proofs.StandLaws.{is_pair-grows}
use Rattle.compare.proofs.WalkLaws.{All-from_each}
use Rattle.compare.proofs.OpenLaws.{closure-tree}
use Rattle.compare.proofs.AskingLaws.{Asking, asking-begin, asking-next, asking-end, asking-no, asking-grows}

-- a row as it is

pub subst_row-meaning : (f : Meanings) (known : List (List Waiting)) (row : ℕ) (c : SubstClosure) → c.row.0 ≡ row → c.environment ≡ env.Empty → IsSubst (f row) → subst_closure_meaning f known c ≡ f row
subst_row-meaning f known row c is none subst =
    ap₂ (λ k e. followed_by (f k) (waiting_substs f (listed known e))) is none
    ∙ ap (λ o. followed_by o []) subst.1
    ∙ ap (λ d. Some (ASubst d)) (then-id subst.0)
    ∙ sym subst.1

pub subst_row-stands : (f : Meanings) (known : List (List Waiting)) (row : ℕ) (c : SubstClosure) → c.row.0 ≡ row → c.environment ≡ env.Empty → IsSubst (f row) → IsSubstClosure f known c
subst_row-stands f known row c is none subst = record {
  row = rw is subst;
  within = rw none refl;
  plain = rw none (All-nil (IsPlainSubst f));
}

-- more nodes

pub subst_closure-grows : (f : Meanings) (old new : List (List Waiting)) (c : SubstClosure) → Grows old new → IsSubstClosure f old c → subst_closure_meaning f new c ≡ subst_closure_meaning f old c
subst_closure-grows f old new c g s = ap (λ ws. followed_by (f c.row.0) (waiting_substs f ws)) (listed-grows old new c.environment g s.within)

pub is_subst_closure-grows : (f : Meanings) (old new : List (List Waiting)) (c : SubstClosure) → Grows old new → IsSubstClosure f old c → IsSubstClosure f new c
is_subst_closure-grows f old new c g s = record {
  row = s.row;
  within = is_before-more (length old) (length new) c.environment (let size : length new ≡ length old + length g.0 = ap length g.1 ∙ length-append old g.0 in omega arith) s.within;
  plain = All-same (IsPlainSubst f) (listed new c.environment) (listed old c.environment) (listed-grows old new c.environment g s.within) s.plain;
}

subst_head-grows : (f : Meanings) (old new : List (List Waiting)) (h : SubstHead) → Grows old new → SubstHeadStands f old h → subst_head_meaning f new h ≡ subst_head_meaning f old h
subst_head-grows f old new (Shift n) g s = refl
subst_head-grows f old new (Push rest c) g s = ap₂ (both pushed_on) (subst_closure-grows f old new rest g s.0) (closure_meaning-grows f old new c g s.1.environment.within)

subst_head_stands-grows : (f : Meanings) (old new : List (List Waiting)) (h : SubstHead) → Grows old new → SubstHeadStands f old h → SubstHeadStands f new h
subst_head_stands-grows f old new (Shift n) g s = tt
subst_head_stands-grows f old new (Push rest c) g s = (is_subst_closure-grows f old new rest g s.0, closure-grows f old new 0 c g s.1)

-- a substitution closure that stands means a substitution
subst_closure-subst : (f : Meanings) (known : List (List Waiting)) (c : SubstClosure) → IsSubstClosure f known c → IsSubst (subst_closure_meaning f known c)
subst_closure-subst f known c s = (_, ap (λ o. followed_by o (waiting_substs f (listed known c.environment))) s.row.1)

-- the heads of both closures, over the nodes that are there after both were opened
pub record SubstHeads (f : Meanings) (old known : List (List Waiting)) (left right : SubstClosure) (first second : SubstHead) : Type 0 where
  pub grows : Grows old known
  pub first_is : subst_head_meaning f known first ≡ subst_closure_meaning f old left
  pub second_is : subst_head_meaning f known second ≡ subst_closure_meaning f old right
  pub first_stands : SubstHeadStands f known first
  pub second_stands : SubstHeadStands f known second

pub subst_heads : (f : Meanings) (old mid known : List (List Waiting)) (left right : SubstClosure) (first second one other : SubstHead) → first ≡ one → second ≡ other → IsSubstClosure f old right → Grows old mid → Grows mid known
    → subst_head_meaning f mid first ≡ subst_closure_meaning f old left → SubstHeadStands f mid first
    → subst_head_meaning f known second ≡ subst_closure_meaning f mid right → SubstHeadStands f known second
    → SubstHeads f old known left right one other
subst_heads f old mid known left right first second one other at_one at_other s g h first_is first_stands second_is second_stands = rw (← at_one, ← at_other) record {
  grows = grows-grows old mid known g h;
  first_is = subst_head-grows f mid known first h first_stands ∙ first_is;
  second_is = second_is ∙ subst_closure-grows f old mid right g s;
  first_stands = subst_head_stands-grows f mid known first h first_stands;
  second_stands = second_stands;
}

-- a substitution with a tree pushed on it

pub record Pushed (o p : Option Thing) : Type 0 where
  pub rest : Subst
  pub tree : Tree
  pub rest_is : o ≡ Some (ASubst rest)
  pub tree_is : p ≡ Some (ATree tree)
  pub whole : both pushed_on o p ≡ Some (ASubst (push rest tree))

pub pushed : (f : Meanings) (known : List (List Waiting)) (rest : SubstClosure) (c : Closure) → IsSubstClosure f known rest → IsClosure f known 0 c → Pushed (subst_closure_meaning f known rest) (closure_meaning f known c)
pushed f known rest c s t =
    let d = subst_closure-subst f known rest s in
    let a = closure-tree f known 0 c t in
    record { rest = d.0; tree = a.0; rest_is = d.1; tree_is = a.1; whole = ap₂ (both pushed_on) d.1 a.1 }

module _ {o p q r : Option Thing} (left : Pushed o p) (right : Pushed q r) where
  same-pushed : both pushed_on o p ≡ both pushed_on q r → (p ≡ r) × (o ≡ q)
  same-pushed e =
      let s : Some (ASubst (push left.rest left.tree)) ≡ Some (ASubst (push right.rest right.tree)) = sym left.whole ∙ e ∙ right.whole in
      let d : push left.rest left.tree ≡ push right.rest right.tree = cc in
      let trees : More left.tree left.rest.pushed ≡ More right.tree right.rest.pushed = ap (λ x. x.pushed) d in
      let tree : left.tree ≡ right.tree = cc in
      let rest : left.rest.pushed ≡ right.rest.pushed = cc in
      let whole : left.rest ≡ right.rest = ap₂ (λ ts n. record { pushed = ts; shift = n }) rest (ap (λ x. x.shift) d) in
      (left.tree_is ∙ ap (λ t. Some (ATree t)) tree ∙ sym right.tree_is, left.rest_is ∙ ap (λ x. Some (ASubst x)) whole ∙ sym right.rest_is)

not-shift : {o p : Option Thing} (n : ℕ) → Pushed o p → Some (ASubst (shift_by n)) ≡ both pushed_on o p → ⊥
not-shift n x e =
    let s : Some (ASubst (shift_by n)) ≡ Some (ASubst (push x.rest x.tree)) = e ∙ x.whole in
    let d : shift_by n ≡ push x.rest x.tree = cc in
    let trees : NoTrees ≡ More x.tree x.rest.pushed = ap (λ y. y.pushed) d in
    cc

-- the number of trees of a substitution
abbrev pub trees_in : Option Thing → ℕ
trees_in (Some (ASubst d)) = count_of d.pushed
trees_in _ = 0

-- two closures are left to compare
pub record Substs (f : Meanings) (start : List (List Waiting)) (goal : Type 0) (old : List Pair) (known : List (List Waiting)) (left right : SubstClosure) (pairs : List Pair) : Type 0 where
  pub grows : Grows start known
  pub left_stands : IsSubstClosure f known left
  pub right_stands : IsSubstClosure f known right
  pub stand : All (IsPair f known 0) old
  pub asking : Asking f known goal (subst_closure_meaning f known left ≡ subst_closure_meaning f known right) old pairs

pub substs-begin : (f : Meanings) (known : List (List Waiting)) (left right : ℕ) (first second : SubstClosure) (pairs : List Pair) → first.row.0 ≡ left → first.environment ≡ env.Empty → second.row.0 ≡ right → second.environment ≡ env.Empty → IsSubst (f left) → IsSubst (f right) → All (IsPair f known 0) pairs → Substs f known (f left ≡ f right) pairs known first second pairs
substs-begin f known left right first second pairs l le r re ls rs stand =
    let ml = subst_row-meaning f known left first l le ls in
    let mr = subst_row-meaning f known right second r re rs in
    record {
      grows = grows-same known;
      left_stands = subst_row-stands f known left first l le ls;
      right_stands = subst_row-stands f known right second r re rs;
      stand = stand;
      asking = asking-begin f known _ _ pairs (λ e. ml ∙ e ∙ sym mr) (λ e. sym ml ∙ e ∙ mr);
    }

module _ {f : Meanings} {start : List (List Waiting)} {goal : Type 0} {old : List Pair} {before : List (List Waiting)} {left right : SubstClosure} {pairs : List Pair} (s : Substs f start goal old before left right pairs) where
  module _ (known : List (List Waiting)) (first second : SubstHead) (h : SubstHeads f before known left right first second) where
    -- the heads are left to compare
    heads-asking : Asking f known goal (subst_head_meaning f known first ≡ subst_head_meaning f known second) old pairs
    heads-asking = asking-grows f before goal _ old pairs s.asking known _ s.stand h.grows (λ e. h.first_is ∙ e ∙ sym h.second_is) (λ e. sym h.first_is ∙ e ∙ h.second_is)

    pub heads-grow : Grows start known
    heads-grow = grows-grows start before known s.grows h.grows

  module _ (known : List (List Waiting)) where
    pub shifts-same : (n m : ℕ) → SubstHeads f before known left right (Shift n) (Shift m) → n ≡ m → Asks f known goal old pairs
    shifts-same n m h e = asking-end f known goal _ old pairs (heads-asking known (Shift n) (Shift m) h) (ap (λ k. Some (ASubst (shift_by k))) e)

    pub shifts-differ : (n m : ℕ) → SubstHeads f before known left right (Shift n) (Shift m) → (n ≡ m → ⊥) → goal → ⊥
    shifts-differ n m h differ = asking-no f known goal _ old pairs (heads-asking known (Shift n) (Shift m) h) (λ e. differ (ap (λ o. shift_in o) e))
      where
        shift_in : Option Thing → ℕ
        shift_in (Some (ASubst d)) = d.shift
        shift_in _ = 0

    pub shift-and-push : (n : ℕ) (e : SubstClosure) (b : Closure) → SubstHeads f before known left right (Shift n) (Push e b) → goal → ⊥
    shift-and-push n e b h = asking-no f known goal _ old pairs (heads-asking known (Shift n) (Push e b) h) (not-shift n (pushed f known e b h.second_stands.0 h.second_stands.1))

    pub push-and-shift : (d : SubstClosure) (a : Closure) (m : ℕ) → SubstHeads f before known left right (Push d a) (Shift m) → goal → ⊥
    push-and-shift d a m h = asking-no f known goal _ old pairs (heads-asking known (Push d a) (Shift m) h) (λ e. not-shift m (pushed f known d a h.first_stands.0 h.first_stands.1) (sym e))

    module _ (d e : SubstClosure) (a b : Closure) (h : SubstHeads f before known left right (Push d a) (Push e b)) where
      first_pushed : Pushed (subst_closure_meaning f known d) (closure_meaning f known a)
      first_pushed = pushed f known d a h.first_stands.0 h.first_stands.1

      second_pushed : Pushed (subst_closure_meaning f known e) (closure_meaning f known b)
      second_pushed = pushed f known e b h.second_stands.0 h.second_stands.1

      pub pushes-next : (new : List Pair) → Asks f known (closure_meaning f known a ≡ closure_meaning f known b) pairs new → Substs f start goal old known d e new
      pushes-next new asks = record {
        grows = heads-grow known (Push d a) (Push e b) h;
        left_stands = h.first_stands.0;
        right_stands = h.second_stands.0;
        stand = All-from_each (IsPair f known 0) old (λ p c. is_pair-grows f before known 0 p h.grows (All-contains (IsPair f before 0) old p s.stand c));
        asking = asking-next f known goal _ old pairs (heads-asking known (Push d a) (Push e b) h) _ _ new
            (same-pushed first_pushed second_pushed)
            (λ p r. ap₂ (both pushed_on) r p)
            asks;
      }

      pub pushes-smaller : trees_in (subst_closure_meaning f known d) < trees_in (subst_closure_meaning f before left)
      pushes-smaller =
          let whole = ap trees_in (sym h.first_is ∙ first_pushed.whole) in
          let part = ap trees_in first_pushed.rest_is in
          omega arith
