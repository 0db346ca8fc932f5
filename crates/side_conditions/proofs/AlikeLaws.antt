-- Substitutions that are compared place by place.
use Rattle.std.proofs.Common.{◌≡◌, ℕ, ◌<◌, inl, inr, Bool, true, false, List, [], refl, sym, ◌∙◌, ap, subst, arith, Option, Some}
use Rattle.std.specs.Prelude.{IsTrue}
use Rattle.std.proofs.lemmas.List.Elements.{All-nil}
use Rattle.trees.specs.Trees.{Tree, Trees, NoTrees, More, Subst, push, shift_by}
use Rattle.trees.specs.Things.{Thing, ATree, Meanings, both, pushed_on}
use Rattle.trees.specs.Judgements.{Context}
use Rattle.rows.specs.Views.{IsSubst}
use Rattle.rows.specs.Tables.{Grows}
use Rattle.rows.proofs.TableLaws.{grows-same}
use Rattle.closures.specs.Environments.{Waiting}
use Rattle.closures.specs.Closures.{closure_meaning, IsClosure, subst_of}
use Rattle.closures.specs.Substs.{subst_closure_meaning, subst_head_meaning, IsSubstClosure}
use Rattle.closures.specs.declared.environments.Environment.TheVariants as env
use Rattle.closures.specs.declared.closure.Closure.{Closure}
use Rattle.closures.specs.declared.substs.SubstClosure.{SubstClosure}
use Rattle.closures.specs.declared.substs.SubstHead.{SubstHead}
use Rattle.closures.specs.declared.substs.SubstHead.TheVariants.{Shift, Push}
use Rattle.closures.proofs.HeadLaws.{closure_meaning-grows, closure-grows}
use Rattle.compare.specs.Pairs.{Agrees, Adds, Asks, IsPair}
use Rattle.compare.specs.declared.pairs.Pair.{Pair}
use Rattle.compare.proofs.AskLaws.{asks-true, asks-as, asks-pair}
use Rattle.compare.proofs.AskingLaws.{Asking, asking-begin, asking-next, asking-end, asking-no, asking-grows}
use Rattle.compare.proofs.OpenLaws.{closure-tree}
use Rattle.compare.proofs.SubstAskLaws.{SubstHeads, Pushed, pushed, trees_in, subst_row-meaning, subst_row-stands, subst_closure-grows, is_subst_closure-grows}
use Rattle.conditions.specs.Sides.{is_formula, value, SameIn, AlikeIn, AlikeTrees}
use Rattle.side_conditions.specs.Formulas.{AreFormulas, AreAlike}
use Rattle.side_conditions.specs.Shapes.{tree_of}

alike-same : (H : Context) (d : Subst) → AlikeIn H d d
alike-same H d = record { shift = refl; pushed = each d.pushed }
  where
    each : (ts : Trees) → AlikeTrees H ts ts
    each NoTrees = tt
    each (More t ts) = (inl refl, each ts)

-- a substitution with a tree pushed on it

module _ (H : Context) {o p q r : Option Thing} (left : Pushed o p) (right : Pushed q r) where
  abbrev Both : Type 0
  Both = AlikeIn H (subst_of (both pushed_on o p)) (subst_of (both pushed_on q r))

  whole : Both → AlikeIn H (push left.rest left.tree) (push right.rest right.tree)
  whole a = subst (λ d. AlikeIn H d (push right.rest right.tree)) (ap subst_of left.whole) (subst (AlikeIn H (subst_of (both pushed_on o p))) (ap subst_of right.whole) a)

  alike-split : Both → AreAlike H (tree_of p) (tree_of r) × AlikeIn H (subst_of o) (subst_of q)
  alike-split a =
      let w = whole a in (
        subst (λ t. AreAlike H t (tree_of r)) (sym (ap tree_of left.tree_is)) (subst (AreAlike H left.tree) (sym (ap tree_of right.tree_is)) w.pushed.0),
        subst (λ d. AlikeIn H d (subst_of q)) (sym (ap subst_of left.rest_is)) (subst (AlikeIn H left.rest) (sym (ap subst_of right.rest_is)) record { shift = w.shift; pushed = w.pushed.1 }),
      )

  alike-join : AreAlike H (tree_of p) (tree_of r) → AlikeIn H (subst_of o) (subst_of q) → Both
  alike-join place rest =
      let here = subst (λ t. AreAlike H t right.tree) (ap tree_of left.tree_is) (subst (AreAlike H (tree_of p)) (ap tree_of right.tree_is) place) in
      let later = subst (λ d. AlikeIn H d right.rest) (ap subst_of left.rest_is) (subst (AlikeIn H (subst_of o)) (ap subst_of right.rest_is) rest) in
      let w : AlikeIn H (push left.rest left.tree) (push right.rest right.tree) = record { shift = later.shift; pushed = (here, later.pushed) } in
      subst (λ d. AlikeIn H d (subst_of (both pushed_on q r))) (sym (ap subst_of left.whole)) (subst (AlikeIn H (push left.rest left.tree)) (sym (ap subst_of right.whole)) w)

shift-unlike : (H : Context) {o p : Option Thing} (n : ℕ) → Pushed o p → AlikeIn H (shift_by n) (subst_of (both pushed_on o p)) → ⊥
shift-unlike H n x a = (subst (AlikeIn H (shift_by n)) (ap subst_of x.whole) a).pushed

push-unlike : (H : Context) {o p : Option Thing} (n : ℕ) → Pushed o p → AlikeIn H (subst_of (both pushed_on o p)) (shift_by n) → ⊥
push-unlike H n x a = (subst (λ d. AlikeIn H d (shift_by n)) (ap subst_of x.whole) a).pushed

-- two closures are left to compare
pub record Places (f : Meanings) (H : Context) (goal : Type 0) (known : List (List Waiting)) (left right : SubstClosure) (pairs : List Pair) : Type 0 where
  pub left_stands : IsSubstClosure f known left
  pub right_stands : IsSubstClosure f known right
  pub asking : Asking f known goal (AlikeIn H (subst_of (subst_closure_meaning f known left)) (subst_of (subst_closure_meaning f known right))) [] pairs

-- two closures with trees pushed on them are
pub record Opened (f : Meanings) (H : Context) (goal : Type 0) (known : List (List Waiting)) (d e : SubstClosure) (a b : Closure) (pairs : List Pair) : Type 0 where
  pub left_stands : IsSubstClosure f known d
  pub right_stands : IsSubstClosure f known e
  pub tree_stands : IsClosure f known 0 a
  pub other_stands : IsClosure f known 0 b
  pub asking : Asking f known goal (AreAlike H (tree_of (closure_meaning f known a)) (tree_of (closure_meaning f known b)) × AlikeIn H (subst_of (subst_closure_meaning f known d)) (subst_of (subst_closure_meaning f known e))) [] pairs

pub places-begin : (f : Meanings) (H : Context) (known : List (List Waiting)) (left right : ℕ) (first second : SubstClosure) (pairs : List Pair) → first.row.0 ≡ left → first.environment ≡ env.Empty → second.row.0 ≡ right → second.environment ≡ env.Empty → IsSubst (f left) → IsSubst (f right) → pairs ≡ [] → Places f H (AlikeIn H (subst_of (f left)) (subst_of (f right))) known first second pairs
places-begin f H known left right first second pairs l le r re ls rs none =
    let ml = ap subst_of (subst_row-meaning f known left first l le ls) in
    let mr = ap subst_of (subst_row-meaning f known right second r re rs) in
    record {
      left_stands = subst_row-stands f known left first l le ls;
      right_stands = subst_row-stands f known right second r re rs;
      asking = rw none (asking-begin f known _ _ []
          (λ a. subst (λ d. AlikeIn H d (subst_of (subst_closure_meaning f known second))) (sym ml) (subst (AlikeIn H (subst_of (f left))) (sym mr) a))
          (λ a. subst (λ d. AlikeIn H d (subst_of (f right))) ml (subst (AlikeIn H (subst_of (subst_closure_meaning f known first))) mr a)));
    }

-- the same closures are alike
pub places-same : {f : Meanings} {H : Context} {goal : Type 0} {known : List (List Waiting)} {left right : SubstClosure} {pairs : List Pair} → Places f H goal known left right pairs → left ≡ right → Asks f known goal [] pairs
places-same {f = f} {H = H} {goal = goal} {known = known} {left = left} {right = right} {pairs = pairs} s e =
    asking-end f known goal _ [] pairs s.asking
    (subst (λ c. AlikeIn H (subst_of (subst_closure_meaning f known left)) (subst_of (subst_closure_meaning f known c))) e (alike-same H (subst_of (subst_closure_meaning f known left))))

module _ {f : Meanings} {H : Context} {goal : Type 0} {before : List (List Waiting)} {left right : SubstClosure} {pairs : List Pair} (s : Places f H goal before left right pairs) (known : List (List Waiting)) where
  -- the heads are left to compare
  heads-asking : (first second : SubstHead) → SubstHeads f before known left right first second → Asking f known goal (AlikeIn H (subst_of (subst_head_meaning f known first)) (subst_of (subst_head_meaning f known second))) [] pairs
  heads-asking first second h =
      let l = ap subst_of h.first_is in
      let r = ap subst_of h.second_is in
      asking-grows f before goal _ [] pairs s.asking known _ (All-nil (IsPair f before 0)) h.grows
      (λ a. subst (λ d. AlikeIn H d (subst_of (subst_head_meaning f known second))) (sym l) (subst (AlikeIn H (subst_of (subst_closure_meaning f before left))) (sym r) a))
      (λ a. subst (λ d. AlikeIn H d (subst_of (subst_closure_meaning f before right))) l (subst (AlikeIn H (subst_of (subst_head_meaning f known first))) r a))

  pub shifts-alike : (n m : ℕ) → SubstHeads f before known left right (Shift n) (Shift m) → n ≡ m → Asks f known goal [] pairs
  shifts-alike n m h e = asking-end f known goal _ [] pairs (heads-asking (Shift n) (Shift m) h) record { shift = e; pushed = tt }

  pub shifts-unlike : (n m : ℕ) → SubstHeads f before known left right (Shift n) (Shift m) → (n ≡ m → ⊥) → goal → ⊥
  shifts-unlike n m h differ = asking-no f known goal _ [] pairs (heads-asking (Shift n) (Shift m) h) (λ a. differ a.shift)

  pub shift-and-push : (n : ℕ) (e : SubstClosure) (b : Closure) → SubstHeads f before known left right (Shift n) (Push e b) → goal → ⊥
  shift-and-push n e b h = asking-no f known goal _ [] pairs (heads-asking (Shift n) (Push e b) h) (shift-unlike H n (pushed f known e b h.second_stands.0 h.second_stands.1))

  pub push-and-shift : (d : SubstClosure) (a : Closure) (m : ℕ) → SubstHeads f before known left right (Push d a) (Shift m) → goal → ⊥
  push-and-shift d a m h = asking-no f known goal _ [] pairs (heads-asking (Push d a) (Shift m) h) (push-unlike H m (pushed f known d a h.first_stands.0 h.first_stands.1))

  module _ (d e : SubstClosure) (a b : Closure) (h : SubstHeads f before known left right (Push d a) (Push e b)) where
    pub pushes-opened : Opened f H goal known d e a b pairs
    pushes-opened =
        let l = pushed f known d a h.first_stands.0 h.first_stands.1 in
        let r = pushed f known e b h.second_stands.0 h.second_stands.1 in
        record {
          left_stands = h.first_stands.0;
          right_stands = h.second_stands.0;
          tree_stands = h.first_stands.1;
          other_stands = h.second_stands.1;
          asking = asking-grows f known goal _ [] pairs (heads-asking (Push d a) (Push e b) h) known _ (All-nil (IsPair f known 0)) (grows-same known)
              (alike-split H l r)
              (λ x. alike-join H l r x.0 x.1);
        }

    -- also over nodes that are added
    pub pushes-smaller : (newer : List (List Waiting)) → Grows known newer → trees_in (subst_closure_meaning f newer d) < trees_in (subst_closure_meaning f before left)
    pushes-smaller newer g =
        let l = pushed f known d a h.first_stands.0 h.first_stands.1 in
        let whole = ap trees_in (sym h.first_is ∙ l.whole) in
        let part = ap trees_in (subst_closure-grows f known newer d g h.first_stands.0 ∙ l.rest_is) in
        omega arith

-- the trees that are pushed were asked for, which may have added nodes

module _ {f : Meanings} {H : Context} {goal : Type 0} {known : List (List Waiting)} {d e : SubstClosure} {a b : Closure} {pairs : List Pair} (s : Opened f H goal known d e a b pairs) where
  abbrev Here : Type 0
  Here = AreAlike H (tree_of (closure_meaning f known a)) (tree_of (closure_meaning f known b))

  abbrev Rest : List (List Waiting) → Type 0
  Rest nodes = AlikeIn H (subst_of (subst_closure_meaning f nodes d)) (subst_of (subst_closure_meaning f nodes e))

  pub opened-unlike : (Here → ⊥) → goal → ⊥
  opened-unlike never = asking-no f known goal _ [] pairs s.asking (λ x. never x.0)

  pub opened-next : (newer : List (List Waiting)) (new : List Pair) → Grows known newer → Asks f newer Here pairs new → Places f H goal newer d e new
  opened-next newer new g asks = record {
    left_stands = is_subst_closure-grows f known newer d g s.left_stands;
    right_stands = is_subst_closure-grows f known newer e g s.right_stands;
    asking = asking-next f newer goal _ [] pairs
        (asking-grows f known goal _ [] pairs s.asking newer (Here × Rest newer) (All-nil (IsPair f known 0)) g
        (λ x. (x.0, forth x.1))
        (λ x. (x.0, back x.1)))
        Here (Rest newer) new
        (λ x. x)
        (λ x y. (x, y))
        asks;
  }
    where
      l : subst_of (subst_closure_meaning f newer d) ≡ subst_of (subst_closure_meaning f known d)
      l = ap subst_of (subst_closure-grows f known newer d g s.left_stands)

      r : subst_of (subst_closure_meaning f newer e) ≡ subst_of (subst_closure_meaning f known e)
      r = ap subst_of (subst_closure-grows f known newer e g s.right_stands)

      forth : Rest known → Rest newer
      forth x = subst (λ c. AlikeIn H c (subst_of (subst_closure_meaning f newer e))) (sym l) (subst (AlikeIn H (subst_of (subst_closure_meaning f known d))) (sym r) x)

      back : Rest newer → Rest known
      back x = subst (λ c. AlikeIn H c (subst_of (subst_closure_meaning f known e))) l (subst (AlikeIn H (subst_of (subst_closure_meaning f newer d))) r x)

-- the trees of one place

formulas-equal : (H : Context) (r s : Tree) → IsTrue (is_formula H r) → IsTrue (is_formula H s) → AreAlike H r s → SameIn H r s
formulas-equal H r s left right (inl same) = record { left = left; right = right; agree = λ x sat v over. ap (value v) same }
formulas-equal H r s left right (inr alike) = alike

module _ (f : Meanings) (known : List (List Waiting)) (H : Context) (r s : Tree) where
  pub formulas-asked : (b : Bool) (pairs : List Pair) → AreFormulas H r s b → b ≡ true → Asks f known (AreAlike H r s) pairs pairs
  formulas-asked b pairs formulas is = asks-true f known (AreAlike H r s) pairs (inr (formulas.exact.0 is))

  pub formulas-unlike : (b : Bool) → AreFormulas H r s b → b ≡ false → AreAlike H r s → ⊥
  formulas-unlike b formulas is_false alike =
      let is_true : b ≡ true = formulas.exact.1 (formulas-equal H r s formulas.left formulas.right alike) in
      let wrong : false ≡ true = sym is_false ∙ is_true in
      cc

-- trees that are not both formulas have to be equal
pub trees-asked : (f : Meanings) (known newer : List (List Waiting)) (H : Context) (a b : Closure) (p : Pair) (old new : List Pair)
    → p.left ≡ a → p.right ≡ b → Grows known newer → IsClosure f known 0 a → IsClosure f known 0 b
    → (IsTrue (is_formula H (tree_of (closure_meaning f known a))) → IsTrue (is_formula H (tree_of (closure_meaning f known b))) → ⊥)
    → Adds p old new → Asks f newer (AreAlike H (tree_of (closure_meaning f known a)) (tree_of (closure_meaning f known b))) old new
trees-asked f known newer H a b p old new pa pb g sa sb none adds =
    asks-as f newer (Agrees f newer p) _ old new to fro
    (asks-pair f newer p old new (subst (IsClosure f newer 0) (sym pa) (closure-grows f known newer 0 a g sa), subst (IsClosure f newer 0) (sym pb) (closure-grows f known newer 0 b g sb)) adds)
  where
    left_is : closure_meaning f newer p.left ≡ closure_meaning f known a
    left_is = ap (closure_meaning f newer) pa ∙ closure_meaning-grows f known newer a g sa.environment.within

    right_is : closure_meaning f newer p.right ≡ closure_meaning f known b
    right_is = ap (closure_meaning f newer) pb ∙ closure_meaning-grows f known newer b g sb.environment.within

    to : Agrees f newer p → AreAlike H (tree_of (closure_meaning f known a)) (tree_of (closure_meaning f known b))
    to agrees = inl (ap tree_of (sym left_is ∙ agrees ∙ right_is))

    fro : AreAlike H (tree_of (closure_meaning f known a)) (tree_of (closure_meaning f known b)) → Agrees f newer p
    fro (inl same) =
        let x = closure-tree f known 0 a sa in
        let y = closure-tree f known 0 b sb in
        left_is ∙ x.1 ∙ ap (λ t. Some (ATree t)) (sym (ap tree_of x.1) ∙ same ∙ ap tree_of y.1) ∙ sym y.1 ∙ sym right_is
    fro (inr alike) = absurd (none alike.left alike.right)
