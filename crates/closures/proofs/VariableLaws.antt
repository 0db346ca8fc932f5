-- What a variable becomes that meets the substitution of a row.
use Rattle.std.proofs.Common.{◌≡◌, ℕ, zero, suc, ◌+◌, ◌-◌, ◌<◌, ◌≤◌, List, [], ◌∷◌, Option, Some, None, refl, sym, ◌∙◌, ap, ap₂, subst, arith}
use Rattle.std.specs.List.{All}
use Rattle.std.proofs.lemmas.List.Elements.{All-nil, All-cons, All-head, All-tail, All-same}
use Rattle.trees.specs.Trees.{Tree, Subst, Var, shift_by, push, then, count_of}
use Rattle.trees.specs.Things.{Thing, ATree, ASubst, Meanings, both, pushed_on, then_of}
use Rattle.substitution.specs.Delayed.{at_depth, here, closed}
use Rattle.substitution.proofs.Closures.{closed-var_below, closed-var_push_here, closed-var_push_next, closed-var_shift_by, closed-var_past, closed-then, closed-id}
use Rattle.rows.specs.declared.views.TermId.{TermId}
use Rattle.rows.specs.declared.views.SubId.{SubId}
use Rattle.rows.specs.Views.{IsSubst}
use Rattle.rows.specs.Tables.{Grows}
use Rattle.closures.specs.Environments.{Waiting, waiting, deepened, listed, IsWithin}
use Rattle.closures.specs.Closures.{subst_of, delayed_subst, delays, under, variable_meaning, entered_meaning, IsDelayed, Stands, StandsUnder, EnteredStands, IsPassed, IsNear, raised_list}
use Rattle.closures.specs.Weights.{row_weight, weight_of, entered_weight}
use Rattle.closures.specs.declared.environments.Delayed.TheVariants.{Under, Raised}
use Rattle.closures.specs.declared.environments.Environment.{Environment}
use Rattle.closures.specs.declared.variables.Entered.{Entered}
use Rattle.closures.specs.declared.variables.Entered.TheVariants as entered
use Rattle.rows.proofs.TableLaws.{grows-same, grows-grows}
use Rattle.closures.proofs.WeightLaws.{row_weight-pos, row_weight-rises, row_weight-one, row_weight-two, weight_of-deepened, weight_of-raised_list}

-- the parts of a row's substitution

pub record IsPush (f : Meanings) (row next tree : ℕ) : Type 0 where
  pub rest : Subst
  pub pushed : Tree
  pub next_is : f next ≡ Some (ASubst rest)
  pub tree_is : f tree ≡ Some (ATree pushed)
  pub row_is : f row ≡ Some (ASubst (push rest pushed))

pub is_push : (f : Meanings) (row next tree : ℕ) → IsSubst (f row) → f row ≡ both pushed_on (f next) (f tree) → IsPush f row next tree
is_push f row next tree s e = by (f next) (f tree) refl refl
  where
    by : (x y : Option Thing) → f next ≡ x → f tree ≡ y → IsPush f row next tree
    by (Some (ASubst d)) (Some (ATree t)) p q = record { rest = d; pushed = t; next_is = p; tree_is = q; row_is = e ∙ ap₂ (both pushed_on) p q }
    by x (Some y) p q = absurd (cc (s.1, e ∙ ap₂ (both pushed_on) p q))
    by (Some x) None p q = absurd (cc (s.1, e ∙ ap₂ (both pushed_on) p q))
    by None None p q = absurd (cc (s.1, e ∙ ap₂ (both pushed_on) p q))

pub record IsThen (f : Meanings) (row first second : ℕ) : Type 0 where
  pub before : Subst
  pub after : Subst
  pub first_is : f first ≡ Some (ASubst before)
  pub second_is : f second ≡ Some (ASubst after)
  pub row_is : f row ≡ Some (ASubst (then before after))

pub is_then : (f : Meanings) (row first second : ℕ) → IsSubst (f row) → f row ≡ both then_of (f first) (f second) → IsThen f row first second
is_then f row first second s e = by (f first) (f second) refl refl
  where
    by : (x y : Option Thing) → f first ≡ x → f second ≡ y → IsThen f row first second
    by (Some (ASubst d)) (Some (ASubst t)) p q = record { before = d; after = t; first_is = p; second_is = q; row_is = e ∙ ap₂ (both then_of) p q }
    by x (Some y) p q = absurd (cc (s.1, e ∙ ap₂ (both then_of) p q))
    by (Some x) None p q = absurd (cc (s.1, e ∙ ap₂ (both then_of) p q))
    by None None p q = absurd (cc (s.1, e ∙ ap₂ (both then_of) p q))

-- one step of a variable's walk

pub step-below : (f : Meanings) (w : Waiting) (ws : List Waiting) (k : ℕ) → k < w.depth → variable_meaning f (w ∷ ws) k ≡ variable_meaning f ws k
step-below f w ws k lt = ap (λ t. Some (ATree t)) (closed-var_below k (at_depth w.depth (delayed_subst f w.delayed)) (delays f ws) lt)

-- past all the trees that a substitution pushes
pub step-past : (f : Meanings) (row : SubId) (n k : ℕ) (d : Subst) (ws : List Waiting) → f row.0 ≡ Some (ASubst d) → n + count_of d.pushed ≤ k → variable_meaning f (waiting n (Under row) ∷ ws) k ≡ variable_meaning f ws (k - count_of d.pushed + d.shift)
step-past f row n k d ws e le =
    ap (λ t. Some (ATree t))
    (ap (λ x. closed (Var k) (at_depth n (subst_of x) ∷ delays f ws)) e
    ∙ closed-var_past k (at_depth n d) (delays f ws) le)

pub step-raised : (f : Meanings) (n by k : ℕ) (ws : List Waiting) → n ≤ k → variable_meaning f (waiting n (Raised by) ∷ ws) k ≡ variable_meaning f ws (k + by)
step-raised f n by k ws le = ap (λ t. Some (ATree t)) (closed-var_shift_by k n by (delays f ws) le)

pub step-next : (f : Meanings) (row next : SubId) (tree : TermId) (n k : ℕ) (ws : List Waiting) → n < k → IsPush f row.0 next.0 tree.0 → variable_meaning f (waiting n (Under row) ∷ ws) k ≡ variable_meaning f (waiting n (Under next) ∷ ws) (k - 1)
step-next f row next tree n k ws lt p =
    let back : k ≡ suc (k - 1) = omega arith in
    ap (λ t. Some (ATree t))
    (ap₂ (λ x j. closed (Var j) (at_depth n (subst_of x) ∷ delays f ws)) p.row_is back
    ∙ closed-var_push_next (k - 1) n p.rest p.pushed (delays f ws) (omega arith)
    ∙ ap (λ x. closed (Var (k - 1)) (at_depth n (subst_of x) ∷ delays f ws)) (sym p.next_is))

pub closed-raised_list : (f : Meanings) (t : Tree) (n : ℕ) (ws : List Waiting) → closed t (here (shift_by n) ∷ delays f ws) ≡ closed t (delays f (raised_list n ws))
closed-raised_list f t zero ws = closed-id t 0 (delays f ws)
closed-raised_list f t (suc n) ws = refl

pub step-here : (f : Meanings) (row next : SubId) (tree : TermId) (n : ℕ) (ws : List Waiting) → IsPush f row.0 next.0 tree.0 → variable_meaning f (waiting n (Under row) ∷ ws) n ≡ under (f tree.0) (delays f (raised_list n ws))
step-here f row next tree n ws p =
    ap (λ t. Some (ATree t))
    (ap (λ x. closed (Var n) (at_depth n (subst_of x) ∷ delays f ws)) p.row_is
    ∙ closed-var_push_here n p.rest p.pushed (delays f ws)
    ∙ closed-raised_list f p.pushed n ws)
    ∙ ap (λ x. under x (delays f (raised_list n ws))) (sym p.tree_is)

pub step-then : (f : Meanings) (row first second : SubId) (n k : ℕ) (ws : List Waiting) → IsThen f row.0 first.0 second.0 → variable_meaning f (waiting n (Under row) ∷ ws) k ≡ variable_meaning f (waiting n (Under first) ∷ waiting n (Under second) ∷ ws) k
step-then f row first second n k ws p =
    ap (λ t. Some (ATree t))
    (ap (λ x. closed (Var k) (at_depth n (subst_of x) ∷ delays f ws)) p.row_is
    ∙ sym (closed-then (Var k) n p.before p.after (delays f ws))
    ∙ ap₂ (λ x y. closed (Var k) (at_depth n (subst_of x) ∷ at_depth n (subst_of y) ∷ delays f ws)) (sym p.first_is) (sym p.second_is))

-- what holds of every step holds of the deeper ones
pub All-deepened : (P Q : Waiting → Type 0) (b : ℕ) → ((w : Waiting) → P w → Q (waiting (w.depth + b) w.delayed)) → (ws : List Waiting) → All P ws → All Q (deepened b ws)
All-deepened P Q b h [] all = All-nil Q
All-deepened P Q b h (w ∷ ws) all =
    All-cons Q (waiting (w.depth + b) w.delayed) (deepened b ws) (h w (All-head P w ws all)) (All-deepened P Q b h ws (All-tail P w ws all))

abbrev pub FitsUnder : ℕ → Waiting → Type 0
FitsUnder n w = w.depth ≤ n

abbrev pub DelayedStands : Meanings → Waiting → Type 0
DelayedStands f w = IsDelayed f w.delayed

-- an environment under the binders under which it waits
pub stands-past : (f : Meanings) (known : List (List Waiting)) (n lift : ℕ) (after rest : Environment) → StandsUnder f known n lift after → listed known rest ≡ deepened lift (listed known after) → IsWithin known rest → Stands f known n rest
stands-past f known n lift after rest s list within = record {
  within = within;
  substs = All-same (DelayedStands f) _ _ list (All-deepened (DelayedStands f) (DelayedStands f) lift (λ w h. h) (listed known after) s.substs);
  shallow = All-same (FitsUnder n) _ _ list (All-deepened (λ w. w.depth + lift ≤ n) (FitsUnder n) lift (λ w h. h) (listed known after) s.shallow);
}

pub stands-raised : (f : Meanings) (known newer : List (List Waiting)) (n lift : ℕ) (after rest : Environment) → StandsUnder f known n lift after → listed newer rest ≡ raised_list lift (deepened lift (listed known after)) → IsWithin newer rest → Stands f newer n rest
stands-raised f known newer n lift after rest s list within =
    let substs = All-deepened (DelayedStands f) (DelayedStands f) lift (λ w h. h) (listed known after) s.substs in
    let shallow = All-deepened (λ w. w.depth + lift ≤ n) (FitsUnder n) lift (λ w h. h) (listed known after) s.shallow in
    record {
      within = within;
      substs = All-same (DelayedStands f) _ _ list (substs_of lift _ substs);
      shallow = All-same (FitsUnder n) _ _ list (shallow_of lift _ shallow);
    }
  where
    substs_of : (k : ℕ) (ws : List Waiting) → All (DelayedStands f) ws → All (DelayedStands f) (raised_list k ws)
    substs_of zero ws all = all
    substs_of (suc k) ws all = All-cons (DelayedStands f) (waiting 0 (Raised (suc k))) ws tt all

    shallow_of : (k : ℕ) (ws : List Waiting) → All (FitsUnder n) ws → All (FitsUnder n) (raised_list k ws)
    shallow_of zero ws all = all
    shallow_of (suc k) ws all = All-cons (FitsUnder n) (waiting 0 (Raised (suc k))) ws (omega arith) all

pub stands-under-push : (f : Meanings) (known newer : List (List Waiting)) (n lift : ℕ) (row : SubId) (after more : Environment) → StandsUnder f known n lift after → IsSubst (f row.0) → listed newer more ≡ waiting 0 (Under row) ∷ listed known after → IsWithin newer more → StandsUnder f newer n lift more
stands-under-push f known newer n lift row after more s sub list within = record {
  below = s.below;
  within = within;
  substs = All-same (DelayedStands f) _ _ list (All-cons (DelayedStands f) (waiting 0 (Under row)) (listed known after) sub s.substs);
  shallow = All-same (λ w. w.depth + lift ≤ n) _ _ list (All-cons (λ w. w.depth + lift ≤ n) (waiting 0 (Under row)) (listed known after) (let b = s.below in omega arith) s.shallow);
}

-- The walk of a variable through the substitution of a row, under `lift` binders before `after`: how far it has come
-- from the first row, index and environment, and where it ends.

abbrev pub meets : Meanings → List (List Waiting) → SubId → ℕ → ℕ → Environment → Option Thing
meets f known row index lift after = variable_meaning f (waiting lift (Under row) ∷ deepened lift (listed known after)) index

pub record Walks (f : Meanings) (old : List (List Waiting)) (row0 : SubId) (index0 lift : ℕ) (after0 : Environment) (new : List (List Waiting)) (row : SubId) (index : ℕ) (after : Environment) : Type 0 where
  pub is_subst : IsSubst (f row.0)
  pub grows : Grows old new
  pub above : lift ≤ index
  pub falls : index ≤ index0
  pub stands : (n : ℕ) → StandsUnder f old n lift after0 → StandsUnder f new n lift after
  pub meaning : meets f new row index lift after ≡ meets f old row0 index0 lift after0
  pub weight : row_weight row.0 + weight_of (listed new after) ≤ row_weight row0.0 + weight_of (listed old after0)

pub record Arrives (f : Meanings) (old : List (List Waiting)) (row0 : SubId) (index0 lift : ℕ) (after0 : Environment) (new : List (List Waiting)) (e : Entered) : Type 0 where
  pub grows : Grows old new
  pub meaning : entered_meaning f new e ≡ meets f old row0 index0 lift after0
  pub stands : (n : ℕ) → StandsUnder f old n lift after0 → EnteredStands f new n e
  pub weight : entered_weight new e < row_weight row0.0 + weight_of (listed old after0)
  pub near : IsNear index0 e

pub walks-first : (f : Meanings) (old : List (List Waiting)) (row0 : SubId) (index0 lift : ℕ) (after0 : Environment) → IsSubst (f row0.0) → lift ≤ index0 → Walks f old row0 index0 lift after0 old row0 index0 after0
walks-first f old row0 index0 lift after0 s le = record {
  is_subst = s;
  grows = grows-same old;
  above = le;
  falls = omega arith;
  stands = λ n h. h;
  meaning = refl;
  weight = omega arith;
}

module _ {f : Meanings} {old : List (List Waiting)} {row0 : SubId} {index0 lift : ℕ} {after0 : Environment} {new : List (List Waiting)} {row : SubId} {index : ℕ} {after : Environment} (w : Walks f old row0 index0 lift after0 new row index after) where
  pub walks-next : (next : SubId) (tree : TermId) → IsPush f row.0 next.0 tree.0 → next.0 < row.0 → lift < index → Walks f old row0 index0 lift after0 new next (index - 1) after
  walks-next next tree p lt le = record {
    is_subst = (p.rest, p.next_is);
    grows = w.grows;
    above = omega arith;
    falls = let b = w.falls in omega arith;
    stands = w.stands;
    meaning = sym (step-next f row next tree lift index (deepened lift (listed new after)) le p) ∙ w.meaning;
    weight = let a = w.weight in let r = row_weight-rises next.0 row.0 (omega arith) in omega arith;
  }

  pub walks-then : (first second : SubId) (newer : List (List Waiting)) (more : Environment) → IsThen f row.0 first.0 second.0 → first.0 < row.0 → second.0 < row.0 → Grows new newer → listed newer more ≡ waiting 0 (Under second) ∷ listed new after → IsWithin newer more → Walks f old row0 index0 lift after0 newer first index more
  walks-then first second newer more p lt1 lt2 g list within = record {
    is_subst = (p.before, p.first_is);
    grows = grows-grows old new newer w.grows g;
    above = w.above;
    falls = w.falls;
    stands = λ n h. stands-under-push f new newer n lift second after more (w.stands n h) (p.after, p.second_is) list within;
    meaning =
        ap (λ ws. variable_meaning f (waiting lift (Under first) ∷ deepened lift ws) index) list
        ∙ ap (λ n. variable_meaning f (waiting lift (Under first) ∷ waiting n (Under second) ∷ deepened lift (listed new after)) index) (let e : 0 + lift ≡ lift = omega arith in e)
        ∙ sym (step-then f row first second lift index (deepened lift (listed new after)) p)
        ∙ w.meaning;
    weight =
        let a = w.weight in
        let r = row_weight-two first.0 second.0 row.0 lt1 lt2 in
        let e : weight_of (listed newer more) ≡ row_weight second.0 + weight_of (listed new after) = ap weight_of list in
        omega arith;
  }

  pub arrives-past : (past : ℕ) (rest : Environment) → IsPassed (f row.0) lift index (Some past) → listed new rest ≡ deepened lift (listed new after) → IsWithin new rest → Arrives f old row0 index0 lift after0 new (entered.Past past rest)
  arrives-past past rest passes list within =
      let d = w.is_subst.0 in
      let p = subst (λ o. IsPassed o lift index (Some past)) w.is_subst.1 passes in
      record {
        grows = w.grows;
        meaning =
            ap₂ (variable_meaning f) list p.1
            ∙ sym (step-past f row lift index d (deepened lift (listed new after)) w.is_subst.1 p.0)
            ∙ w.meaning;
        stands = λ n h. stands-past f new n lift after rest (w.stands n h) list within;
        weight =
            let a = w.weight in
            let pos = row_weight-pos row.0 in
            let e' : weight_of (listed new rest) ≡ weight_of (listed new after) = ap weight_of list ∙ weight_of-deepened lift (listed new after) in
            omega arith;
        near = let b = w.falls in omega (arith, p.1, p.2);
      }

  pub arrives-tree : (next : SubId) (tree : TermId) (newer : List (List Waiting)) (rest : Environment) → IsPush f row.0 next.0 tree.0 → tree.0 < row.0 → index ≡ lift → Grows new newer → listed newer rest ≡ raised_list lift (deepened lift (listed new after)) → IsWithin newer rest → Arrives f old row0 index0 lift after0 newer (entered.Tree (record { row = tree; environment = rest }))
  arrives-tree next tree newer rest p lt here g list within = record {
    grows = grows-grows old new newer w.grows g;
    meaning =
        ap (λ ws. under (f tree.0) (delays f ws)) list
        ∙ sym (step-here f row next tree lift (deepened lift (listed new after)) p)
        ∙ ap (λ k. meets f new row k lift after) (sym here)
        ∙ w.meaning;
    stands = λ n h. record {
      row = (p.pushed, p.tree_is);
      environment = stands-raised f new newer n lift after rest (w.stands n h) list within;
    };
    weight =
        let a = w.weight in
        let r = row_weight-one tree.0 row.0 lt in
        let e' : weight_of (listed newer rest) ≡ weight_of (raised_list lift (deepened lift (listed new after))) = ap weight_of list in
        let l = weight_of-raised_list lift (deepened lift (listed new after)) in
        let d = weight_of-deepened lift (listed new after) in
        omega arith;
    near = tt;
  }
