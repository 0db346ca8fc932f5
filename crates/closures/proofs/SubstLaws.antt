-- The walk to the outermost form of a substitution. What is left weighs less after each step, so that no node is passed
-- twice, and each adds one shift at most to the number of trees that are dropped.
use Rattle.std.proofs.Common.{◌≡◌, ℕ, zero, suc, ◌+◌, ◌-◌, ◌*◌, ◌^◌, ◌<◌, ◌≤◌, List, [], ◌∷◌, length, length-append, map, refl, sym, ◌∙◌, ap, ap₂, subst, arith, Option, Some, None}
use Rattle.std.specs.Prelude.{slice_get}
use Rattle.std.specs.List.{All}
use Rattle.std.proofs.lemmas.Option.{get_or_from_slice_get}
use Rattle.std.proofs.lemmas.List.Elements.{All-cons, All-head, All-tail, All-weaker}
use Rattle.trees.specs.Trees.{Tree, Trees, NoTrees, More, Subst, apply, shift_by, push, without, then, id, count_of}
use Rattle.trees.specs.Things.{Thing, ATree, ASubst, Meanings, both, pushed_on, then_of}
use Rattle.substitution.specs.Shifts.{then_all}
use Rattle.substitution.specs.Delayed.{here, closed}
use Rattle.substitution.proofs.ThenLaws.{then-assoc, id-then, then-id, push-then, shift_by-then-push}
use Rattle.substitution.proofs.Closures.{apply-then_all}
use Rattle.closures.specs.declared.environments.Delayed.{Delayed}
use Rattle.closures.specs.declared.environments.Delayed.TheVariants.{Under, Raised}
use Rattle.closures.specs.declared.environments.Environment.{Environment}
use Rattle.closures.specs.declared.environments.Environment.TheVariants as env
use Rattle.closures.specs.declared.substs.SubstClosure.{SubstClosure}
use Rattle.closures.specs.declared.substs.SubstHead.TheVariants.{Shift, Push}
use Rattle.rows.specs.declared.views.TermId.{TermId}
use Rattle.rows.specs.declared.views.SubId.{SubId}
use Rattle.rows.specs.Views.{IsSubst}
use Rattle.rows.specs.Tables.{Grows}
use Rattle.closures.specs.Environments.{Waiting, waiting, deepest, deepened, listed, IsWithin}
use Rattle.closures.specs.Closures.{subst_of, delays, delayed_subst, under, IsDelayed, IsPassed, Stands}
use Rattle.closures.specs.Weights.{row_weight, weight_of}
use Rattle.closures.specs.Substs.{followed_by, waiting_substs, subst_closure_meaning, subst_head_meaning, IsPlain, IsPlainSubst, IsSubstClosure, WaitsFirst}
use Rattle.rows.proofs.OptionLaws.{both-some}
use Rattle.rows.proofs.TableLaws.{grows-same, grows-grows}
use Rattle.closures.proofs.EnvironmentLaws.{deepened-zero}
use Rattle.closures.proofs.WeightLaws.{row_weight-pos, row_weight-one, row_weight-two}
use Rattle.closures.proofs.LookLaws.{light_count, light_count-most, light_count-rises, light_count-append, light_count-less}

-- a row of a push is a substitution and a tree, and a row of a `then` two substitutions

pub push-parts : (o p : Option Thing) (d : Subst) → both pushed_on o p ≡ Some (ASubst d) → (e : Subst) × (a : Tree) × (o ≡ Some (ASubst e)) × (p ≡ Some (ATree a)) × (d ≡ push e a)
push-parts o p d is =
    let b = both-some pushed_on o p (ASubst d) is in
    let s = parts b.first b.second b.whole in
    (s.0, s.1, b.first_is ∙ ap Some s.2, b.second_is ∙ ap Some s.3, s.4)
  where
    parts : (x y : Thing) → pushed_on x y ≡ Some (ASubst d) → (e : Subst) × (a : Tree) × (x ≡ ASubst e) × (y ≡ ATree a) × (d ≡ push e a)
    parts (ASubst e) (ATree a) e' = let same : push e a ≡ d = cc in (e, a, refl, refl, sym same)
    parts _ _ e' = cc

pub then-parts : (o p : Option Thing) (d : Subst) → both then_of o p ≡ Some (ASubst d) → (a : Subst) × (b : Subst) × (o ≡ Some (ASubst a)) × (p ≡ Some (ASubst b)) × (d ≡ then a b)
then-parts o p d is =
    let b = both-some then_of o p (ASubst d) is in
    let s = parts b.first b.second b.whole in
    (s.0, s.1, b.first_is ∙ ap Some s.2, b.second_is ∙ ap Some s.3, s.4)
  where
    parts : (x y : Thing) → then_of x y ≡ Some (ASubst d) → (a : Subst) × (b : Subst) × (x ≡ ASubst a) × (y ≡ ASubst b) × (d ≡ then a b)
    parts (ASubst a) (ASubst b) e = let same : then a b ≡ d = cc in (a, b, refl, refl, sym same)
    parts _ _ e = cc

-- a thing without what it does to the first n indices, where it is a substitution
abbrev pub without_first : ℕ → Option Thing → Option Thing
without_first n (Some (ASubst d)) = Some (ASubst (then (shift_by n) d))
without_first n _ = None

-- where substitutions wait, all under no binder
plain-delays : (f : Meanings) (ws : List Waiting) → All (IsPlainSubst f) ws → delays f ws ≡ map here (waiting_substs f ws)
plain-delays f [] all = refl
plain-delays f (w ∷ ws) all =
    let first = All-head (IsPlainSubst f) w ws all in
    ap₂ (λ n env. record { depth = n; subst = delayed_subst f w.delayed } ∷ env) first.plain.here (plain-delays f ws (All-tail (IsPlainSubst f) w ws all))

pub plain-stands : (f : Meanings) (known : List (List Waiting)) (e : Environment) → IsWithin known e → All (IsPlainSubst f) (listed known e) → Stands f known 0 e
plain-stands f known e within all = record {
  within = within;
  substs = All-weaker (IsPlainSubst f) (λ w. IsDelayed f w.delayed) (λ w p. subst (IsDelayed f) (sym p.plain.under) p.subst) (listed known e) all;
  shallow = All-weaker (IsPlainSubst f) (λ w. w.depth ≤ 0) (λ w p. let zero_deep : w.depth ≡ 0 = p.plain.here in omega arith) (listed known e) all;
}

pub plain : (f : Meanings) (ws : List Waiting) → All (IsPlainSubst f) ws → All IsPlain ws
plain f ws all = All-weaker (IsPlainSubst f) IsPlain (λ w p. p.plain) ws all

-- a shift that drops all the trees of a substitution is a shift
pub without-all : (n : ℕ) (p : Trees) (s : ℕ) → count_of p ≤ n → without n p s ≡ shift_by (n - count_of p + s)
without-all n NoTrees s le = ap shift_by (let e : s + n ≡ n - 0 + s = omega arith in e)
without-all zero (More t rest) s le = absurd (omega arith)
without-all (suc n) (More t rest) s le = without-all n rest s (omega arith) ∙ ap shift_by (let e : n - count_of rest + s ≡ suc n - suc (count_of rest) + s = omega arith in e)

shift_by-then-all : (n past : ℕ) (d X : Subst) → count_of d.pushed ≤ n → past ≡ n - count_of d.pushed + d.shift → then (shift_by n) (then d X) ≡ then (shift_by past) X
shift_by-then-all n past d X le is =
    sym (then-assoc (shift_by n) d X)
    ∙ ap (λ s. then s X) (without-all n d.pushed d.shift le ∙ ap shift_by (sym is))

-- what is left weighs one more than this
abbrev pub left : ℕ → List Waiting → ℕ
left row ws = row_weight row + weight_of ws - 1

-- so much was dropped on the way from the first closure to this one
pub record Drops (f : Meanings) (known : List (List Waiting)) (first : SubstClosure) (now : List (List Waiting)) (row : SubId) (environment : Environment) (dropped : ℕ) : Type 0 where
  pub grows : Grows known now
  pub stands : IsSubstClosure f now (record { row = row; environment = environment })
  pub meaning : without_first dropped (subst_closure_meaning f now (record { row = row; environment = environment })) ≡ subst_closure_meaning f known first
  pub room : dropped + light_count (left row.0 (listed now environment)) now * deepest ≤ length now * deepest

pub drops-first : (f : Meanings) (known : List (List Waiting)) (first : SubstClosure) → IsSubstClosure f known first → Drops f known first known first.row first.environment 0
drops-first f known first stands = record {
  grows = grows-same known;
  stands = stands;
  meaning =
      let whole = ap (λ o. followed_by o (waiting_substs f (listed known first.environment))) stands.row.1 in
      ap (without_first 0) whole ∙ ap (λ d. Some (ASubst d)) (id-then _) ∙ sym whole;
  room = let m = light_count-most (left first.row.0 (listed known first.environment)) known in omega arith;
}

-- the room that is left when lists are added, and what is left weighs no more
room-grows : (v w dropped : ℕ) (known new : List (List Waiting)) → Grows known new → v ≤ w → dropped + light_count w known * deepest ≤ length known * deepest → dropped + light_count v new * deepest ≤ length new * deepest
room-grows v w dropped known new g le room =
    let rises = light_count-rises v w known le in
    let split : light_count v new ≡ light_count v known + light_count v g.0 = ap (light_count v) g.1 ∙ light_count-append v known g.0 in
    let added = light_count-most v g.0 in
    let size : length new ≡ length known + length g.0 = ap length g.1 ∙ length-append known g.0 in
    omega arith

-- a node of an environment whose substitutions all wait under no binder
node-plain : (known : List (List Waiting)) (e : Environment) (at lift : ℕ) (delayed : Delayed) (rest : Environment) → e ≡ env.Node at lift → slice_get known at ≡ Some (waiting 0 delayed ∷ listed known rest) → All IsPlain (listed known e) → listed known e ≡ waiting 0 delayed ∷ listed known rest
node-plain known e at lift delayed rest is there all =
    let ws = waiting 0 delayed ∷ listed known rest in
    let Plain : List Waiting → Type 0 = All IsPlain in
    let lifted : listed known e ≡ deepened lift ws = ap (listed known) is ∙ ap (deepened lift) (get_or_from_slice_get known at ws [] there) in
    let first = All-head IsPlain (waiting (0 + lift) delayed) (deepened lift (listed known rest)) (subst Plain lifted all) in
    let flat : lift ≡ 0 = omega (arith, first.here) in
    lifted ∙ ap (λ n. deepened n ws) flat ∙ deepened-zero ws

module _ {f : Meanings} {known : List (List Waiting)} {first : SubstClosure} {now : List (List Waiting)} {row : SubId} {environment : Environment} {dropped : ℕ} (l : Drops f known first now row environment dropped) where
  -- a tree is dropped
  pub drops-push : (next : SubId) (tree : TermId) (m : ℕ) → f row.0 ≡ both pushed_on (f next.0) (f tree.0) → next.0 < row.0 → dropped ≡ suc m → Drops f known first now next environment m
  drops-push next tree m is earlier more =
      let ds = waiting_substs f (listed now environment) in
      let p = push-parts (f next.0) (f tree.0) l.stands.row.0 (sym is ∙ l.stands.row.1) in
      let before : without_first dropped (followed_by (f row.0) ds) ≡ Some (ASubst (then (shift_by dropped) (then l.stands.row.0 (then_all ds)))) = ap (λ o. without_first dropped (followed_by o ds)) l.stands.row.1 in
      let after : without_first m (followed_by (f next.0) ds) ≡ Some (ASubst (then (shift_by m) (then p.0 (then_all ds)))) = ap (λ o. without_first m (followed_by o ds)) p.2 in
      record {
        grows = l.grows;
        stands = record { row = (p.0, p.2); within = l.stands.within; plain = l.stands.plain };
        meaning = after ∙ ap (λ d. Some (ASubst d)) (sym (drop_push dropped m p.0 p.1 l.stands.row.0 (then_all ds) more p.4)) ∙ sym before ∙ l.meaning;
        room =
            let less = row_weight-one next.0 row.0 earlier in
            let r = room-grows (left next.0 (listed now environment)) (left row.0 (listed now environment)) dropped now now (grows-same now) (omega arith) l.room in
            omega arith;
      }
    where
      drop_push : (n m : ℕ) (e : Subst) (a : Tree) (d D : Subst) → n ≡ suc m → d ≡ push e a → then (shift_by n) (then d D) ≡ then (shift_by m) (then e D)
      drop_push n m e a d D ns is =
          ap₂ (λ k s. then (shift_by k) (then s D)) ns is
          ∙ ap (then (shift_by (suc m))) (push-then e D a)
          ∙ shift_by-then-push m (then e D) (apply a D)

  -- the second of two substitutions waits
  pub drops-then : (one two : SubId) (new : List (List Waiting)) (longer : Environment) → f row.0 ≡ both then_of (f one.0) (f two.0) → one.0 < row.0 → two.0 < row.0 → Grows now new → listed new longer ≡ waiting 0 (Under two) ∷ listed now environment → IsWithin new longer → Drops f known first new one longer dropped
  drops-then one two new longer is earlier earlier' g list within =
      let ws = listed now environment in
      let ds = waiting_substs f ws in
      let p = then-parts (f one.0) (f two.0) l.stands.row.0 (sym is ∙ l.stands.row.1) in
      let waits : IsPlainSubst f (waiting 0 (Under two)) = record { plain = record { here = refl; row = two; under = refl }; subst = (p.1, p.3) } in
      let Plain : List Waiting → Type 0 = All (IsPlainSubst f) in
      let before : without_first dropped (followed_by (f row.0) ds) ≡ Some (ASubst (then (shift_by dropped) (then l.stands.row.0 (then_all ds)))) = ap (λ o. without_first dropped (followed_by o ds)) l.stands.row.1 in
      let substs : waiting_substs f (listed new longer) ≡ p.1 ∷ ds = ap (waiting_substs f) list ∙ ap (λ o. subst_of o ∷ ds) p.3 in
      let after : without_first dropped (followed_by (f one.0) (waiting_substs f (listed new longer))) ≡ Some (ASubst (then (shift_by dropped) (then p.0 (then p.1 (then_all ds))))) = ap₂ (λ o us. without_first dropped (followed_by o us)) p.2 substs in
      record {
        grows = grows-grows known now new l.grows g;
        stands = record { row = (p.0, p.2); within = within; plain = subst Plain (sym list) (All-cons (IsPlainSubst f) (waiting 0 (Under two)) ws waits l.stands.plain) };
        meaning = after ∙ ap (λ d. Some (ASubst (then (shift_by dropped) d))) (sym (ap (λ d. then d (then_all ds)) p.4 ∙ then-assoc p.0 p.1 (then_all ds))) ∙ sym before ∙ l.meaning;
        room =
            let less = row_weight-two one.0 two.0 row.0 earlier earlier' in
            let weight : weight_of (listed new longer) ≡ row_weight two.0 + weight_of ws = ap weight_of list in
            room-grows (left one.0 (listed new longer)) (left row.0 ws) dropped now new g (omega arith) l.room;
      }

  -- the substitution drops no tree that is left, and all its own trees are dropped
  whole-is : without_first dropped (followed_by (f row.0) (waiting_substs f (listed now environment))) ≡ Some (ASubst (then (shift_by dropped) (then l.stands.row.0 (then_all (waiting_substs f (listed now environment))))))
  whole-is = ap (λ o. without_first dropped (followed_by o (waiting_substs f (listed now environment)))) l.stands.row.1

  passes : (past : ℕ) → IsPassed (f row.0) 0 dropped (Some past) → (count_of l.stands.row.0.pushed ≤ dropped) × (past ≡ dropped - count_of l.stands.row.0.pushed + l.stands.row.0.shift) × (l.stands.row.0.shift ≤ deepest)
  passes past p = let q = subst (λ o. IsPassed o 0 dropped (Some past)) l.stands.row.1 p in (omega (arith, q.0), q.1, q.2)

  -- all its trees are dropped, and what waits first comes next
  pub drops-past : (past : ℕ) (next : SubId) (rest : Environment) → IsPassed (f row.0) 0 dropped (Some past) → WaitsFirst now environment next rest → Drops f known first now next rest past
  drops-past past next rest p w =
      let ws = listed now rest in
      let ds = waiting_substs f ws in
      let Plain : List Waiting → Type 0 = All (IsPlainSubst f) in
      let q = passes past p in
      let all = subst Plain w.list l.stands.plain in
      let first_plain = All-head (IsPlainSubst f) (waiting 0 (Under next)) ws all in
      let substitution : IsSubst (f next.0) = same_row first_plain.plain.row next first_plain.plain.under first_plain.subst in
      let substs : waiting_substs f (listed now environment) ≡ substitution.0 ∷ ds = ap (waiting_substs f) w.list ∙ ap (λ o. subst_of o ∷ ds) substitution.1 in
      let after : without_first past (followed_by (f next.0) ds) ≡ Some (ASubst (then (shift_by past) (then substitution.0 (then_all ds)))) = ap (λ o. without_first past (followed_by o ds)) substitution.1 in
      record {
        grows = l.grows;
        stands = record { row = substitution; within = w.within; plain = All-tail (IsPlainSubst f) (waiting 0 (Under next)) ws all };
        meaning =
            after
            ∙ ap (λ d. Some (ASubst d)) (sym (shift_by-then-all dropped past l.stands.row.0 (then substitution.0 (then_all ds)) q.0 q.1))
            ∙ ap (λ us. Some (ASubst (then (shift_by dropped) (then l.stands.row.0 (then_all us))))) (sym substs)
            ∙ sym whole-is
            ∙ l.meaning;
        room =
            let pos = row_weight-pos row.0 in
            let pos' = row_weight-pos next.0 in
            let weight : weight_of (listed now environment) ≡ row_weight next.0 + weight_of ws = ap weight_of w.list in
            let fewer = light_count-less (left next.0 ws) (left row.0 (listed now environment)) now w.node (waiting 0 (Under next) ∷ ws) w.there (omega arith) (omega arith) in
            let r = l.room in
            omega (arith, q.1, q.2);
      }
    where
      same_row : (r s : SubId) → Under s ≡ Under r → IsSubst (f r.0) → IsSubst (f s.0)
      same_row r s e h = let same : r ≡ s = cc in subst (λ k. IsSubst (f k.0)) same h

  -- and nothing waits
  pub drops-all : (past : ℕ) → IsPassed (f row.0) 0 dropped (Some past) → listed now environment ≡ [] → subst_head_meaning f now (Shift past) ≡ subst_closure_meaning f known first
  drops-all past p none =
      let q = passes past p in
      ap (λ d. Some (ASubst d)) (sym (then-id (shift_by past)))
      ∙ ap (λ d. Some (ASubst d)) (sym (shift_by-then-all dropped past l.stands.row.0 id q.0 q.1))
      ∙ ap (λ ws. Some (ASubst (then (shift_by dropped) (then l.stands.row.0 (then_all (waiting_substs f ws)))))) (sym none)
      ∙ sym whole-is
      ∙ l.meaning

  -- where no tree is to be dropped, a push stands outermost
  pub drops-none : (next : SubId) (tree : TermId) → dropped ≡ 0 → f row.0 ≡ both pushed_on (f next.0) (f tree.0) → subst_head_meaning f now (Push (record { row = next; environment = environment }) (record { row = tree; environment = environment })) ≡ subst_closure_meaning f known first
  drops-none next tree none is =
      let ws = listed now environment in
      let ds = waiting_substs f ws in
      let p = push-parts (f next.0) (f tree.0) l.stands.row.0 (sym is ∙ l.stands.row.1) in
      let after : both pushed_on (followed_by (f next.0) ds) (under (f tree.0) (delays f ws)) ≡ Some (ASubst (push (then p.0 (then_all ds)) (closed p.1 (delays f ws)))) = ap₂ (λ o u. both pushed_on (followed_by o ds) (under u (delays f ws))) p.2 p.3 in
      after
      ∙ ap (λ e. Some (ASubst (push (then p.0 (then_all ds)) (closed p.1 e)))) (plain-delays f ws l.stands.plain)
      ∙ ap (λ d. Some (ASubst d)) (sym (open_push dropped p.0 p.1 l.stands.row.0 ds none p.4))
      ∙ sym whole-is
      ∙ l.meaning
    where
      open_push : (n : ℕ) (e : Subst) (a : Tree) (d : Subst) (ds : List Subst) → n ≡ 0 → d ≡ push e a → then (shift_by n) (then d (then_all ds)) ≡ push (then e (then_all ds)) (closed a (map here ds))
      open_push n e a d ds ns is =
          ap₂ (λ k s. then (shift_by k) (then s (then_all ds))) ns is
          ∙ id-then (then (push e a) (then_all ds))
          ∙ push-then e (then_all ds) a
          ∙ ap (push (then e (then_all ds))) (apply-then_all a ds)

  -- the number of trees that are dropped fits
  pub drops-fit : length now ≤ 2 ^ 64 → dropped + 2 ^ 64 ≤ 2 ^ 128
  drops-fit few = let r = l.room in omega arith

-- the first of an environment's substitutions, which all wait under no binder
pub waits_first : (known : List (List Waiting)) (e : Environment) (at lift : ℕ) (delayed : Delayed) (row : SubId) (rest : Environment) → e ≡ env.Node at lift → slice_get known at ≡ Some (waiting 0 delayed ∷ listed known rest) → IsWithin known rest → delayed ≡ Under row → All IsPlain (listed known e) → WaitsFirst known e row rest
waits_first known e at lift delayed row rest is there within under all = record {
  list = node-plain known e at lift delayed rest is there all ∙ ap (λ u. waiting 0 u ∷ listed known rest) under;
  node = at;
  there = there ∙ ap (λ u. Some (waiting 0 u ∷ listed known rest)) under;
  within = within;
}

-- it is the substitution of a row
pub plain-raised : (known : List (List Waiting)) (e : Environment) (at lift : ℕ) (delayed : Delayed) (rest : Environment) (n : ℕ) → e ≡ env.Node at lift → slice_get known at ≡ Some (waiting 0 delayed ∷ listed known rest) → All IsPlain (listed known e) → delayed ≡ Raised n → ⊥
plain-raised known e at lift delayed rest n is there all raised =
    let Plain : List Waiting → Type 0 = All IsPlain in
    let first = All-head IsPlain (waiting 0 delayed) (listed known rest) (subst Plain (node-plain known e at lift delayed rest is there all) all) in
    apart first.row (sym raised ∙ first.under)
  where
    apart : (row : SubId) → Raised n ≡ Under row → ⊥
    apart row e = cc
