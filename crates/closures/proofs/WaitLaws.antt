-- What waits in place of a shift, or of the substitution of a row, and of what waits after it.
use Rattle.std.proofs.Common.{◌≡◌, ℕ, ◌+◌, ◌-◌, ◌≤◌, List, [], ◌∷◌, suc, refl, sym, ◌∙◌, ap, ap₂, subst, arith, Option, Some, None}
use Rattle.std.specs.Prelude.{slice_get}
use Rattle.std.proofs.lemmas.List.Elements.{All-cons}
use Rattle.std.proofs.lemmas.Option.{get_or_from_slice_get}
use Rattle.trees.specs.Trees.{Trees, NoTrees, More, Subst, id, shift_by, then, count_of}
use Rattle.trees.specs.Things.{Thing, ATree, ASubst, AContext, Meanings}
use Rattle.substitution.specs.Delayed.{Delayed as UnderBinders, at_depth}
use Rattle.substitution.proofs.Closures.{closed-id, closed-then}
use Rattle.rows.specs.declared.views.SubId.{SubId}
use Rattle.rows.specs.declared.views.SubSize.{SubSize}
use Rattle.rows.specs.Views.{IsSubst, IsSizeOf, IsPushed}
use Rattle.closures.specs.declared.environments.Delayed.{Delayed}
use Rattle.closures.specs.declared.environments.Delayed.TheVariants.{Under, Raised}
use Rattle.closures.specs.declared.environments.Environment.{Environment}
use Rattle.closures.specs.declared.environments.Environment.TheVariants as env
use Rattle.closures.specs.Environments.{Waiting, waiting, deepened, listed}
use Rattle.closures.specs.Closures.{delays, delayed_subst, subst_of, under, IsDelayed}
use Rattle.closures.specs.Waits.{AllStand, WaitsFor}
use Rattle.closures.specs.Weights.{row_weight, weight_of, delayed_weight}
use Rattle.closures.proofs.EnvironmentLaws.{deepened-zero}
use Rattle.closures.proofs.WeightLaws.{row_weight-pos}
use Rattle.closures.proofs.SubstLaws.{without-all}

-- nothing need wait for the identity
under-id : (o : Option Thing) (env : List UnderBinders) → under o (at_depth 0 id ∷ env) ≡ under o env
under-id None env = refl
under-id (Some (ATree t)) env = ap (λ u. Some (ATree u)) (closed-id t 0 env)
under-id (Some (ASubst d)) env = refl
under-id (Some (AContext G)) env = refl

-- two substitutions that wait, one after the other, are one
under-then : (o : Option Thing) (d e : Subst) (env : List UnderBinders) → under o (at_depth 0 d ∷ at_depth 0 e ∷ env) ≡ under o (at_depth 0 (then d e) ∷ env)
under-then None d e env = refl
under-then (Some (ATree t)) d e env = ap (λ u. Some (ATree u)) (closed-then t 0 d e env)
under-then (Some (ASubst s)) d e env = refl
under-then (Some (AContext G)) d e env = refl

-- a substitution that pushes nothing is a shift
size-shift : (o : Option Thing) (size : SubSize) → IsSizeOf o size → size.pushed ≡ Some 0 → o ≡ Some (ASubst (shift_by size.shift))
size-shift None size is p = absurd is
size-shift (Some (ATree t)) size is p = absurd is
size-shift (Some (AContext G)) size is p = absurd is
size-shift (Some (ASubst d)) size is p =
    let Counts : Option ℕ → Type 0 = IsPushed (count_of d.pushed) in
    let none : d.pushed ≡ NoTrees = uncounted d.pushed (subst Counts p is.0) in
    ap₂ (λ ts n. Some (ASubst (record { pushed = ts; shift = n }))) none is.1
  where
    uncounted : (ts : Trees) → count_of ts ≡ 0 → ts ≡ NoTrees
    uncounted NoTrees e = refl
    uncounted (More t rest) e = absurd (omega arith)

-- a shift, and then a substitution of which it drops all trees
pub drops-all : (o : Option Thing) (size : SubSize) (n pushed both : ℕ) → IsSizeOf o size → size.pushed ≡ Some pushed → pushed ≤ n → both ≡ n - pushed + size.shift → then (shift_by n) (subst_of o) ≡ shift_by both
drops-all None size n pushed both is some le sum = absurd is
drops-all (Some (ATree t)) size n pushed both is some le sum = absurd is
drops-all (Some (AContext G)) size n pushed both is some le sum = absurd is
drops-all (Some (ASubst d)) size n pushed both is some le sum =
    let Counts : Option ℕ → Type 0 = IsPushed (count_of d.pushed) in
    let count : count_of d.pushed ≡ pushed = subst Counts some is.0 in
    let by : d.shift ≡ size.shift = is.1 in
    without-all n d.pushed d.shift (omega arith) ∙ ap shift_by (omega arith)

with-shift : (f : Meanings) (n shift : ℕ) (ws : List Waiting) → AllStand f n ws → AllStand f n (waiting 0 (Raised shift) ∷ ws)
with-shift f n shift ws stand = (
  All-cons (λ w. IsDelayed f w.delayed) (waiting 0 (Raised shift)) ws tt stand.0,
  All-cons (λ w. w.depth ≤ n) (waiting 0 (Raised shift)) ws (omega arith) stand.1,
)

without-first : (f : Meanings) (n : ℕ) (w : Waiting) (ws : List Waiting) → AllStand f n (w ∷ ws) → AllStand f n ws
without-first f n w ws stand = ((λ i d l. stand.0 (suc i) d (omega arith)), (λ i d l. stand.1 (suc i) d (omega arith)))

-- a shift that met some of what waits: this shift is left, and these wait after it
pub record Meets (f : Meanings) (shift : ℕ) (ws : List Waiting) (left : ℕ) (rest : List Waiting) : Type 0 where
  pub means : (o : Option Thing) → under o (at_depth 0 (shift_by left) ∷ delays f rest) ≡ under o (at_depth 0 (shift_by shift) ∷ delays f ws)
  pub stands : (n : ℕ) → AllStand f n ws → AllStand f n rest
  pub weighs : weight_of rest ≤ weight_of ws

pub meets-none : (f : Meanings) (shift : ℕ) (ws : List Waiting) → Meets f shift ws shift ws
meets-none f shift ws = record { means = λ o. refl; stands = λ n h. h; weighs = omega arith }

pub meets-first : (f : Meanings) (shift left both : ℕ) (ws now rest : List Waiting) (d : Delayed) → Meets f shift ws left now → now ≡ waiting 0 d ∷ rest → then (shift_by left) (delayed_subst f d) ≡ shift_by both → Meets f shift ws both rest
meets-first f shift left both ws now rest d meets first is = record {
  means = λ o.
      ap (λ e. under o (at_depth 0 e ∷ delays f rest)) (sym is)
      ∙ sym (under-then o (shift_by left) (delayed_subst f d) (delays f rest))
      ∙ ap (λ l. under o (at_depth 0 (shift_by left) ∷ delays f l)) (sym first)
      ∙ meets.means o;
  stands = λ n h. without-first f n (waiting 0 d) rest (subst (AllStand f n) first (meets.stands n h));
  weighs = let w : weight_of now ≡ delayed_weight d + weight_of rest = ap weight_of first in let m = meets.weighs in omega arith;
}

-- what a node says of the environment that begins with it
pub node-first : (known : List (List Waiting)) (e rest : Environment) (at : ℕ) (d : Delayed) → e ≡ env.Node at 0 → slice_get known at ≡ Some (waiting 0 d ∷ listed known rest) → listed known e ≡ waiting 0 d ∷ listed known rest
node-first known e rest at d is there =
    ap (listed known) is ∙ ap (deepened 0) (get_or_from_slice_get known at (waiting 0 d ∷ listed known rest) [] there) ∙ deepened-zero (waiting 0 d ∷ listed known rest)

pub waits-none : (f : Meanings) (shift left : ℕ) (ws rest : List Waiting) → Meets f shift ws left rest → left ≡ 0 → WaitsFor f (shift_by shift) 1 ws rest
waits-none f shift left ws rest meets none = record {
  means = λ o. sym (under-id o (delays f rest)) ∙ ap (λ n. under o (at_depth 0 (shift_by n) ∷ delays f rest)) (sym none) ∙ meets.means o;
  stands = meets.stands;
  weighs = let m = meets.weighs in omega arith;
}

pub waits-left : (f : Meanings) (shift left : ℕ) (ws rest longer : List Waiting) → Meets f shift ws left rest → longer ≡ waiting 0 (Raised left) ∷ rest → WaitsFor f (shift_by shift) 1 ws longer
waits-left f shift left ws rest longer meets is = record {
  means = λ o. ap (λ l. under o (delays f l)) is ∙ meets.means o;
  stands = λ n h. subst (AllStand f n) (sym is) (with-shift f n left rest (meets.stands n h));
  weighs = let w : weight_of longer ≡ 1 + weight_of rest = ap weight_of is in let m = meets.weighs in omega arith;
}

-- the substitution of a row waits as it is
pub waits-under : (f : Meanings) (s : SubId) (ws longer : List Waiting) → IsSubst (f s.0) → longer ≡ waiting 0 (Under s) ∷ ws → WaitsFor f (subst_of (f s.0)) (row_weight s.0) ws longer
waits-under f s ws longer substitution is = record {
  means = λ o. ap (λ l. under o (delays f l)) is;
  stands = λ n h. subst (AllStand f n) (sym is) (
    All-cons (λ w. IsDelayed f w.delayed) (waiting 0 (Under s)) ws substitution h.0,
    All-cons (λ w. w.depth ≤ n) (waiting 0 (Under s)) ws (omega arith) h.1,
  );
  weighs = let w : weight_of longer ≡ row_weight s.0 + weight_of ws = ap weight_of is in omega arith;
}

-- or as the shift that it is
pub waits-shift : (f : Meanings) (s : SubId) (size : SubSize) (ws longer : List Waiting) → IsSizeOf (f s.0) size → size.pushed ≡ Some 0 → WaitsFor f (shift_by size.shift) 1 ws longer → WaitsFor f (subst_of (f s.0)) (row_weight s.0) ws longer
waits-shift f s size ws longer is none waits =
    let same : shift_by size.shift ≡ subst_of (f s.0) = sym (ap subst_of (size-shift (f s.0) size is none)) in
    record {
      means = λ o. waits.means o ∙ ap (λ d. under o (at_depth 0 d ∷ delays f ws)) same;
      stands = waits.stands;
      weighs = let m = waits.weighs in let some = row_weight-pos s.0 in omega arith;
    }
