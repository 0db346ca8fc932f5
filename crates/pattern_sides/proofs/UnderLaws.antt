-- Formulas and faces under a substitution that takes names to formulas.
use Rattle.std.proofs.Common.{◌≡◌, ℕ, zero, suc, ◌+◌, Bool, true, false, ◌&&◌, arith, refl, ◌∙◌, ap}
use Rattle.trees.specs.declared.op.Op.TheVariants as op
use Rattle.trees.specs.Trees.{Tree, Var, Make, NoTrees, More, Subst, apply, up}
use Rattle.trees.specs.Judgements.{Context, WithName, trees}
use Rattle.substitution.specs.Forms.{lift}
use Rattle.substitution.specs.Action.{look}
use Rattle.substitution.proofs.ThenLaws.{look-then}
use Rattle.substitution.proofs.BinderLaws.{apply_under-one}
use Rattle.patterns.proofs.SameLaws.{both}
use Rattle.conditions.specs.Sides.{is_name, is_formula, is_face}

-- the substitution takes each of these names to a formula
pub record TakesNames (is : ℕ → Bool) (d : Subst) (K : Context) : Type 0 where
  pub takes : (k : ℕ) → is k ≡ true → is_formula K (look d k) ≡ true

pub and_true : (a b : Bool) → a ≡ true → b ≡ true → (a && b) ≡ true
and_true true true h k = refl
and_true true false h k = absurd (cc k)
and_true false b h k = absurd (cc h)

pub formula-under : (G K : Context) (d : Subst) → TakesNames (is_name G) d K → (r : Tree) → is_formula G r ≡ true → is_formula K (apply r d) ≡ true
formula-under G K d t (Var k) h = t.takes k h
formula-under G K d t (Make op.I0 NoTrees) h = refl
formula-under G K d t (Make op.I1 NoTrees) h = refl
formula-under G K d t (Make op.Neg (More r NoTrees)) h = formula-under G K d t r h
formula-under G K d t (Make op.Min (More r (More s NoTrees))) h =
    let f = both (is_formula G r) (is_formula G s) h in
    and_true _ _ (formula-under G K d t r f.0) (formula-under G K d t s f.1)
formula-under G K d t (Make op.Max (More r (More s NoTrees))) h =
    let f = both (is_formula G r) (is_formula G s) h in
    and_true _ _ (formula-under G K d t r f.0) (formula-under G K d t s f.1)
formula-under G K d t _ h = absurd (cc h)

takes-up : (K : Context) → TakesNames (is_name K) up (WithName K)
takes-up K = record { takes = takes_at }
  where
    takes_at : (k : ℕ) → is_name K k ≡ true → is_formula (WithName K) (look up k) ≡ true
    takes_at k h = ap (is_name (WithName K)) (let e : k + 1 ≡ suc k = omega arith in e) ∙ h

takes-lift : (G K : Context) (d : Subst) → TakesNames (is_name G) d K → TakesNames (is_name (WithName G)) (lift trees d) (WithName K)
takes-lift G K d t = record { takes = takes_at }
  where
    takes_at : (k : ℕ) → is_name (WithName G) k ≡ true → is_formula (WithName K) (look (lift trees d) k) ≡ true
    takes_at zero h = refl
    takes_at (suc k) h =
        ap (is_formula (WithName K)) (look-then d up k) ∙ formula-under K (WithName K) up (takes-up K) (look d k) (t.takes k h)

pub face-under : (p : Tree) (G K : Context) (d : Subst) → TakesNames (is_name G) d K → is_face G p ≡ true → is_face K (apply p d) ≡ true
face-under (Make op.F0 NoTrees) G K d t h = refl
face-under (Make op.F1 NoTrees) G K d t h = refl
face-under (Make op.Eq0 (More r NoTrees)) G K d t h = formula-under G K d t r h
face-under (Make op.Eq1 (More r NoTrees)) G K d t h = formula-under G K d t r h
face-under (Make op.Meet (More p (More q NoTrees))) G K d t h =
    let f = both (is_face G p) (is_face G q) h in
    and_true _ _ (face-under p G K d t f.0) (face-under q G K d t f.1)
face-under (Make op.Join (More p (More q NoTrees))) G K d t h =
    let f = both (is_face G p) (is_face G q) h in
    and_true _ _ (face-under p G K d t f.0) (face-under q G K d t f.1)
face-under (Make op.All (More p NoTrees)) G K d t h =
    ap (is_face (WithName K)) (apply_under-one p d)
    ∙ face-under p (WithName G) (WithName K) (lift trees d) (takes-lift G K d t) h
face-under _ G K d t h = absurd (cc h)
