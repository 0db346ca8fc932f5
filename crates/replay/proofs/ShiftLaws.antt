-- The shifts of the substitutions among the rows of a file are those that files may have.
use Rattle.std.proofs.Common.{◌≡◌, ℕ, zero, suc, ◌≤◌, List, [], ◌∷◌, ◌++◌, refl, sym, ◌∙◌, ap, subst, Option, Some, None, Bool, true, false, cond, length, ◌==◌}
use Rattle.std.specs.Prelude.{Result, Ok, Err, slice_get, option_and_then}
use Rattle.std.specs.Result.{OnOk, OnErr}
use Rattle.trees.specs.declared.op.Op.{Op}
use Rattle.trees.specs.declared.kind.PartKind.{PartKind}
use Rattle.trees.specs.Operators.{kids_of}
use Rattle.trees.specs.Trees.{Tree, Subst, Make as MakeTree, trees_of, greatest_shift, shift_by, push}
use Rattle.trees.specs.Things.{Thing, ATree, ASubst, AContext, Meanings, Kept, both, made, meanings, only_trees, over_kids, instance_of, pushed_on, with_variable, with_a_name, with_a_face}
use Rattle.deriv_file.specs.declared.row.Row.{Row}
use Rattle.deriv_file.specs.declared.row.Row.TheVariants.{Header, Make, Instance, Shift, Push, CtxVar, CtxName, CtxFace, Node, Root}
use Rattle.deriv_file.specs.Spelling.{MayStand}
use Rattle.rules.specs.Shifts.{ShiftFits, ShiftsFit}
use Rattle.derivation.specs.Meanings.{Meaning, thing_of, thing_at}
use Rattle.derivation.specs.Right.{RightRow, thing_made}
use Rattle.derivation.proofs.SoundLaws.{meanings-each}
use Rattle.replay.specs.declared.filed.Filed.{Filed}
use Rattle.replay.specs.Filed.{filed_meaning, file_meanings, AllFiled, AllFit}
use Rattle.replay.proofs.FiledLaws.{filed-later}
use Rattle.replay.proofs.RowLaws.{filed_push}
use Rattle.replay.specs.Named.{Names}

-- with one more row whose substitution fits
push_fits : (before : List Meaning) (m : Meaning) → AllFit before → ((d : Subst) → thing_of m ≡ Some (ASubst d) → d.shift ≤ greatest_shift) → AllFit (before ++ m ∷ [])
push_fits before m fit here = record { fits = from before fit.fits }
  where
    from : (ms : List Meaning) → ((k : ℕ) (d : Subst) → thing_at ms k ≡ Some (ASubst d) → d.shift ≤ greatest_shift) → (k : ℕ) (d : Subst) → thing_at (ms ++ m ∷ []) k ≡ Some (ASubst d) → d.shift ≤ greatest_shift
    from [] each zero d e = here d e
    from [] each (suc k) d e = cc
    from (x ∷ ms) each zero d e = each zero d e
    from (x ∷ ms) each (suc k) d e = from ms (λ j f. each (suc j) f) k d e

pushed_fits : (x y : Option Thing) (d : Subst) → ((e : Subst) → x ≡ Some (ASubst e) → e.shift ≤ greatest_shift) → both pushed_on x y ≡ Some (ASubst d) → d.shift ≤ greatest_shift
pushed_fits None y d fits e = cc
pushed_fits (Some x) None d fits e = cc
pushed_fits (Some (ASubst f)) (Some (ATree t)) d fits e =
    let same : push f t ≡ d = cc in
    subst (λ (g : Subst). g.shift ≤ greatest_shift) same (fits f refl)
pushed_fits (Some (ASubst f)) (Some (ASubst g)) d fits e = cc
pushed_fits (Some (ASubst f)) (Some (AContext G)) d fits e = cc
pushed_fits (Some (ATree t)) (Some y) d fits e = cc
pushed_fits (Some (AContext G)) (Some y) d fits e = cc

no_instance : (x y : Option Thing) (d : Subst) → both instance_of x y ≡ Some (ASubst d) → ⊥
no_instance None y d e = cc
no_instance (Some x) None d e = cc
no_instance (Some (ATree t)) (Some (ASubst f)) d e = cc
no_instance (Some (ATree t)) (Some (ATree u)) d e = cc
no_instance (Some (ATree t)) (Some (AContext G)) d e = cc
no_instance (Some (ASubst f)) (Some y) d e = cc
no_instance (Some (AContext G)) (Some y) d e = cc

no_variable : (x y : Option Thing) (d : Subst) → both with_variable x y ≡ Some (ASubst d) → ⊥
no_variable None y d e = cc
no_variable (Some x) None d e = cc
no_variable (Some (AContext G)) (Some (ATree t)) d e = cc
no_variable (Some (AContext G)) (Some (ASubst f)) d e = cc
no_variable (Some (AContext G)) (Some (AContext H)) d e = cc
no_variable (Some (ASubst f)) (Some y) d e = cc
no_variable (Some (ATree t)) (Some y) d e = cc

no_name : (x : Option Thing) (d : Subst) → option_and_then with_a_name x ≡ Some (ASubst d) → ⊥
no_name None d e = cc
no_name (Some (AContext G)) d e = cc
no_name (Some (ASubst f)) d e = cc
no_name (Some (ATree t)) d e = cc

no_face : (x y : Option Thing) (d : Subst) → both with_a_face x y ≡ Some (ASubst d) → ⊥
no_face None y d e = cc
no_face (Some x) None d e = cc
no_face (Some (AContext G)) (Some (ATree t)) d e = cc
no_face (Some (AContext G)) (Some (ASubst f)) d e = cc
no_face (Some (AContext G)) (Some (AContext H)) d e = cc
no_face (Some (ASubst f)) (Some y) d e = cc
no_face (Some (ATree t)) (Some y) d e = cc

no_make : (op : Op) (o : Option (List Thing)) (d : Subst) → option_and_then (made op) o ≡ Some (ASubst d) → ⊥
no_make op None d e = cc
no_make op (Some xs) d e = over (only_trees xs) e
  where
    test : (b : Bool) (t : Thing) → ((d : Subst) → t ≡ ASubst d → ⊥) → cond b (Some t) None ≡ Some (ASubst d) → ⊥
    test true t other e = let same : t ≡ ASubst d = cc in other d same
    test false t other e = cc

    over : (o : Option (List Tree)) → option_and_then (over_kids op) o ≡ Some (ASubst d) → ⊥
    over None e = cc
    over (Some ts) e = test (length ts == kids_of op) (ATree (MakeTree op (trees_of ts))) (λ f same. cc) e

-- what a row is that may stand somewhere
thing_fits : (version at : ℕ) (f : Meanings) (row : Row) (d : Subst) → ((k : ℕ) (e : Subst) → f k ≡ Some (ASubst e) → e.shift ≤ greatest_shift) → MayStand version at row → thing_made f row ≡ Some (ASubst d) → d.shift ≤ greatest_shift
thing_fits version at f (Shift by) d each stands e =
    let same : shift_by by ≡ d = cc in
    subst (λ (g : Subst). g.shift ≤ greatest_shift) same stands
thing_fits version at f (Push sub term) d each stands e = pushed_fits (f sub) (f term) d (each sub) e
thing_fits version at f (Instance term sub) d each stands e = absurd (no_instance (f term) (f sub) d e)
thing_fits version at f (CtxVar ctx ty) d each stands e = absurd (no_variable (f ctx) (f ty) d e)
thing_fits version at f (CtxName ctx) d each stands e = absurd (no_name (f ctx) d e)
thing_fits version at f (CtxFace ctx face) d each stands e = absurd (no_face (f ctx) (f face) d e)
thing_fits version at f (Make op kids) d each stands e = absurd (no_make op (meanings f kids) d e)
thing_fits version at f row d each stands e = cc

pub row_fits : (version at : ℕ) (before : List Meaning) (row : Row) (m : Meaning) → AllFit before → MayStand version at row → RightRow before row m → (d : Subst) → thing_of m ≡ Some (ASubst d) → d.shift ≤ greatest_shift
row_fits version at [] (Header v) m fit stands right d e = let none : thing_of m ≡ None = ap thing_of right in cc
row_fits version at [] row m fit stands right d e = absurd right
row_fits version at (b ∷ before) (Header v) m fit stands right d e = absurd right
row_fits version at (b ∷ before) (Node rule parts premises) m fit stands right d e = let none : thing_of m ≡ None = ap thing_of right.2 in cc
row_fits version at (b ∷ before) (Root node) m fit stands right d e = let none : thing_of m ≡ None = ap thing_of right.2 in cc
row_fits version at (b ∷ before) row m fit stands right d e =
    let some : thing_of m ≡ Some right.0 = ap thing_of right.2 in
    let is : thing_made (thing_at (b ∷ before)) row ≡ Some (ASubst d) = right.1 ∙ sym some ∙ e in
    thing_fits version at (thing_at (b ∷ before)) row d fit.fits stands is

-- the same rows over a store that has grown
pub later_fit : (xs ys : List Thing) → Kept (slice_get xs) (slice_get ys) → (es : List Filed) → AllFiled xs es → AllFit (file_meanings xs es) → AllFit (file_meanings ys es)
later_fit xs ys kept es all fit = subst AllFit (sym (filed-later xs ys kept es all)) fit

-- one row more, or none where memory ran out
pub fit_pushed : {T E : Type 0} (r : Result T E) (xs : List Thing) (es next : List Filed) (e : Filed) (m : Meaning) → AllFit (file_meanings xs es) → filed_meaning xs e ≡ Some m → ((d : Subst) → thing_of m ≡ Some (ASubst d) → d.shift ≤ greatest_shift) → OnOk r (next ≡ es ++ e ∷ []) → OnErr r (next ≡ es) → AllFit (file_meanings xs next)
fit_pushed (Ok _) xs es next e m fit is here ok err =
    subst AllFit (sym (ap (file_meanings xs) ok ∙ filed_push xs es e m is)) (push_fits (file_meanings xs es) m fit here)
fit_pushed (Err _) xs es next e m fit is here ok err = subst AllFit (sym (ap (file_meanings xs) err)) fit

-- so are those of parts
pub parts_fit : (xs : List Thing) (es : List Filed) (numbers : List ℕ) (kinds : List PartKind) (rows : List ℕ) → AllFit (file_meanings xs es) → Names xs es numbers kinds rows → ShiftsFit (meanings (slice_get xs) rows)
parts_fit xs es numbers kinds rows fit n =
    rw n.rows_mean (meanings-each ShiftFits (thing_at (file_meanings xs es)) each numbers n.named n.numbers_mean)
  where
    each : (k : ℕ) (x : Thing) → thing_at (file_meanings xs es) k ≡ Some x → ShiftFits x
    each k (ATree t) e = tt
    each k (ASubst d) e = fit.fits k d e
    each k (AContext G) e = tt
