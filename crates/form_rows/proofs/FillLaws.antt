-- A filling is a composition along the least of two names.
use Rattle.std.proofs.Common.{◌≡◌, ℕ, [], ◌∷◌, Some, IsSome, refl, sym, ap, ◌∙◌, subst}
use Rattle.std.specs.Prelude.{option_and_then}
use Rattle.trees.specs.declared.op.Op.TheVariants as op
use Rattle.trees.specs.Things.{Meanings, Kept, ATree, ASubst, both, instance_of, pushed_on, meanings, made}
use Rattle.trees.specs.Trees.{Tree, Subst, Var, apply, push, up, shift_by}
use Rattle.trees.specs.Judgements.{trees}
use Rattle.substitution.specs.Forms.{lift}
use Rattle.substitution.proofs.ThenLaws.{apply-apply, shift_by-then-shift_by}
use Rattle.substitution.proofs.BinderLaws.{apply_under-one, lift-then-push}
use Rattle.translation.specs.Terms.{lifted, lifted_line, min, plam, comp, sys, join, eq0, f0, empty}
use Rattle.translation.specs.Systems.{along, filling}
use Rattle.rows.specs.Views.{IsTree}
use Rattle.form_rows.specs.Meant.{Is, Are}
use Rattle.form_rows.proofs.RowLaws.{are_one, are_two, are_four, is_kept, is_made, is_of, kept_then, may_make}
use Rattle.form_rows.specs.Fillings.{slanted, filled, filled_cover, filled_body}

abbrev here : Tree
here = min (Var 1) (Var 0)

pub slanted_line : (A : Tree) → along (lifted_line A) here ≡ apply A slanted
slanted_line A =
    ap (λ t. apply t (push up here)) (apply_under-one A up)
    ∙ apply-apply A (lift trees up) (push up here)
    ∙ ap (apply A) (lift-then-push up up here ∙ ap (λ d. push d here) (shift_by-then-shift_by 1 1))

pub lifted_twice : (t : Tree) → lifted (lifted t) ≡ apply t (shift_by 2)
lifted_twice t = apply-apply t up up ∙ ap (apply t) (shift_by-then-shift_by 1 1)

-- the sides, over the weakened cover and base
abbrev body_from : Tree → Tree → Tree → Tree
body_from p b a = sys p (join (eq0 (Var 1)) f0) b (sys (eq0 (Var 1)) f0 a empty)

abbrev whole : Tree → Tree → Tree → Tree → Tree → Tree → Tree
whole A cover p b a base = plam (comp A cover (body_from p b a) base)

pub filling_is : (A p b a : Tree) → plam (comp (apply A slanted) (filled_cover p) (filled_body p (apply b slanted) a) (apply a (shift_by 1))) ≡ filling A p b a
filling_is A p b a =
    sym (ap (λ x. whole x (filled_cover p) (lifted (lifted p)) (along (lifted_line b) here) (lifted (lifted a)) (lifted a)) (slanted_line A)
    ∙ ap (λ x. whole (apply A slanted) (filled_cover p) (lifted (lifted p)) x (lifted (lifted a)) (lifted a)) (slanted_line b)
    ∙ ap (λ x. whole (apply A slanted) (filled_cover p) x (apply b slanted) (lifted (lifted a)) (lifted a)) (lifted_twice p)
    ∙ ap (λ x. whole (apply A slanted) (filled_cover p) (apply p (shift_by 2)) (apply b slanted) x (lifted a)) (lifted_twice a))

-- the substitution of a filling, made of its parts
pub is_slanted : {f g h i : Meanings} {outer inner least past : ℕ} → Kept f g → Kept h i → f outer ≡ Some (ATree (Var 1)) → g inner ≡ Some (ATree (Var 0))
    → h least ≡ option_and_then (made op.Min) (meanings g (outer ∷ inner ∷ [])) → i past ≡ Some (ASubst (shift_by 2))
    → both pushed_on (i past) (i least) ≡ Some (ASubst slanted)
is_slanted {f} {g} {outer = outer} {inner = inner} first second outer_is inner_is least_is past_is =
    let outer' : Is f outer (Var 1) = record { is = outer_is } in
    let inner' : Is g inner (Var 0) = record { is = inner_is } in
    let least' = is_kept second (is_made op.Min refl (are_two (is_kept first outer') inner') least_is) in
    rw (past_is, least'.is) refl

-- an instance of a tree
pub is_instance : {f g : Meanings} {a d r : ℕ} {t : Tree} {s : Subst} → Is f a t → f d ≡ Some (ASubst s) → g r ≡ both instance_of (f a) (f d) → Is g r (apply t s)
is_instance h e made = record { is = rw (h.is, e) at made }

pub may_instance : {f : Meanings} {a d : ℕ} {t : Tree} {s : Subst} → Is f a t → f d ≡ Some (ASubst s) → IsSome (both instance_of (f a) (f d))
may_instance h e = rw (h.is, e) refl

pub closed_filling : {f g : Meanings} {r q : ℕ} (A p b a : Tree) → Is f r (filled (apply A slanted) p (apply b slanted) a)
    → g q ≡ option_and_then (made op.PLam) (meanings f (r ∷ [])) → Is g q (filling A p b a)
closed_filling {f} {g} {r} {q} A p b a h made = subst (Is g q) (filling_is A p b a) (is_made op.PLam refl (are_one h) made)

-- the parts of a filling, one made after the other
module _ {f g h i : Meanings} {line face body base sides cover inside : ℕ} (first : Kept f g) (second : Kept g h) (third : Kept h i)
    (by' : (p b a : Tree) → Is f face p → Is f body b → Is f base a → Is g sides (filled_body p b a)) (on' : (p : Tree) → Is g face p → Is h cover (filled_cover p))
    (in' : (a : Tree) → Is h base a → Is i inside (apply a (shift_by 1))) where
  are_parts_of : (A p b a : Tree) → Is f line A → Is f face p → Is f body b → Is f base a
      → Are i (line ∷ cover ∷ sides ∷ inside ∷ []) (A ∷ filled_cover p ∷ filled_body p b a ∷ apply a (shift_by 1) ∷ [])
  are_parts_of A p b a l q m n = are_four
      (is_kept (kept_then first (kept_then second third)) l)
      (is_kept third (on' p (is_kept first q)))
      (is_kept (kept_then second third) (by' p b a q m n))
      (in' a (is_kept (kept_then first second) n))

  pub filled_fits : IsTree (f line) → IsTree (f face) → IsTree (f body) → IsTree (f base) → IsSome (option_and_then (made op.Comp) (meanings i (line ∷ cover ∷ sides ∷ inside ∷ [])))
  filled_fits l q m n = may_make op.Comp refl (are_parts_of l.0 q.0 m.0 n.0 (is_of f line l) (is_of f face q) (is_of f body m) (is_of f base n))

  pub filled_made : {j : Meanings} {r : ℕ} (A p b a : Tree) → j r ≡ option_and_then (made op.Comp) (meanings i (line ∷ cover ∷ sides ∷ inside ∷ []))
      → Is f line A → Is f face p → Is f body b → Is f base a → Is j r (filled A p b a)
  filled_made A p b a made_is l q m n = is_made op.Comp refl (are_parts_of A p b a l q m n) made_is
