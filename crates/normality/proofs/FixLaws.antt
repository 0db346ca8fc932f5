-- Names that are fixed one by one.
use Rattle.std.proofs.Common.{◌≡◌, ℕ, zero, suc, ◌+◌, ◌<◌, ◌≤◌, List, [], ◌∷◌, length, drop, get_or, refl, sym, ◌∙◌, ap, subst, arith}
use Rattle.rows.specs.Tables.{Grows}
use Rattle.rows.proofs.TableLaws.{grows-same, grows-grows}
use Rattle.tree_frames.proofs.FrameLaws.{drop-past}
use Rattle.normal_formulas.specs.declared.atoms.Atom.{Atom}
use Rattle.fixed_names.specs.declared.scopes.Scope.{Scope}
use Rattle.fixed_names.specs.Fixed.{Fixed, fix}
use Rattle.fixed_names.specs.Scopes.{fixed_in, depth_of, IsWithin}
use Rattle.normal_parts.specs.Normal.{fix_all}
use Rattle.normality.specs.Worlds.{fix_more}

drop-suc : {X : Type 0} (xs : List X) (i : ℕ) (d : X) → i < length xs → drop i xs ≡ get_or xs i d ∷ drop (suc i) xs
drop-suc [] i d lt = absurd (omega arith)
drop-suc (x ∷ xs) zero d lt = refl
drop-suc (x ∷ xs) (suc i) d lt = drop-suc xs i d (omega arith)

drop-next : {X : Type 0} (xs : List X) (i : ℕ) (d : X) → i < length xs → drop i xs ≡ get_or xs i d ∷ drop (i + 1) xs
drop-next xs i d lt = let next : suc i ≡ i + 1 = omega arith in drop-suc xs i d lt ∙ ap (λ n. get_or xs i d ∷ drop n xs) next

-- some are fixed, and some are left to fix
pub record Fixes {X : Type 0} (all : List X → Fixed → Fixed) (begin now : List Fixed) (first s : Scope) (xs : List X) (i : ℕ) : Type 0 where
  pub grows : Grows begin now
  pub within : IsWithin now s
  pub depth : depth_of s ≤ depth_of first
  pub rest : all (drop i xs) (fixed_in now s) ≡ all xs (fixed_in begin first)

pub fixes-begin : {X : Type 0} (all : List X → Fixed → Fixed) (begin : List Fixed) (first : Scope) (xs : List X) → IsWithin begin first → Fixes all begin begin first first xs 0
fixes-begin all begin first xs within = record { grows = grows-same begin; within = within; depth = omega arith; rest = refl }

pub fixes-next : {X : Type 0} (all : List X → Fixed → Fixed) (index : X → ℕ) → ((x : X) (xs : List X) (z : Fixed) → all (x ∷ xs) z ≡ all xs (fix (index x) z))
    → (begin now new : List Fixed) (first s next : Scope) (xs : List X) (i : ℕ) (d : X) → i < length xs → Fixes all begin now first s xs i → Grows now new → fixed_in new next ≡ fix (index (get_or xs i d)) (fixed_in now s) → IsWithin new next → depth_of next ≡ 0
    → Fixes all begin new first next xs (i + 1)
fixes-next all index step begin now new first s next xs i d lt f g is within depth = record {
  grows = grows-grows begin now new f.grows g;
  within = within;
  depth = omega (arith, depth);
  rest = ap (all (drop (i + 1) xs)) is ∙ sym (step (get_or xs i d) (drop (i + 1) xs) (fixed_in now s)) ∙ ap (λ ys. all ys (fixed_in now s)) (sym (drop-next xs i d lt)) ∙ f.rest;
}

pub fixes-end : {X : Type 0} (all : List X → Fixed → Fixed) → ((z : Fixed) → all [] z ≡ z) → (begin now : List Fixed) (first s : Scope) (xs : List X) (i : ℕ) → length xs ≤ i → Fixes all begin now first s xs i → fixed_in now s ≡ all xs (fixed_in begin first)
fixes-end all none begin now first s xs i past f = sym (none (fixed_in now s)) ∙ ap (λ ys. all ys (fixed_in now s)) (sym (drop-past i xs past)) ∙ f.rest
