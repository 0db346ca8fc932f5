-- Operators that nest, made from the last row to the first.
use Rattle.std.proofs.Common.{◌≡◌, ◌<◌, ◌≤◌, ◌+◌, ℕ, zero, suc, List, [], ◌∷◌, length, get_or, take, drop, IsSome, refl, sym, ap, subst, arith}
use Rattle.std.specs.Prelude.{option_and_then}
use Rattle.trees.specs.declared.op.Op.{Op}
use Rattle.trees.specs.Operators.{kids_of}
use Rattle.trees.specs.Trees.{Tree, Var, Make, trees_of}
use Rattle.trees.specs.Things.{Meanings, Kept, meanings, made}
use Rattle.rows.specs.Views.{IsTree}
use Rattle.trees.proofs.Meanings.{kept-same}
use Rattle.form_rows.specs.Meant.{Is, Are, AreTrees, nest, nest_all}
use Rattle.form_rows.proofs.RowLaws.{kept_then, is_kept, tree_kept, are_at, are_two, are_length, is_made, tree_of_is, tree_at, is_of, drop_next, drop_whole, two_fit, are_none, first_are}

-- the rows from `at` on are nested
pub record Nested (f g : Meanings) (op : Op) (rows : List ℕ) (last at row : ℕ) : Type 0 where
  pub kept : Kept f g
  pub tree : IsTree (g row)
  pub within : at ≤ length rows
  pub nested : (ts : List Tree) (t : Tree) → Are f rows ts → Is f last t → Is g row (nest op (drop at ts) t)

pub nested_none : (f : Meanings) (op : Op) (rows : List ℕ) (last : ℕ) → IsTree (f last) → Nested f f op rows last (length rows) last
nested_none f op rows last h = record {
  kept = kept-same f;
  tree = h;
  within = omega arith;
  nested = λ ts t a b. subst (λ us. Is f last (nest op us t)) (sym (drop_whole ts (length rows) (are_length a))) b;
}

pub nested_more : {f g h : Meanings} {op : Op} {rows : List ℕ} {last at row : ℕ} (k r : ℕ) → kids_of op ≡ 2 → AreTrees f rows → Nested f g op rows last at row → at ≡ suc k → Kept g h
    → h r ≡ option_and_then (made op) (meanings g (get_or rows k 0 ∷ row ∷ [])) → Nested f h op rows last k r
nested_more {f} {g} {h} {op} {rows} {last} {at} {row} k r two trees n e kept made =
    let within = n.within in
    let lt : k < length rows = omega arith in
    record {
      kept = kept_then n.kept kept;
      tree = tree_of_is h r (is_made op (sym two) (are_two (is_of g (get_or rows k 0) (tree_kept f g (get_or rows k 0) n.kept (tree_at f rows k trees lt))) (is_of g row n.tree)) made);
      within = omega arith;
      nested = λ ts t a b.
          let len = are_length a in
          let rest : Is g row (nest op (drop (suc k) ts) t) = subst (λ i. Is g row (nest op (drop i ts) t)) e (n.nested ts t a b) in
          subst (λ us. Is h r (nest op us t)) (sym (drop_next ts k (Var 0) (omega arith)))
          (is_made op (sym two) (are_two (is_kept n.kept (are_at f rows ts k (Var 0) a lt)) rest) made);
    }

pub nested_fits : {f g : Meanings} {op : Op} {rows : List ℕ} {last at row : ℕ} (k : ℕ) → kids_of op ≡ 2 → AreTrees f rows → Nested f g op rows last at row → at ≡ suc k
    → IsSome (option_and_then (made op) (meanings g (get_or rows k 0 ∷ row ∷ [])))
nested_fits {f} {g} {op} {rows} {last} {at} {row} k two trees n e =
    let within = n.within in
    two_fit g (get_or rows k 0) row op two (tree_kept f g (get_or rows k 0) n.kept (tree_at f rows k trees (omega arith))) n.tree

pub nested_all : {f g : Meanings} {op : Op} {rows : List ℕ} {last at row : ℕ} (ts : List Tree) (t : Tree) → Nested f g op rows last at row → at ≡ 0 → Are f rows ts → Is f last t → Is g row (nest op ts t)
nested_all {g = g} {op = op} {row = row} ts t n e a b = subst (λ i. Is g row (nest op (drop i ts) t)) e (n.nested ts t a b)

-- where the last stands among the rows

nest_last : (op none : Op) (ts : List Tree) (n : ℕ) (d : Tree) → length ts ≡ suc n → nest op (take n ts) (get_or ts n d) ≡ nest_all op none ts
nest_last op none [] n d e = absurd (omega arith)
nest_last op none (t ∷ []) zero d e = refl
nest_last op none (t ∷ []) (suc n) d e = absurd (omega arith)
nest_last op none (t ∷ u ∷ ts) zero d e = absurd (omega arith)
nest_last op none (t ∷ u ∷ ts) (suc n) d e = ap (λ x. Make op (trees_of (t ∷ x ∷ []))) (nest_last op none (u ∷ ts) n d (omega arith))

pub tupled_last : {f g : Meanings} {op : Op} (none : Op) {rows : List ℕ} (n r : ℕ) (ts : List Tree) → n + 1 ≡ length rows → Are f rows ts
    → ((us : List Tree) (u : Tree) → Are f (take n rows) us → Is f (get_or rows n 0) u → Is g r (nest op us u)) → Is g r (nest_all op none ts)
tupled_last {f} {g} {op} none {rows} n r ts e a made =
    let l = are_length a in
    subst (Is g r) (nest_last op none ts n (Var 0) (omega arith)) (made (take n ts) (get_or ts n (Var 0)) (first_are n a) (are_at f rows ts n (Var 0) a (omega arith)))

pub tupled_none : {f g : Meanings} (op none : Op) {rows : List ℕ} {r : ℕ} (ts : List Tree) → length rows < 1 → kids_of none ≡ 0 → Are f rows ts
    → g r ≡ option_and_then (made none) (meanings f []) → Is g r (nest_all op none ts)
tupled_none {f} op none [] e zero_kids a made = is_made none (sym zero_kids) (are_none f) made
tupled_none op none (t ∷ ts) e zero_kids a made = let l = are_length a in absurd (omega arith)
