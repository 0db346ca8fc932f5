-- The names of a context that is filled in.
use Rattle.std.proofs.Common.{◌≡◌, ℕ, zero, suc, ◌+◌, ◌≤◌, List, [], ◌∷◌, length, drop, Bool, true, false, refl, sym, ◌∙◌, ap, add-zero, arith, Some}
use Rattle.std.specs.Prelude.{slice_get, nat_le}
use Rattle.std.proofs.lemmas.Bool.{leb-true}
use Rattle.trees.specs.Judgements.{trees}
use Rattle.patterns.specs.Patterns.{ContextPart, Empty, AddVar, AddName, AddFace}
use Rattle.patterns.specs.Values.{Parts}
use Rattle.patterns.specs.Normals.{NormalContext}
use Rattle.patterns.specs.Fillings.{filled_context}
use Rattle.patterns.proofs.SameLaws.{both}
use Rattle.conditions.specs.Sides.{is_name}
use Rattle.pattern_sides.specs.Formulas.{names_of, base_of, are_names_in, shifts_names}

-- which indices are those of names: as the list says, and past it as in the base
pub record AreNames (base : ℕ → Bool) (names : List Bool) (is : ℕ → Bool) : Type 0 where
  pub told : (k : ℕ) (b : Bool) → slice_get names k ≡ Some b → is k ≡ b
  pub past : (k : ℕ) → is (k + length names) ≡ base k

pub names-rest : (base : ℕ → Bool) (b : Bool) (names : List Bool) (is : ℕ → Bool) → AreNames base (b ∷ names) is → AreNames base names (λ k. is (suc k))
names-rest base b names is h = record {
  told = λ k c e. h.told (suc k) c e;
  past = λ k. ap is (let e : suc (k + length names) ≡ k + suc (length names) = omega arith in e) ∙ h.past k;
}

-- one more index, in front
pub names-more : (base : ℕ → Bool) (b : Bool) (names : List Bool) (is rest : ℕ → Bool) → is 0 ≡ b → ((k : ℕ) → is (suc k) ≡ rest k) → AreNames base names rest → AreNames base (b ∷ names) is
names-more base b names is rest first next h = record {
  told = told_at;
  past = λ k. ap is (let e : k + suc (length names) ≡ suc (k + length names) = omega arith in e) ∙ next (k + length names) ∙ h.past k;
}
  where
    told_at : (k : ℕ) (c : Bool) → slice_get (b ∷ names) k ≡ Some c → is k ≡ c
    told_at zero c e = let same : b ≡ c = cc in first ∙ same
    told_at (suc k) c e = next k ∙ h.told k c e

pub names-filled : (v : Parts trees) (G : NormalContext) → AreNames (is_name (filled_context v (base_of G))) (names_of G) (is_name (filled_context v G))
names-filled v (ContextPart k) = record { told = λ k b e. cc; past = λ j. ap (is_name (v.context k)) (add-zero j) }
names-filled v Empty = record { told = λ k b e. cc; past = λ j. refl }
names-filled v (AddVar G A) =
    names-more (is_name (filled_context v (base_of G))) false (names_of G) _ (is_name (filled_context v G)) refl (λ k. refl) (names-filled v G)
names-filled v (AddName G) =
    names-more (is_name (filled_context v (base_of G))) true (names_of G) _ (is_name (filled_context v G)) refl (λ k. refl) (names-filled v G)
names-filled v (AddFace G p) = names-filled v G

-- past the first n
pub names-drop : (base : ℕ → Bool) (n : ℕ) (names : List Bool) (is : ℕ → Bool) → n ≤ length names → AreNames base names is → AreNames base (drop n names) (λ k. is (k + n))
names-drop base zero names is le h = record {
  told = λ k b e. ap is (add-zero k) ∙ h.told k b e;
  past = λ k. ap is (add-zero (k + length names)) ∙ h.past k;
}
names-drop base (suc n) [] is le h = absurd (omega arith)
names-drop base (suc n) (b ∷ names) is le h =
    let rest = names-drop base n names (λ k. is (suc k)) (omega arith) (names-rest base b names is h) in
    record {
      told = λ k c e. ap is (let e : k + suc n ≡ suc (k + n) = omega arith in e) ∙ rest.told k c e;
      past = λ k. ap is (let e : k + length (drop n names) + suc n ≡ suc (k + length (drop n names) + n) = omega arith in e) ∙ rest.past k;
    }

-- a name of the first is a name of the second
pub name-in : (base : ℕ → Bool) (ms ns : List Bool) (is are : ℕ → Bool) → are_names_in ms ns ≡ true → AreNames base ms is → AreNames base ns are → (k : ℕ) → is k ≡ true → are k ≡ true
name-in base [] [] is are h a b k e =
    ap are (sym (add-zero k)) ∙ b.past k ∙ sym (a.past k) ∙ ap is (add-zero k) ∙ e
name-in base (true ∷ ms) (n ∷ ns) is are h a b zero e = b.told 0 n refl ∙ (both n (are_names_in ms ns) h).0
name-in base (true ∷ ms) (n ∷ ns) is are h a b (suc k) e =
    name-in base ms ns (λ j. is (suc j)) (λ j. are (suc j)) (both n (are_names_in ms ns) h).1 (names-rest base true ms is a) (names-rest base n ns are b) k e
name-in base (false ∷ ms) (n ∷ ns) is are h a b zero e = let no : false ≡ true = sym (a.told 0 false refl) ∙ e in absurd (cc no)
name-in base (false ∷ ms) (n ∷ ns) is are h a b (suc k) e =
    name-in base ms ns (λ j. is (suc j)) (λ j. are (suc j)) h (names-rest base false ms is a) (names-rest base n ns are b) k e
name-in base _ _ is are h a b k e = absurd (cc h)

pub name-shifted : (base : ℕ → Bool) (ms : List Bool) (n : ℕ) (names : List Bool) (is are : ℕ → Bool) → shifts_names ms n names ≡ true → AreNames base ms is → AreNames base names are → (k : ℕ) → is k ≡ true → are (k + n) ≡ true
name-shifted base ms n names is are h a b k e =
    let f = both (nat_le n (length names)) _ h in
    name-in base ms (drop n names) is (λ j. are (j + n)) f.1 a (names-drop base n names are (leb-true n (length names) f.0) b) k e
