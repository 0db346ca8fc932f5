-- Sums of products whose atoms stand in some order.
use Rattle.std.proofs.Common.{◌≡◌, ◌↔◌, ℕ, zero, suc, ◌+◌, ◌<◌, ◌&&◌, ◌||◌, Bool, true, false, not, List, [], ◌∷◌, ◌++◌, take, length, get_or, refl, sym, ◌∙◌, ap, ap₂, subst, arith, rules, Vec, Global}
use Rattle.std.specs.Bool.{Decides}
use Rattle.std.proofs.lemmas.Cmp.{then_total, on_total, back_total, nat_cmp_total}
use Rattle.std.specs.Cmp.{bool_cmp_total}
use Rattle.std.specs.Cmp.Lexicographic.{pointwise}
use Rattle.std.proofs.lemmas.Slice.Eq.{slice_eq-Decides}
use Rattle.std.proofs.lemmas.List.{take_more, length-map}
use Rattle.std.proofs.lemmas.List.Folds.{list_all-append}
use Rattle.std.specs.List.{list_all}
use Rattle.antichains.proofs.Truth.{list_all-union}
use Rattle.normal_formulas.specs.contracts.atoms.AtomPartialEq.TheImpl.{eq-value}
use Rattle.antichains.specs.Antichains.{IsUnion, IsNormal, HaveSameTruth}
use Rattle.antichains.proofs.Exact.{IsExactOrder}
use Rattle.antichains.proofs.Unique.{unique_normal}
use Rattle.normal_formulas.specs.declared.atoms.Atom.{Atom}
use Rattle.normal_formulas.specs.Atoms.{atom_cmp, lists_of}

-- each product has the atoms of a list
abbrev pub AreProducts : List (List Atom) → List (List Atom) → Type 0
AreProducts [] [] = Unit {0}
AreProducts (p ∷ ps) (q ∷ qs) = ((test : Atom → Bool) → list_all test p ≡ list_all test q) × AreProducts ps qs
AreProducts _ _ = ⊥

pub products-push : (ps qs : List (List Atom)) (p q : List Atom) → AreProducts ps qs → ((test : Atom → Bool) → list_all test p ≡ list_all test q) → AreProducts (ps ++ p ∷ []) (qs ++ q ∷ [])
products-push [] [] p q all one = (one, tt)
products-push [] (r ∷ rs) p q all one = absurd all
products-push (r ∷ rs) [] p q all one = absurd all
products-push (r ∷ rs) (s ∷ ss) p q all one = (all.0, products-push rs ss p q all.1 one)

pub products-truth : (ps qs : List (List Atom)) → AreProducts ps qs → HaveSameTruth ps qs
products-truth [] [] all test = refl
products-truth [] (r ∷ rs) all test = absurd all
products-truth (r ∷ rs) [] all test = absurd all
products-truth (p ∷ ps) (q ∷ qs) all test = ap₂ ◌||◌ (all.0 test) (products-truth ps qs all.1 test)

-- a sum is in order exactly where it is the normal form of its products
pub normal-exact : (o : IsExactOrder atom_cmp) (sum products lists : List (List Atom)) → IsNormal atom_cmp sum → HaveSameTruth sum products → AreProducts products lists → (sum ≡ lists) ↔ IsNormal atom_cmp lists
normal-exact o sum products lists normal same all = (
  λ e. subst (IsNormal atom_cmp) e normal,
  λ n. unique_normal o sum lists normal n (λ test. same test ∙ products-truth products lists all test),
)

-- one place of two lists

equal_atoms : (x y : Atom) → eq-value.it x y ≡ true → x ≡ y
equal_atoms = search rules

same_atoms : (x y : Atom) → x ≡ y → eq-value.it x y ≡ true
same_atoms = search rules

pub equal-lists : (xs ys : List Atom) (r : Bool) → r ≡ pointwise eq-value.it xs ys → Decides r (xs ≡ ys)
equal-lists = slice_eq-Decides (λ x y. (equal_atoms x y, same_atoms x y))

at-list : (vs : List (Vec Atom Global)) (i : ℕ) (v : Vec Atom Global) (d : List Atom) → i < length vs → v ≡ get_or vs i v → get_or (lists_of vs) i d ≡ v.items
at-list [] i v d lt is = absurd (omega arith)
at-list (w ∷ vs) zero v d lt is = ap (λ (u : Vec Atom Global). u.items) (sym is)
at-list (w ∷ vs) (suc i) v d lt is = at-list vs i v d (omega arith) is

pub length-lists : (vs : List (Vec Atom Global)) → length (lists_of vs) ≡ length vs
length-lists vs = length-map vs (λ (v : Vec Atom Global). v.items)

pub apart-at : (ps : List (List Atom)) (vs : List (Vec Atom Global)) (i : ℕ) (p : List Atom) (v : Vec Atom Global) → i < length vs → p ≡ get_or ps i p → v ≡ get_or vs i v → (p ≡ v.items → ⊥) → ps ≡ lists_of vs → ⊥
apart-at ps vs i p v lt first second apart same =
    apart (first ∙ ap (λ qs. get_or qs i p) same ∙ at-list vs i v p lt second)

pub same-at : (ps : List (List Atom)) (vs : List (Vec Atom Global)) (i : ℕ) (p : List Atom) (v : Vec Atom Global) → i < length ps → i < length vs → p ≡ get_or ps i p → v ≡ get_or vs i v → p ≡ v.items → take i ps ≡ take i (lists_of vs) → take (i + 1) ps ≡ take (i + 1) (lists_of vs)
same-at ps vs i p v lt less first second same before =
    let few : i < length (lists_of vs) = let l = length-lists vs in omega arith in
    take_more ps i p lt ∙ ap₂ (λ qs q. qs ++ q ∷ []) before (sym first ∙ same ∙ sym (at-list vs i v p less second)) ∙ sym (take_more (lists_of vs) i p few)

pub products-next : (ps : List (List Atom)) (vs : List (Vec Atom Global)) (i : ℕ) (p : List Atom) (v : Vec Atom Global) → i < length vs → v ≡ get_or vs i v → ((test : Atom → Bool) → list_all test p ≡ list_all test v.items) → AreProducts ps (take i (lists_of vs)) → AreProducts (ps ++ p ∷ []) (take (i + 1) (lists_of vs))
products-next ps vs i p v lt is one all =
    let few : i < length (lists_of vs) = let l = length-lists vs in omega arith in
    subst (AreProducts (ps ++ p ∷ [])) (sym (take_more (lists_of vs) i p few))
    (products-push ps (take i (lists_of vs)) p (get_or (lists_of vs) i p) all (λ test. one test ∙ ap (list_all test) (sym (at-list vs i v p lt is))))

-- one more atom
pub atom-next : (product one union atoms : List Atom) (i : ℕ) (d : Atom) → i < length atoms → one ≡ get_or atoms i d ∷ [] → IsUnion product one union → ((test : Atom → Bool) → list_all test product ≡ list_all test (take i atoms)) → (test : Atom → Bool) → list_all test union ≡ list_all test (take (i + 1) atoms)
atom-next product one union atoms i d lt is both before test =
    list_all-union test product one union both
    ∙ ap₂ ◌&&◌ (before test) (ap (list_all test) is)
    ∙ sym (list_all-append test (take i atoms) (get_or atoms i d ∷ []))
    ∙ ap (list_all test) (sym (take_more atoms i d lt))

pub exact : IsExactOrder atom_cmp
exact = record {
  total = then_total (back_total (on_total (λ (a : Atom). a.index.0) nat_cmp_total)) (on_total (λ (a : Atom). a.sign) bool_cmp_total);
  exact = search rules;
}

pub not-told : (b r : Bool) → r ≡ not b → b ≡ not r
not-told true r e = ap not (sym e)
not-told false r e = ap not (sym e)
