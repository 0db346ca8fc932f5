-- Formulas and faces of normal trees.
use Rattle.std.proofs.Common.{◌≡◌, ◌≢◌, ◌↔◌, ℕ, zero, suc, ◌+◌, ◌<◌, ◌≤◌, Bool, true, false, IsTrue, List, [], ◌∷◌, ◌++◌, length, take, get_or, map, refl, sym, ◌∙◌, ap, ap₂, subst, arith, Option, Some, None, Vec, Global}
use Rattle.std.specs.Prelude.{option_map}
use Rattle.std.specs.List.{All}
use Rattle.std.specs.List.Sorted.{IsStrictlySortedBy}
use Rattle.std.proofs.lemmas.List.Elements.{All-nil, All-cons, All-head, All-tail, All-weaker, All-more, All-get_or}
use Rattle.trees.specs.declared.op.Op.{Op}
use Rattle.trees.specs.declared.op.Op.TheVariants as op
use Rattle.trees.specs.Trees.{Tree, Var, Make, NoTrees}
use Rattle.antichains.specs.Antichains.{IsNormal}
use Rattle.normal_formulas.specs.declared.atoms.Atom.{Atom}
use Rattle.normal_formulas.specs.declared.atoms.Sort.TheVariants as sort
use Rattle.normal_formulas.specs.Atoms.{signed_name, product, sum_of_products, cover, atom_cmp, level_cmp, lists_of, IsNot}
use Rattle.normal_formulas.specs.Reads.{Reads}
use Rattle.normal_formulas.proofs.OrderLaws.{length-lists}
use Rattle.normal_formulas.proofs.ReadLaws.{exact-products, same-nested, same-covers}
use Rattle.fixed_names.specs.Fixed.{Fixed}
use Rattle.normal_parts.specs.Normal.{IsNormalFormula, AreConjunctions, IsNormalFace}
use Rattle.normal_parts.specs.Parts.{AreAllFree, IsEnd, MayApply, HasNormalFace, IsRising}

none-some : {X : Type 0} {x : X} → None ≡ Some x → ⊥
none-some e = cc

some-same : {X : Type 0} {x y : X} → Some x ≡ Some y → x ≡ y
some-same e = cc

-- the sum is 0 or 1

literal-end : (k : ℕ) (b : Bool) → IsNot op.I1 (signed_name k b)
literal-end k false = tt
literal-end k true = λ e. cc

not-zero : (ps : List (List Atom)) → (IsEnd ps → ⊥) → IsNot op.I0 (sum_of_products ps)
not-zero [] never = absurd (never tt)
not-zero ([] ∷ []) never = absurd (never tt)
not-zero ((a ∷ []) ∷ []) never = literal-zero a.index.0 a.sign
  where
    literal-zero : (k : ℕ) (b : Bool) → IsNot op.I0 (signed_name k b)
    literal-zero k false = tt
    literal-zero k true = λ e. cc
not-zero ((a ∷ b ∷ p) ∷ []) never = λ e. cc
not-zero (p ∷ q ∷ ps) never = λ e. cc

not-one : (ps : List (List Atom)) → (IsEnd ps → ⊥) → IsNot op.I1 (sum_of_products ps)
not-one [] never = absurd (never tt)
not-one ([] ∷ []) never = absurd (never tt)
not-one ((a ∷ []) ∷ []) never = literal-end a.index.0 a.sign
not-one ((a ∷ b ∷ p) ∷ []) never = λ e. cc
not-one (p ∷ q ∷ ps) never = λ e. cc

is-end : (ps : List (List Atom)) → IsEnd ps → IsNot op.I0 (sum_of_products ps) → IsNot op.I1 (sum_of_products ps) → ⊥
is-end [] e zero' one' = zero' refl
is-end ([] ∷ []) e zero' one' = one' refl
is-end ((a ∷ p) ∷ []) e zero' one' = e
is-end ([] ∷ q ∷ ps) e zero' one' = e
is-end ((a ∷ p) ∷ q ∷ ps) e zero' one' = e

-- formulas

pub may-apply : (z : Fixed) (t : Tree) (ps : List (List Atom)) → Reads sum_of_products t (Some ps) → (IsEnd ps → ⊥) → AreAllFree z ps → IsNormal atom_cmp ps → MayApply z t
may-apply z t ps r never free normal =
    let is = r.sound ps refl in (
      subst (IsNot op.I0) (sym is) (not-zero ps never),
      subst (IsNot op.I1) (sym is) (not-one ps never),
      record { products = ps; is = is; ordered = normal; free = free },
    )

pub of-formula : (z : Fixed) (t : Tree) (ps : List (List Atom)) → Reads sum_of_products t (Some ps) → MayApply z t → (IsEnd ps → ⊥) × AreAllFree z ps × IsNormal atom_cmp ps
of-formula z t ps r m =
    let f = m.2 in
    let same : ps ≡ f.products = some-same (r.complete f.products f.is) in
    let is = r.sound ps refl in (
      λ e. is-end ps e (subst (IsNot op.I0) is m.0) (subst (IsNot op.I1) is m.1),
      subst (AreAllFree z) (sym same) f.free,
      subst (IsNormal atom_cmp) (sym same) f.ordered,
    )

pub no-formula : (z : Fixed) (t : Tree) → Reads sum_of_products t None → MayApply z t → ⊥
no-formula z t r m = none-some (r.complete m.2.products m.2.is)

-- faces

both : {X : Type 0} (P Q : X → Type 0) (xs : List X) → All P xs → All Q xs → All (λ x. P x × Q x) xs
both P Q [] p q = All-nil (λ x. P x × Q x)
both P Q (x ∷ xs) p q = All-cons (λ y. P y × Q y) x xs (All-head P x xs p, All-head Q x xs q) (both P Q xs (All-tail P x xs p) (All-tail Q x xs q))

pub has-face : (z : Fixed) (t : Tree) (cs : List (List Atom)) → Reads cover t (Some cs) → All IsRising cs → AreAllFree z cs → IsNormal atom_cmp cs → HasNormalFace z t
has-face z t cs r rising free normal = (
  cs,
  record {
    is = r.sound cs refl;
    conjunctions = record { ordered = normal; rising = All-weaker IsRising (IsStrictlySortedBy level_cmp) (λ c h. h.1) cs rising; some = All-weaker IsRising (λ c. c ≢ []) (λ c h. h.0) cs rising; free = free };
  },
)

pub of-face : (z : Fixed) (t : Tree) (cs : List (List Atom)) → Reads cover t (Some cs) → HasNormalFace z t → All IsRising cs × AreAllFree z cs × IsNormal atom_cmp cs
of-face z t cs r h =
    let same : cs ≡ h.0 = some-same (r.complete h.0 h.1.is) in
    let all = h.1.conjunctions in (
      subst (All IsRising) (sym same) (both (λ c. c ≢ []) (IsStrictlySortedBy level_cmp) h.0 all.some all.rising),
      subst (AreAllFree z) (sym same) all.free,
      subst (IsNormal atom_cmp) (sym same) all.ordered,
    )

pub no-face : (z : Fixed) (t : Tree) → Reads cover t None → HasNormalFace z t → ⊥
no-face z t r h = none-some (r.complete h.0 h.1.is)

-- lists that are tested one by one

pub at-list : (vs : List (Vec Atom Global)) (i : ℕ) (v : Vec Atom Global) (d : List Atom) → i < length vs → v ≡ get_or vs i v → get_or (lists_of vs) i d ≡ v.items
at-list [] i v d lt is = absurd (omega arith)
at-list (w ∷ vs) zero v d lt is = ap (λ (u : Vec Atom Global). u.items) (sym is)
at-list (w ∷ vs) (suc i) v d lt is = at-list vs i v d (omega arith) is

pub one-more : {X : Type 0} (P : X → Type 0) (xs : List X) (i : ℕ) (x : X) → i < length xs → x ≡ get_or xs i x → P x → All P (take i xs) → All P (take (i + 1) xs)
one-more P xs i x lt is p all = All-more P xs i x lt all (subst P is p)

pub no-length : {X : Type 0} (xs : List X) → length xs ≡ 0 → xs ≡ []
no-length [] e = refl
no-length (x ∷ xs) e = absurd (omega arith)

pub one-fails : {X : Type 0} (P : X → Type 0) (xs : List X) (i : ℕ) (x : X) → i < length xs → x ≡ get_or xs i x → (P x → ⊥) → All P xs → ⊥
one-fails P xs i x lt is never all = never (subst P (sym is) (All-get_or P xs i x lt all))

pub list-more : (P : List Atom → Type 0) (vs : List (Vec Atom Global)) (i : ℕ) (v : Vec Atom Global) → i < length vs → v ≡ get_or vs i v → P v.items → All P (take i (lists_of vs)) → All P (take (i + 1) (lists_of vs))
list-more P vs i v lt is p all = All-more P (lists_of vs) i v.items (let l = length-lists vs in omega arith) all (subst P (sym (at-list vs i v v.items lt is)) p)

pub list-fails : (P : List Atom → Type 0) (vs : List (Vec Atom Global)) (i : ℕ) (v : Vec Atom Global) → i < length vs → v ≡ get_or vs i v → (P v.items → ⊥) → All P (lists_of vs) → ⊥
list-fails P vs i v lt is never all = never (subst P (at-list vs i v v.items lt is) (All-get_or P (lists_of vs) i v.items (let l = length-lists vs in omega arith) all))
