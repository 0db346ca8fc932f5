-- Sums of products that are read off trees.
use Rattle.std.proofs.Common.{◌≡◌, ◌≢◌, ℕ, zero, suc, ◌<◌, Bool, true, false, List, [], ◌∷◌, ◌++◌, length, get_or, map, Some, None, refl, sym, ◌∙◌, ap, ap₂, subst, arith}
use Rattle.trees.specs.declared.op.Op.{Op}
use Rattle.trees.specs.declared.op.Op.TheVariants as op
use Rattle.trees.specs.Operators.{kids_of, binds_of}
use Rattle.trees.specs.Trees.{Tree, Trees, Var, Make, NoTrees, More}
use Rattle.normal_formulas.specs.declared.atoms.Atom.{Atom}
use Rattle.normal_formulas.specs.declared.atoms.Sort.{Sort}
use Rattle.normal_formulas.specs.declared.atoms.Sort.TheVariants as sort
use Rattle.normal_formulas.specs.Atoms.{atom_tree, sign_of, signed_name, at_end, nested, joiner_of, none_of, product, conjunction, cover, IsNot}
use Rattle.normal_formulas.specs.Reads.{Reads, IsSplit}

-- lists of trees that begin with neither operator

abbrev pub ArePlain : Op → Op → List Tree → Type 0
ArePlain o none [] = Unit {0}
ArePlain o none (t ∷ ts) = IsNot o t × IsNot none t × ArePlain o none ts

not-itself : (o : Op) (ts : Trees) (t : Tree) → t ≡ Make o ts → IsNot o t → ⊥
not-itself o ts t e h = subst (IsNot o) e h refl

join-first : (o : Op) (t u x y : Tree) → Make o (More t (More u NoTrees)) ≡ Make o (More x (More y NoTrees)) → t ≡ x
join-first o t u x y e = cc

join-second : (o : Op) (t u x y : Tree) → Make o (More t (More u NoTrees)) ≡ Make o (More x (More y NoTrees)) → u ≡ y
join-second o t u x y e = cc

pub op-same : (o p : Op) (ts us : Trees) → Make o ts ≡ Make p us → o ≡ p
op-same o p ts us e = cc

abbrev HasPlainEnd : Op → List Tree → Type 0
HasPlainEnd o ts = (us : List Tree) (u : Tree) → ts ≡ us ++ u ∷ [] → IsNot o u

end-rest : (o : Op) (t : Tree) (ts : List Tree) → HasPlainEnd o (t ∷ ts) → HasPlainEnd o ts
end-rest o t ts h us u e = h (t ∷ us) u (ap (λ xs. t ∷ xs) e)

-- two lists that are not empty and nest to one tree are one
same-some : (o none : Op) (t : Tree) (ts : List Tree) (u : Tree) (us : List Tree) → HasPlainEnd o (t ∷ ts) → ArePlain o none (u ∷ us) → nested o none (t ∷ ts) ≡ nested o none (u ∷ us) → t ∷ ts ≡ u ∷ us
same-some o none t [] u [] h p e = ap (λ x. x ∷ []) e
same-some o none t [] u (v ∷ us) h p e = absurd (not-itself o _ t e (h [] t refl))
same-some o none t (s ∷ ts) u [] h p e = absurd (not-itself o _ u (sym e) p.0)
same-some o none t (s ∷ ts) u (v ∷ us) h p e =
    ap₂ (λ x xs. x ∷ xs) (join-first o _ _ _ _ e) (same-some o none s ts v us (end-rest o t (s ∷ ts) h) p.2 (join-second o _ _ _ _ e))

pub split-same : (o none : Op) (t : Tree) (ts us : List Tree) → none ≢ o → IsSplit o none t ts → ArePlain o none us → t ≡ nested o none us → ts ≡ us
split-same o none t [] [] apart s p e = refl
split-same o none t [] (u ∷ []) apart s p e = absurd (not-itself none NoTrees u (sym e ∙ s.whole) p.1)
split-same o none t [] (u ∷ v ∷ us) apart s p e = absurd (apart (op-same none o _ _ (sym s.whole ∙ e)))
split-same o none t (x ∷ []) [] apart s p e = absurd (s.some (ap (λ y. y ∷ []) (sym s.whole ∙ e)))
split-same o none t (x ∷ y ∷ ts) [] apart s p e = absurd (apart (op-same none o _ _ (sym e ∙ s.whole)))
split-same o none t (x ∷ ts) (u ∷ us) apart s p e = same-some o none x ts u us s.last p (sym s.whole ∙ e)

-- plain lists split what they nest to

plain-end : (o none : Op) (ts us : List Tree) (u : Tree) → ArePlain o none ts → ts ≡ us ++ u ∷ [] → IsNot o u
plain-end o none [] [] u p e = cc
plain-end o none [] (v ∷ us) u p e = cc
plain-end o none (t ∷ ts) [] u p e = let same : t ≡ u = cc in subst (IsNot o) same p.0
plain-end o none (t ∷ ts) (v ∷ us) u p e = let rest : ts ≡ us ++ u ∷ [] = cc in plain-end o none ts us u p.2 rest

plain-some : (o none : Op) (ts : List Tree) → ArePlain o none ts → ts ≡ Make none NoTrees ∷ [] → ⊥
plain-some o none [] p e = cc
plain-some o none (t ∷ ts) p e = let same : t ≡ Make none NoTrees = cc in not-itself none NoTrees t same p.1

pub plain-split : (o none : Op) (ts : List Tree) → ArePlain o none ts → IsSplit o none (nested o none ts) ts
plain-split o none ts p = record { whole = refl; last = λ us u e. plain-end o none ts us u p e; some = plain-some o none ts p }

-- trees that are read one by one

pub record IsExact {X : Type 0} (o none : Op) (build : X → Tree) : Type 0 where
  pub apart : none ≢ o
  pub plain : (x : X) → IsNot o (build x) × IsNot none (build x)
  pub same : (x y : X) → build x ≡ build y → x ≡ y

plain-all : {X : Type 0} {o none : Op} {build : X → Tree} → IsExact o none build → (xs : List X) → ArePlain o none (map build xs)
plain-all is [] = tt
plain-all is (x ∷ xs) = let p = is.plain x in (p.0, p.1, plain-all is xs)

same-all : {X : Type 0} {o none : Op} {build : X → Tree} → IsExact o none build → (xs ys : List X) → map build xs ≡ map build ys → xs ≡ ys
same-all is [] [] e = refl
same-all is [] (y ∷ ys) e = cc
same-all is (x ∷ xs) [] e = cc
same-all {build = build} is (x ∷ xs) (y ∷ ys) e =
    let first : build x ≡ build y = cc in
    let rest : map build xs ≡ map build ys = cc in
    ap₂ (λ z zs. z ∷ zs) (is.same x y first) (same-all is xs ys rest)

-- what nests to the joins of things is one list of things
pub same-nested : {X : Type 0} {o none : Op} {build : X → Tree} → IsExact o none build → (xs ys : List X) → nested o none (map build xs) ≡ nested o none (map build ys) → xs ≡ ys
same-nested {o = o} {none = none} {build = build} is xs ys e =
    same-all is xs ys (split-same o none _ (map build xs) (map build ys) is.apart (plain-split o none (map build xs) (plain-all is xs)) (plain-all is ys) e)

pub reads-all : {X : Type 0} {o none : Op} {build : X → Tree} → IsExact o none build → (t : Tree) (ts : List Tree) (xs : List X) → IsSplit o none t ts → map build xs ≡ ts → Reads (λ (ys : List X). nested o none (map build ys)) t (Some xs)
reads-all {o = o} {none = none} {build = build} is t ts xs s all = record {
  sound = λ ys e. s.whole ∙ ap (nested o none) (sym all) ∙ ap (λ zs. nested o none (map build zs)) (some-same e);
  complete = λ ys e. ap Some (same-all is xs ys (all ∙ split-same o none t ts (map build ys) is.apart s (plain-all is ys) e));
}
  where
    some-same : {Y : Type 0} {x y : Y} → Some x ≡ Some y → x ≡ y
    some-same e = cc

at-map : {X : Type 0} (build : X → Tree) (xs : List X) (ts : List Tree) (i : ℕ) (t : Tree) → i < length ts → ts ≡ map build xs → t ≡ get_or ts i t → (x : X) × (t ≡ build x)
at-map build [] ts i t lt e at = let none : length ts ≡ 0 = ap length e in absurd (omega arith)
at-map build (x ∷ xs) [] i t lt e at = absurd (omega arith)
at-map build (x ∷ xs) (u ∷ us) zero t lt e at = let same : u ≡ build x = cc in (x, at ∙ same)
at-map build (x ∷ xs) (u ∷ us) (suc i) t lt e at = let rest : us ≡ map build xs = cc in at-map build xs us i t (omega arith) rest at

pub reads-none : {X : Type 0} {o none : Op} {build : X → Tree} → IsExact o none build → (t : Tree) (ts : List Tree) (i : ℕ) (u : Tree) → IsSplit o none t ts → i < length ts → u ≡ get_or ts i u → Reads build u None → Reads (λ (ys : List X). nested o none (map build ys)) t None
reads-none {o = o} {none = none} {build = build} is t ts i u s lt at r = record {
  sound = λ ys e. cc;
  complete = λ ys e.
      let found = at-map build ys ts i u lt (split-same o none t ts (map build ys) is.apart s (plain-all is ys) e) at in
      absurd (none-some (r.complete found.0 found.1));
}
  where
    none-some : {Y : Type 0} {y : Y} → None ≡ Some y → ⊥
    none-some e = cc

-- literals, equations, products

same-signs : (k j : ℕ) (b c : Bool) → signed_name k b ≡ signed_name j c → (k ≡ j) × (b ≡ c)
same-signs k j false false e = (cc, refl)
same-signs k j false true e = cc
same-signs k j true false e = cc
same-signs k j true true e = (cc, refl)

same-ends : (k j : ℕ) (b c : Bool) → at_end k b ≡ at_end j c → (k ≡ j) × (b ≡ c)
same-ends k j false false e = (cc, refl)
same-ends k j false true e = cc
same-ends k j true false e = cc
same-ends k j true true e = (cc, refl)

abbrev atom : ℕ → Bool → Atom
atom k b = record { index = record { 0 = k }; sign = b }

same-atoms : (s : Sort) (a b : Atom) → atom_tree s a ≡ atom_tree s b → a ≡ b
same-atoms sort.Literals a b e = let h = same-signs _ _ _ _ e in ap₂ atom h.0 h.1
same-atoms sort.Equations a b e = let h = same-ends _ _ _ _ e in ap₂ atom h.0 h.1

plain-literal : (k : ℕ) (b : Bool) → IsNot op.Min (signed_name k b) × IsNot op.I1 (signed_name k b) × IsNot op.Max (signed_name k b) × IsNot op.I0 (signed_name k b)
plain-literal k false = (tt, tt, tt, tt)
plain-literal k true = (λ e. cc, λ e. cc, λ e. cc, λ e. cc)

plain-equation : (k : ℕ) (b : Bool) → IsNot op.Meet (at_end k b) × IsNot op.F1 (at_end k b)
plain-equation k false = (λ e. cc, λ e. cc)
plain-equation k true = (λ e. cc, λ e. cc)

pub exact-atoms : (s : Sort) → IsExact (joiner_of s) (none_of s) (atom_tree s)
exact-atoms sort.Literals = record { apart = λ e. cc; plain = λ a. let p = plain-literal a.index.0 a.sign in (p.0, p.1); same = same-atoms sort.Literals }
exact-atoms sort.Equations = record { apart = λ e. cc; plain = λ a. plain-equation a.index.0 a.sign; same = same-atoms sort.Equations }

plain-product : (as' : List Atom) → IsNot op.Max (product sort.Literals as') × IsNot op.I0 (product sort.Literals as')
plain-product [] = (λ e. cc, λ e. cc)
plain-product (a ∷ []) = let p = plain-literal a.index.0 a.sign in (p.2, p.3)
plain-product (a ∷ b ∷ as') = (λ e. cc, λ e. cc)

pub exact-products : IsExact op.Max op.I0 (product sort.Literals)
exact-products = record { apart = λ e. cc; plain = plain-product; same = same-nested (exact-atoms sort.Literals) }

pub same-conjunctions : (as' bs : List Atom) → conjunction as' ≡ conjunction bs → as' ≡ bs
same-conjunctions = same-nested (exact-atoms sort.Equations)

pub same-covers : (cs ds : List (List Atom)) → cover cs ≡ cover ds → cs ≡ ds
same-covers [] [] e = refl
same-covers [] (d ∷ ds) e = cc
same-covers (c ∷ cs) [] e = cc
same-covers (c ∷ cs) (d ∷ ds) e = ap₂ (λ x xs. x ∷ xs) (same-conjunctions c d (join-first op.Join _ _ _ _ e)) (same-covers cs ds (join-second op.Join _ _ _ _ e))

-- names and atoms

pub some-same : {Y : Type 0} {x y : Y} → Some x ≡ Some y → x ≡ y
some-same e = cc

pub reads-name : (k : ℕ) (t : Tree) → Var k ≡ t → Reads Var t (Some k)
reads-name k t is = record { sound = λ x e. sym is ∙ ap Var (some-same e); complete = λ x e. ap Some (same (is ∙ e)) }
  where
    same : {x : ℕ} → Var k ≡ Var x → k ≡ x
    same e = cc

pub reads-no_name : (t : Tree) (o : Op) (ts : Trees) → t ≡ Make o ts → Reads Var t None
reads-no_name t o ts is = record { sound = λ x e. cc; complete = λ x e. absurd (apart (sym is ∙ e)) }
  where
    apart : {x : ℕ} → Make o ts ≡ Var x → ⊥
    apart e = cc

pub reads-plain : (k : ℕ) (t : Tree) → Var k ≡ t → Reads (atom_tree sort.Literals) t (Some (atom k false))
reads-plain k t is = record { sound = λ x e. sym is ∙ ap (atom_tree sort.Literals) (some-same e); complete = λ x e. ap Some (same-atoms sort.Literals (atom k false) x (is ∙ e)) }

pub reads-no_equation : (k : ℕ) (t : Tree) → Var k ≡ t → Reads (atom_tree sort.Equations) t None
reads-no_equation k t is = record { sound = λ x e. cc; complete = λ x e. absurd (apart x.index.0 x.sign (is ∙ e)) }
  where
    apart : (j : ℕ) (b : Bool) → Var k ≡ at_end j b → ⊥
    apart j false e = cc
    apart j true e = cc

-- an operator of atoms has one kid
pub sign-kids : (s : Sort) (o : Op) (b : Bool) → sign_of s o ≡ Some b → kids_of o ≡ 1
sign-kids sort.Literals op.Neg b e = refl
sign-kids sort.Equations op.Eq0 b e = refl
sign-kids sort.Equations op.Eq1 b e = refl
sign-kids s o b e = cc

-- and binds nothing
pub sign-binds : (s : Sort) (o : Op) (b : Bool) → sign_of s o ≡ Some b → binds_of o 0 ≡ 0
sign-binds sort.Literals op.Neg b e = refl
sign-binds sort.Equations op.Eq0 b e = refl
sign-binds sort.Equations op.Eq1 b e = refl
sign-binds s o b e = cc

-- an atom over a name
pub signed : (s : Sort) (o : Op) (b : Bool) (k : ℕ) → sign_of s o ≡ Some b → Make o (More (Var k) NoTrees) ≡ atom_tree s (atom k b)
signed sort.Literals op.Neg b k e = let same : true ≡ b = some-same e in subst (λ c. Make op.Neg (More (Var k) NoTrees) ≡ signed_name k c) same refl
signed sort.Equations op.Eq0 b k e = let same : false ≡ b = some-same e in subst (λ c. Make op.Eq0 (More (Var k) NoTrees) ≡ at_end k c) same refl
signed sort.Equations op.Eq1 b k e = let same : true ≡ b = some-same e in subst (λ c. Make op.Eq1 (More (Var k) NoTrees) ≡ at_end k c) same refl
signed s o b k e = cc

-- what an atom is made of, where it is an operator
pub atom-made : (s : Sort) (a : Atom) (o : Op) (t : Tree) → Make o (More t NoTrees) ≡ atom_tree s a → (sign_of s o ≡ Some a.sign) × (t ≡ Var a.index.0)
atom-made sort.Literals a o t e = by a.index.0 a.sign e
  where
    by : (k : ℕ) (b : Bool) → Make o (More t NoTrees) ≡ signed_name k b → (sign_of sort.Literals o ≡ Some b) × (t ≡ Var k)
    by k false e = cc
    by k true e = let same : o ≡ op.Neg = cc in (ap (sign_of sort.Literals) same, cc)
atom-made sort.Equations a o t e = by a.index.0 a.sign e
  where
    by : (k : ℕ) (b : Bool) → Make o (More t NoTrees) ≡ at_end k b → (sign_of sort.Equations o ≡ Some b) × (t ≡ Var k)
    by k false e = let same : o ≡ op.Eq0 = cc in (ap (sign_of sort.Equations) same, cc)
    by k true e = let same : o ≡ op.Eq1 = cc in (ap (sign_of sort.Equations) same, cc)

pub reads-signed : (s : Sort) (o : Op) (b : Bool) (k : ℕ) (t u : Tree) → sign_of s o ≡ Some b → t ≡ Make o (More u NoTrees) → Reads Var u (Some k) → Reads (atom_tree s) t (Some (atom k b))
reads-signed s o b k t u sign is r =
    let whole : t ≡ atom_tree s (atom k b) = is ∙ ap (λ v. Make o (More v NoTrees)) (r.sound k refl) ∙ signed s o b k sign in
    record { sound = λ x e. whole ∙ ap (atom_tree s) (some-same e); complete = λ x e. ap Some (same-atoms s (atom k b) x (sym whole ∙ e)) }

pub reads-unsigned : (s : Sort) (o : Op) (t u : Tree) → t ≡ Make o (More u NoTrees) → Reads Var u None → Reads (atom_tree s) t None
reads-unsigned s o t u is r = record { sound = λ x e. cc; complete = λ x e. absurd (no-some (r.complete x.index.0 (atom-made s x o u (sym is ∙ e)).1)) }
  where
    no-some : {k : ℕ} → None ≡ Some k → ⊥
    no-some e = cc

pub reads-other : (s : Sort) (o : Op) (t : Tree) (ts : Trees) → t ≡ Make o ts → sign_of s o ≡ None → Reads (atom_tree s) t None
reads-other s o t ts is none = record { sound = λ x e. cc; complete = λ x e. absurd (by s x (sym is ∙ e) none) }
  where
    no-some : {b : Bool} → None ≡ Some b → ⊥
    no-some e = cc

    by-sign : (k : ℕ) (b : Bool) → Make o ts ≡ signed_name k b → sign_of sort.Literals o ≡ None → ⊥
    by-sign k false e n = cc
    by-sign k true e n = let same : o ≡ op.Neg = cc in no-some (sym n ∙ ap (sign_of sort.Literals) same)

    by-end : (k : ℕ) (b : Bool) → Make o ts ≡ at_end k b → sign_of sort.Equations o ≡ None → ⊥
    by-end k false e n = let same : o ≡ op.Eq0 = cc in no-some (sym n ∙ ap (sign_of sort.Equations) same)
    by-end k true e n = let same : o ≡ op.Eq1 = cc in no-some (sym n ∙ ap (sign_of sort.Equations) same)

    by : (q : Sort) (x : Atom) → Make o ts ≡ atom_tree q x → sign_of q o ≡ None → ⊥
    by sort.Literals x e n = by-sign x.index.0 x.sign e n
    by sort.Equations x e n = by-end x.index.0 x.sign e n
