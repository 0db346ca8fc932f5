-- What held rows mean: it stays as rows come in, it is of the row's kind, and the rows that are named mean something.
use Rattle.std.proofs.Common.{◌≡◌, ℕ, List, [], ◌∷◌, length, refl, sym, ◌∙◌, ap, Option, Some, None, IsSome, Bool, true, false, suc, arith, IsTrue, ◌↔◌}
use Rattle.std.specs.Prelude.{slice_get, option_and_then, cond, ◌==◌}
use Rattle.std.specs.List.{All}
use Rattle.std.proofs.lemmas.List.Elements.{All-nil, All-cons, All-head, All-tail}
use Rattle.std.proofs.lemmas.Bool.Decides.{nat_tests}
use Rattle.trees.specs.declared.kind.PartKind.{PartKind}
use Rattle.trees.specs.declared.kind.PartKind.TheVariants as part
use Rattle.trees.specs.declared.op.Op.{Op}
use Rattle.trees.specs.Operators.{kids_of}
use Rattle.trees.specs.Trees.{Tree, Make, trees_of}
use Rattle.trees.specs.Things.{Thing, ATree, ASubst, AContext, Meanings, Kept, kind_of, both, only_trees, over_kids, made, meanings, instance_of, pushed_on, then_of, with_variable, with_a_name, with_a_face}
use Rattle.trees.proofs.Meanings.{meanings-cons, meanings-kept, meanings-length}
use Rattle.rows.specs.declared.held.Held.{Held}
use Rattle.rows.specs.declared.held.Held.TheVariants as held
use Rattle.rows.specs.declared.held.HeldSub.{HeldSub}
use Rattle.rows.specs.declared.held.HeldSubRow.{HeldSubRow}
use Rattle.rows.specs.declared.held.HeldSubRow.TheVariants as heldsub
use Rattle.rows.specs.declared.views.SubRow.{SubRow}
use Rattle.rows.specs.declared.views.SubRow.TheVariants as sub
use Rattle.rows.specs.Views.{IsTree, IsSubst, IsContext, IsOfKind, sub_meaning, sub_names}
use Rattle.rows.specs.Held.{held_meaning, held_row_meaning, held_row_names, held_sub_meaning, kids_at, kind_held}
use Rattle.rows.proofs.OptionLaws.{both-some, one-some}

-- a value that is there
pub is_some-value : {A : Type 0} (o : Option A) → IsSome o → (x : A) × (o ≡ Some x)
is_some-value None some = cc
is_some-value (Some x) some = (x, refl)

-- rows go on to mean what they mean
pub both-kept : {C : Type 0} (f g : Meanings) → Kept f g → (h : Thing → Thing → Option C) (j k : ℕ) (x : C) → both h (f j) (f k) ≡ Some x → both h (g j) (g k) ≡ Some x
both-kept f g kept h j k x e =
    let b = both-some h (f j) (f k) x e in
    rw (kept.keeps j b.first b.first_is, kept.keeps k b.second b.second_is) b.whole

pub one-kept : {C : Type 0} (f g : Meanings) → Kept f g → (h : Thing → Option C) (k : ℕ) (x : C) → option_and_then h (f k) ≡ Some x → option_and_then h (g k) ≡ Some x
one-kept f g kept h k x e = let o = one-some h (f k) x e in rw (kept.keeps k o.first o.first_is) o.whole

held_row_meaning-kept : (f g : Meanings) → Kept f g → (r : HeldSubRow) (x : Thing) → held_row_meaning f r ≡ Some x → held_row_meaning g r ≡ Some x
held_row_meaning-kept f g kept (heldsub.Shift n) x e = e
held_row_meaning-kept f g kept (heldsub.Push d a) x e = both-kept f g kept pushed_on d a x e
held_row_meaning-kept f g kept (heldsub.Then d e) x is = both-kept f g kept then_of d e x is

held_sub_meaning-kept : (f g : Meanings) → Kept f g → (s : Option HeldSub) (x : Thing) → held_sub_meaning f s ≡ Some x → held_sub_meaning g s ≡ Some x
held_sub_meaning-kept f g kept None x e = cc
held_sub_meaning-kept f g kept (Some s) x e = held_row_meaning-kept f g kept s.row x e

pub held_meaning-kept : (f g : Meanings) → Kept f g → (kids : List ℕ) (subs : List HeldSub) (r : Held) (x : Thing) → held_meaning f kids subs r ≡ Some x → held_meaning g kids subs r ≡ Some x
held_meaning-kept f g kept kids subs (held.Var k) x e = e
held_meaning-kept f g kept kids subs (held.Make op at) x e =
    let ks = kids_at kids (kids_of op) at in
    let o = one-some (made op) (meanings f ks) x e in
    ap (option_and_then (made op)) (meanings-kept f g kept ks o.first o.first_is) ∙ o.whole
held_meaning-kept f g kept kids subs (held.Instance t d) x e = both-kept f g kept instance_of t d x e
held_meaning-kept f g kept kids subs (held.Subst at) x e = held_sub_meaning-kept f g kept (slice_get subs at) x e
held_meaning-kept f g kept kids subs held.CtxNil x e = e
held_meaning-kept f g kept kids subs (held.CtxVar G A) x e = both-kept f g kept with_variable G A x e
held_meaning-kept f g kept kids subs (held.CtxName G) x e = one-kept f g kept with_a_name G x e
held_meaning-kept f g kept kids subs (held.CtxFace G p) x e = both-kept f g kept with_a_face G p x e

-- the rows that a row names
abbrev pub held_sub_names : Option HeldSub → List ℕ
held_sub_names None = []
held_sub_names (Some s) = held_row_names s.row

abbrev pub held_names : List ℕ → List HeldSub → Held → List ℕ
held_names kids subs (held.Var k) = []
held_names kids subs (held.Make op at) = kids_at kids (kids_of op) at
held_names kids subs (held.Instance t d) = t ∷ d ∷ []
held_names kids subs (held.Subst at) = held_sub_names (slice_get subs at)
held_names kids subs held.CtxNil = []
held_names kids subs (held.CtxVar G A) = G ∷ A ∷ []
held_names kids subs (held.CtxName G) = G ∷ []
held_names kids subs (held.CtxFace G p) = G ∷ p ∷ []

-- they mean something
abbrev pub Mean : Meanings → ℕ → Type 0
Mean f k = (x : Thing) × (f k ≡ Some x)

pub meanings-mean : (f : Meanings) (ks : List ℕ) (xs : List Thing) → meanings f ks ≡ Some xs → All (Mean f) ks
meanings-mean f [] xs e = All-nil (Mean f)
meanings-mean f (k ∷ ks) xs e =
    let m = meanings-cons f k ks xs e in
    All-cons (Mean f) k ks (m.first, m.first_is) (meanings-mean f ks m.rest m.rest_is)

pub both-mean : (f : Meanings) (h : Thing → Thing → Option Thing) (j k : ℕ) (x : Thing) → both h (f j) (f k) ≡ Some x → All (Mean f) (j ∷ k ∷ [])
both-mean f h j k x e =
    let b = both-some h (f j) (f k) x e in
    All-cons (Mean f) j (k ∷ []) (b.first, b.first_is) (All-cons (Mean f) k [] (b.second, b.second_is) (All-nil (Mean f)))

pub sub_names-mean : (f : Meanings) (r : SubRow) (x : Thing) → sub_meaning f r ≡ Some x → All (Mean f) (sub_names r)
sub_names-mean f (sub.Shift n) x e = All-nil (Mean f)
sub_names-mean f (sub.Push d a) x e = both-mean f pushed_on d.0 a.0 x e
sub_names-mean f (sub.Then d e) x is = both-mean f then_of d.0 e.0 x is

held_row_names-mean : (f : Meanings) (r : HeldSubRow) (x : Thing) → held_row_meaning f r ≡ Some x → All (Mean f) (held_row_names r)
held_row_names-mean f (heldsub.Shift n) x e = All-nil (Mean f)
held_row_names-mean f (heldsub.Push d a) x e = both-mean f pushed_on d a x e
held_row_names-mean f (heldsub.Then d e) x is = both-mean f then_of d e x is

held_sub_names-mean : (f : Meanings) (s : Option HeldSub) (x : Thing) → held_sub_meaning f s ≡ Some x → All (Mean f) (held_sub_names s)
held_sub_names-mean f None x e = cc
held_sub_names-mean f (Some s) x e = held_row_names-mean f s.row x e

pub held_names-mean : (f : Meanings) (kids : List ℕ) (subs : List HeldSub) (r : Held) (x : Thing) → held_meaning f kids subs r ≡ Some x → All (Mean f) (held_names kids subs r)
held_names-mean f kids subs (held.Var k) x e = All-nil (Mean f)
held_names-mean f kids subs (held.Make op at) x e =
    let ks = kids_at kids (kids_of op) at in
    let o = one-some (made op) (meanings f ks) x e in
    meanings-mean f ks o.first o.first_is
held_names-mean f kids subs (held.Instance t d) x e = both-mean f instance_of t d x e
held_names-mean f kids subs (held.Subst at) x e = held_sub_names-mean f (slice_get subs at) x e
held_names-mean f kids subs held.CtxNil x e = All-nil (Mean f)
held_names-mean f kids subs (held.CtxVar G A) x e = both-mean f with_variable G A x e
held_names-mean f kids subs (held.CtxName G) x e =
    let o = one-some with_a_name (f G) x e in
    All-cons (Mean f) G [] (o.first, o.first_is) (All-nil (Mean f))
held_names-mean f kids subs (held.CtxFace G p) x e = both-mean f with_a_face G p x e

-- a row means a thing of its kind
pub kind-same : (y x : Thing) → Some y ≡ Some x → kind_of x ≡ kind_of y
kind-same y x e = let same : y ≡ x = cc in sym (ap kind_of same)

-- an operator is over as many trees as it has kids
over_kids-cond : (op : Op) (b : Bool) (ts : List Tree) (x : Thing) → cond b (Some (ATree (Make op (trees_of ts)))) None ≡ Some x → (b ≡ true) × (x ≡ ATree (Make op (trees_of ts)))
over_kids-cond op true ts x e = (refl, cc)
over_kids-cond op false ts x e = cc

pub over_kids-is : (op : Op) (ts : List Tree) (x : Thing) → over_kids op ts ≡ Some x → (length ts ≡ kids_of op) × (x ≡ ATree (Make op (trees_of ts)))
over_kids-is op ts x e = let h = over_kids-cond op (length ts == kids_of op) ts x e in (let same = h.0 in grind (arith, nat_tests), h.1)

pub over_kids-there : (op : Op) (ts : List Tree) → length ts ≡ kids_of op → over_kids op ts ≡ Some (ATree (Make op (trees_of ts)))
over_kids-there op ts e = let same : (length ts == kids_of op) ≡ true = grind (arith, nat_tests) in rw same refl

pub over_kids-kind : (op : Op) (ts : List Tree) (x : Thing) → over_kids op ts ≡ Some x → kind_of x ≡ part.Term
over_kids-kind op ts x e = ap kind_of (over_kids-is op ts x e).1

pub instance_of-kind : (a b x : Thing) → instance_of a b ≡ Some x → kind_of x ≡ part.Term
instance_of-kind (ATree t) (ASubst d) x e = kind-same _ x e
instance_of-kind _ _ x e = cc

pub pushed_on-kind : (a b x : Thing) → pushed_on a b ≡ Some x → kind_of x ≡ part.Subst
pushed_on-kind (ASubst d) (ATree t) x e = kind-same _ x e
pushed_on-kind _ _ x e = cc

pub then_of-kind : (a b x : Thing) → then_of a b ≡ Some x → kind_of x ≡ part.Subst
then_of-kind (ASubst d) (ASubst e) x is = kind-same _ x is
then_of-kind _ _ x is = cc

pub with_variable-kind : (a b x : Thing) → with_variable a b ≡ Some x → kind_of x ≡ part.Context
with_variable-kind (AContext G) (ATree t) x e = kind-same _ x e
with_variable-kind _ _ x e = cc

pub with_a_name-kind : (a x : Thing) → with_a_name a ≡ Some x → kind_of x ≡ part.Context
with_a_name-kind (AContext G) x e = kind-same _ x e
with_a_name-kind _ x e = cc

pub with_a_face-kind : (a b x : Thing) → with_a_face a b ≡ Some x → kind_of x ≡ part.Context
with_a_face-kind (AContext G) (ATree t) x e = kind-same _ x e
with_a_face-kind _ _ x e = cc

pub both-kind : (f : Meanings) (h : Thing → Thing → Option Thing) (kind : PartKind) → ((a b x : Thing) → h a b ≡ Some x → kind_of x ≡ kind) → (j k : ℕ) (x : Thing) → both h (f j) (f k) ≡ Some x → kind_of x ≡ kind
both-kind f h kind of j k x e = let b = both-some h (f j) (f k) x e in of b.first b.second x b.whole

held_row_meaning-kind : (f : Meanings) (r : HeldSubRow) (x : Thing) → held_row_meaning f r ≡ Some x → kind_of x ≡ part.Subst
held_row_meaning-kind f (heldsub.Shift n) x e = kind-same _ x e
held_row_meaning-kind f (heldsub.Push d a) x e = both-kind f pushed_on part.Subst pushed_on-kind d a x e
held_row_meaning-kind f (heldsub.Then d e) x is = both-kind f then_of part.Subst then_of-kind d e x is

held_sub_meaning-kind : (f : Meanings) (s : Option HeldSub) (x : Thing) → held_sub_meaning f s ≡ Some x → kind_of x ≡ part.Subst
held_sub_meaning-kind f None x e = cc
held_sub_meaning-kind f (Some s) x e = held_row_meaning-kind f s.row x e

pub held_meaning-kind : (f : Meanings) (kids : List ℕ) (subs : List HeldSub) (r : Held) (x : Thing) → held_meaning f kids subs r ≡ Some x → kind_of x ≡ kind_held r
held_meaning-kind f kids subs (held.Var k) x e = kind-same _ x e
held_meaning-kind f kids subs (held.Make op at) x e =
    let o = one-some (made op) (meanings f (kids_at kids (kids_of op) at)) x e in
    let t = one-some (over_kids op) (only_trees o.first) x o.whole in
    over_kids-kind op t.first x t.whole
held_meaning-kind f kids subs (held.Instance t d) x e = both-kind f instance_of part.Term instance_of-kind t d x e
held_meaning-kind f kids subs (held.Subst at) x e = held_sub_meaning-kind f (slice_get subs at) x e
held_meaning-kind f kids subs held.CtxNil x e = kind-same _ x e
held_meaning-kind f kids subs (held.CtxVar G A) x e = both-kind f with_variable part.Context with_variable-kind G A x e
held_meaning-kind f kids subs (held.CtxName G) x e =
    let o = one-some with_a_name (f G) x e in with_a_name-kind o.first x o.whole
held_meaning-kind f kids subs (held.CtxFace G p) x e = both-kind f with_a_face part.Context with_a_face-kind G p x e

-- a thing is of the kind that it is of
pub is_of_kind : (x : Thing) → IsOfKind (kind_of x) (Some x)
is_of_kind (ATree t) = (t, refl)
is_of_kind (ASubst d) = (d, refl)
is_of_kind (AContext G) = (G, refl)

pub kind-of_kind : (kind : PartKind) (o : Option Thing) → IsOfKind kind o → (x : Thing) × (o ≡ Some x) × (kind_of x ≡ kind)
kind-of_kind part.Term o h = (ATree h.0, h.1, refl)
kind-of_kind part.Subst o h = (ASubst h.0, h.1, refl)
kind-of_kind part.Context o h = (AContext h.0, h.1, refl)

-- an operator is made over as many rows as it has kids
only_trees-length : (xs : List Thing) (ts : List Tree) → only_trees xs ≡ Some ts → length xs ≡ length ts
only_trees-length [] [] e = refl
only_trees-length [] (t ∷ ts) e = cc
only_trees-length (ATree t ∷ xs) ts e =
    let o = one-some (λ us. Some (t ∷ us)) (only_trees xs) ts e in
    let whole : t ∷ o.first ≡ ts = cc in
    ap suc (only_trees-length xs o.first o.first_is) ∙ ap length whole
only_trees-length (ASubst d ∷ xs) ts e = cc
only_trees-length (AContext G ∷ xs) ts e = cc

pub made-count : (f : Meanings) (op : Op) (ks : List ℕ) → IsSome (option_and_then (made op) (meanings f ks)) → length ks ≡ kids_of op
made-count f op ks some =
    let s = is_some-value (option_and_then (made op) (meanings f ks)) some in
    let o = one-some (made op) (meanings f ks) s.0 s.1 in
    let t = one-some (over_kids op) (only_trees o.first) s.0 o.whole in
    meanings-length f ks o.first o.first_is ∙ only_trees-length o.first t.first t.first_is ∙ (over_kids-is op t.first s.0 t.whole).0

-- an operator is made just where its kids are trees, as many as it has
only_trees-all : (f : Meanings) (ks : List ℕ) (xs : List Thing) (ts : List Tree) → meanings f ks ≡ Some xs → only_trees xs ≡ Some ts → All (λ k. IsTree (f k)) ks
only_trees-all f [] xs ts e all = All-nil (λ k. IsTree (f k))
only_trees-all f (k ∷ ks) xs ts e all =
    let m = meanings-cons f k ks xs e in
    from m.first m.rest m.first_is m.rest_is (ap only_trees (sym m.whole) ∙ all) (only_trees-all f ks m.rest)
  where
    from : (x : Thing) (rest : List Thing) → f k ≡ Some x → meanings f ks ≡ Some rest → only_trees (x ∷ rest) ≡ Some ts → ((us : List Tree) → meanings f ks ≡ Some rest → only_trees rest ≡ Some us → All (λ k. IsTree (f k)) ks) → All (λ k. IsTree (f k)) (k ∷ ks)
    from (ATree t) rest is rest_is trees later =
        let o = one-some (λ us. Some (t ∷ us)) (only_trees rest) ts trees in
        All-cons (λ k. IsTree (f k)) k ks (t, is) (later o.first rest_is o.first_is)
    from (ASubst d) rest is rest_is trees later = cc
    from (AContext G) rest is rest_is trees later = cc

all-only_trees : (f : Meanings) (ks : List ℕ) → All (λ k. IsTree (f k)) ks → (xs : List Thing) × (ts : List Tree) × (meanings f ks ≡ Some xs) × (only_trees xs ≡ Some ts) × (length ks ≡ length ts)
all-only_trees f [] all = ([], [], refl, refl, refl)
all-only_trees f (k ∷ ks) all =
    let first = All-head (λ k. IsTree (f k)) k ks all in
    let rest = all-only_trees f ks (All-tail (λ k. IsTree (f k)) k ks all) in
    (ATree first.0 ∷ rest.0, first.0 ∷ rest.1, rw (first.1, rest.2) refl, rw rest.3 refl, ap suc rest.4)

pub made-some : (f : Meanings) (op : Op) (ks : List ℕ) → length ks ≡ kids_of op → All (λ k. IsTree (f k)) ks → IsSome (option_and_then (made op) (meanings f ks))
made-some f op ks count all =
    let h = all-only_trees f ks all in
    rw (h.2, h.3, over_kids-there op h.1 (sym h.4 ∙ count)) refl

pub some-made : (f : Meanings) (op : Op) (ks : List ℕ) → IsSome (option_and_then (made op) (meanings f ks)) → All (λ k. IsTree (f k)) ks
some-made f op ks some =
    let s = is_some-value (option_and_then (made op) (meanings f ks)) some in
    let m = one-some (made op) (meanings f ks) s.0 s.1 in
    let t = one-some (over_kids op) (only_trees m.first) s.0 m.whole in
    only_trees-all f ks m.first t.first m.first_is t.first_is

-- what is made of things, made of things of the right kinds
pub name-context : (o : Option Thing) → IsSome (option_and_then with_a_name o) → IsContext o
name-context (Some (AContext G)) some = (G, refl)
name-context _ some = cc

pub context-name : (o : Option Thing) → IsContext o → IsSome (option_and_then with_a_name o)
context-name o is = rw is.1 refl

pub variable-context : (o p : Option Thing) → IsSome (both with_variable o p) → IsContext o
variable-context (Some (AContext G)) p some = (G, refl)
variable-context (Some (ATree t)) (Some y) some = cc
variable-context (Some (ASubst d)) (Some y) some = cc
variable-context (Some (ATree t)) None some = cc
variable-context (Some (ASubst d)) None some = cc
variable-context None p some = cc

pub face-context : (o p : Option Thing) → IsSome (both with_a_face o p) → IsContext o
face-context (Some (AContext G)) p some = (G, refl)
face-context (Some (ATree t)) (Some y) some = cc
face-context (Some (ASubst d)) (Some y) some = cc
face-context (Some (ATree t)) None some = cc
face-context (Some (ASubst d)) None some = cc
face-context None p some = cc

pub push-subst : (o p : Option Thing) → IsSome (both pushed_on o p) → IsSubst o
push-subst (Some (ASubst d)) p some = (d, refl)
push-subst (Some (ATree t)) (Some y) some = cc
push-subst (Some (AContext G)) (Some y) some = cc
push-subst (Some (ATree t)) None some = cc
push-subst (Some (AContext G)) None some = cc
push-subst None p some = cc

pub instance-tree : (o p : Option Thing) → IsSome (both instance_of o p) → IsTree o
instance-tree (Some (ATree t)) p some = (t, refl)
instance-tree (Some (ASubst d)) (Some y) some = cc
instance-tree (Some (AContext G)) (Some y) some = cc
instance-tree (Some (ASubst d)) None some = cc
instance-tree (Some (AContext G)) None some = cc
instance-tree None p some = cc

-- a test that is false decides what does not hold
pub decides-no : (b : Bool) (P : Type 0) → b ≡ false → (P → IsTrue b) → (IsTrue b ↔ P)
decides-no true P off back = cc
decides-no false P off back = (λ h. cc, back)
