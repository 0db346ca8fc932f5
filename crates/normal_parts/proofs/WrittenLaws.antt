-- Faces that are written again in a system.
use Rattle.std.proofs.Common.{◌≡◌, ℕ, zero, suc, Bool, true, false, List, [], ◌∷◌, ◌++◌, ◌+◌, ◌<◌, ◌≤◌, length, take, get_or, map, Vec, Global, refl, sym, ◌∙◌, ap, ap₂, subst, arith, Option, Some, None}
use Rattle.std.proofs.lemmas.List.{take_more, take_all, length-map}
use Rattle.trees.specs.Trees.{Tree}
use Rattle.normal_formulas.specs.declared.atoms.Atom.{Atom}
use Rattle.normal_formulas.specs.Atoms.{conjunction, cover, lists_of}
use Rattle.normal_formulas.specs.Reads.{Reads}
use Rattle.normal_formulas.proofs.OrderLaws.{length-lists}
use Rattle.normal_parts.proofs.PartLaws.{at-list}
use Rattle.normal_parts.specs.Parts.{all_written, IsConjunctionOf, IsCoverOf}

none-some : {X : Type 0} {x : X} → None ≡ Some x → ⊥
none-some e = cc

some-same : {X : Type 0} {x y : X} → Some x ≡ Some y → x ≡ y
some-same e = cc

pub conjunction-found : (raised : Bool) (t u : Tree) (atoms found : List Atom) → Reads conjunction t (Some atoms) → Reads conjunction u (Some found) → found ≡ all_written raised atoms → IsConjunctionOf raised t u (Some found)
conjunction-found raised t u atoms found r s same =
    (atoms, r.sound atoms refl, s.sound found refl ∙ ap conjunction same, same)

pub conjunction-other : (raised : Bool) (t u : Tree) (atoms found : List Atom) → Reads conjunction t (Some atoms) → Reads conjunction u (Some found) → (found ≡ all_written raised atoms → ⊥) → IsConjunctionOf raised t u None
conjunction-other raised t u atoms found r s apart = λ c first second.
    let same : atoms ≡ c = some-same (r.complete c first) in
    apart (some-same (s.complete (all_written raised c) second) ∙ ap (all_written raised) (sym same))

pub conjunction-first : (raised : Bool) (t u : Tree) → Reads conjunction t None → IsConjunctionOf raised t u None
conjunction-first raised t u r = λ c first second. none-some (r.complete c first)

pub conjunction-second : (raised : Bool) (t u : Tree) → Reads conjunction u None → IsConjunctionOf raised t u None
conjunction-second raised t u s = λ c first second. none-some (s.complete (all_written raised c) second)

pub cover-found : (raised : Bool) (t u : Tree) (cs ds : List (List Atom)) → Reads cover t (Some cs) → Reads cover u (Some ds) → ds ≡ map (all_written raised) cs → IsCoverOf raised t u
cover-found raised t u cs ds r s same = (cs, r.sound cs refl, s.sound ds refl ∙ ap cover same)

pub cover-same : (raised : Bool) (t u : Tree) (cs ds : List (List Atom)) → Reads cover t (Some cs) → Reads cover u (Some ds) → IsCoverOf raised t u → ds ≡ map (all_written raised) cs
cover-same raised t u cs ds r s h =
    let same : cs ≡ h.0 = some-same (r.complete h.0 h.1) in
    some-same (s.complete (map (all_written raised) h.0) h.2) ∙ ap (map (all_written raised)) (sym same)

pub cover-first : (raised : Bool) (t u : Tree) → Reads cover t None → IsCoverOf raised t u → ⊥
cover-first raised t u r h = none-some (r.complete h.0 h.1)

pub cover-second : (raised : Bool) (t u : Tree) → Reads cover u None → IsCoverOf raised t u → ⊥
cover-second raised t u s h = none-some (s.complete (map (all_written raised) h.0) h.2)

-- lists that are compared one by one

get-map : {X Y : Type 0} (g : X → Y) (xs : List X) (i : ℕ) (d : X) → get_or (map g xs) i (g d) ≡ g (get_or xs i d)
get-map g [] i d = refl
get-map g (x ∷ xs) zero d = refl
get-map g (x ∷ xs) (suc i) d = get-map g xs i d

pub same-next : {X Y : Type 0} (g : X → Y) (xs : List X) (ys : List Y) (i : ℕ) (x : X) (y : Y) → i < length xs → i < length ys → x ≡ get_or xs i x → y ≡ get_or ys i y → y ≡ g x → take i ys ≡ take i (map g xs) → take (i + 1) ys ≡ take (i + 1) (map g xs)
same-next g xs ys i x y lt less first second same before =
    let few : i < length (map g xs) = let l = length-map xs g in omega arith in
    take_more ys i y less
    ∙ ap₂ (λ us u. us ++ u ∷ []) before (sym second ∙ same ∙ ap g first ∙ sym (get-map g xs i x))
    ∙ sym (take_more (map g xs) i (g x) few)

pub same-apart : {X Y : Type 0} (g : X → Y) (xs : List X) (ys : List Y) (i : ℕ) (x : X) (y : Y) → i < length xs → x ≡ get_or xs i x → y ≡ get_or ys i y → (y ≡ g x → ⊥) → ys ≡ map g xs → ⊥
same-apart g xs ys i x y lt first second apart e =
    apart (second ∙ default ys i y (g x) (let l = ap length e in let m = length-map xs g in omega arith) ∙ ap (λ us. get_or us i (g x)) e ∙ get-map g xs i x ∙ ap g (sym first))
  where
    default : {Y : Type 0} (us : List Y) (j : ℕ) (a b : Y) → j < length us → get_or us j a ≡ get_or us j b
    default [] j a b lt = absurd (omega arith)
    default (u ∷ us) zero a b lt = refl
    default (u ∷ us) (suc j) a b lt = default us j a b (omega arith)

pub same-end : {X Y : Type 0} (g : X → Y) (xs : List X) (ys : List Y) (i : ℕ) → length xs ≡ length ys → length xs ≤ i → take i ys ≡ take i (map g xs) → ys ≡ map g xs
same-end g xs ys i count past all =
    sym (take_all i ys (omega arith)) ∙ all ∙ take_all i (map g xs) (let l = length-map xs g in omega arith)

pub same-length : {X Y : Type 0} (g : X → Y) (xs : List X) (ys : List Y) → (length xs ≡ length ys → ⊥) → ys ≡ map g xs → ⊥
same-length g xs ys apart e = apart (sym (ap length e ∙ length-map xs g))

pub at-lists : (vs : List (Vec Atom Global)) (i : ℕ) (v : Vec Atom Global) → i < length vs → v ≡ get_or vs i v → v.items ≡ get_or (lists_of vs) i v.items
at-lists vs i v lt is = sym (at-list vs i v v.items lt is)

-- the same, whatever stands for what is not there
default : {Y : Type 0} (us : List Y) (j : ℕ) (a b : Y) → j < length us → get_or us j a ≡ get_or us j b
default [] j a b lt = absurd (omega arith)
default (u ∷ us) zero a b lt = refl
default (u ∷ us) (suc j) a b lt = default us j a b (omega arith)

pub same-on : {X Y : Type 0} (g : X → Y) (xs : List X) (ys : List Y) (i : ℕ) (d : X) (e : Y) → i < length xs → i < length ys → get_or ys i e ≡ g (get_or xs i d) → take i ys ≡ take i (map g xs) → take (i + 1) ys ≡ take (i + 1) (map g xs)
same-on g xs ys i d e lt less same before =
    same-next g xs ys i (get_or xs i d) (get_or ys i e) lt less (default xs i d (get_or xs i d) lt) (default ys i e (get_or ys i e) less) same before

pub list-on : (g : List Atom → List Atom) (xs ys : List (Vec Atom Global)) (i : ℕ) (x y : Vec Atom Global) → i < length xs → i < length ys → x ≡ get_or xs i x → y ≡ get_or ys i y → y.items ≡ g x.items → take i (lists_of ys) ≡ take i (map g (lists_of xs)) → take (i + 1) (lists_of ys) ≡ take (i + 1) (map g (lists_of xs))
list-on g xs ys i x y lt less first second same before =
    same-next g (lists_of xs) (lists_of ys) i x.items y.items (let l = length-lists xs in omega arith) (let l = length-lists ys in omega arith) (at-lists xs i x lt first) (at-lists ys i y less second) same before

pub list-apart : (g : List Atom → List Atom) (xs ys : List (Vec Atom Global)) (i : ℕ) (x y : Vec Atom Global) → i < length xs → i < length ys → x ≡ get_or xs i x → y ≡ get_or ys i y → (y.items ≡ g x.items → ⊥) → lists_of ys ≡ map g (lists_of xs) → ⊥
list-apart g xs ys i x y lt less first second apart =
    same-apart g (lists_of xs) (lists_of ys) i x.items y.items (let l = length-lists xs in omega arith) (at-lists xs i x lt first) (at-lists ys i y less second) apart
