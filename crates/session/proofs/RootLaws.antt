-- Claims that are compared one after another.
use Rattle.std.proofs.Common.{◌≡◌, ◌≢◌, ◌<◌, ◌≤◌, ◌+◌, ℕ, zero, suc, List, [], ◌∷◌, ◌++◌, map, length, take, min, slice_index_or, slice_get, refl, sym, ◌∙◌, ap, subst, arith, Option, Some, None, IsSome, IfOk, Result, inl, inr}
use Rattle.std.proofs.lemmas.Bool.{cases_lt}
use Rattle.std.proofs.lemmas.List.{length-map, take-map}
use Rattle.std.proofs.lemmas.Option.{slice_get-get_or, slice_get-map, slice_get_past}
use Rattle.std.proofs.lemmas.Result.{IfOk-weaker}
use Rattle.std.specs.List.{All}
use Rattle.std.specs.Option.{option_map}
use Rattle.trees.specs.Judgements.{Judgement}
use Rattle.trees.specs.declared.claim.Claim.{Claim}
use Rattle.trees.specs.Claimed.{claimed}
use Rattle.trees.specs.Things.{Meanings, Kept}
use Rattle.replay.proofs.FiledLaws.{claimed-kept}
use Rattle.session.specs.Modules.{Compares, DifferAt}

-- these claims are these judgements
abbrev pub Claim_all : Meanings → List Claim → List Judgement → Type 0
Claim_all f cs Js = map (claimed f) cs ≡ map Some Js

pub claims_long : (f : Meanings) (cs : List Claim) (Js : List Judgement) → Claim_all f cs Js → length cs ≡ length Js
claims_long f cs Js e = sym (length-map cs (claimed f)) ∙ ap length e ∙ length-map Js Some

-- the claim at a place
pub claim_at : (f : Meanings) (cs : List Claim) (Js : List Judgement) (i : ℕ) (d : Claim) → Claim_all f cs Js → i < length cs → claimed f (slice_index_or cs i d) ≡ slice_get Js i
claim_at f [] Js i d e l = absurd (omega arith)
claim_at f (c ∷ cs) [] i d e l = absurd (let n = ap length e in omega arith)
claim_at f (c ∷ cs) (J ∷ Js) zero d e l = let h : claimed f c ≡ Some J = cc in h
claim_at f (c ∷ cs) (J ∷ Js) (suc i) d e l = let h : map (claimed f) cs ≡ map Some Js = cc in claim_at f cs Js i d h (omega arith)

pub is_there : (Js : List Judgement) (i : ℕ) {x : Option Judgement} → i < length Js → x ≡ slice_get Js i → IsSome x
is_there [] i l e = absurd (omega arith)
is_there (J ∷ Js) zero l e = subst IsSome (sym e) refl
is_there (J ∷ Js) (suc i) l e = is_there Js i (omega arith) e

pub take_same : {A : Type 0} (xs ys : List A) (i : ℕ) → i < length xs → i < length ys → take i xs ≡ take i ys → slice_get xs i ≡ slice_get ys i → take (i + 1) xs ≡ take (i + 1) ys
take_same [] ys i l m e h = absurd (omega arith)
take_same (x ∷ xs) [] i l m e h = absurd (omega arith)
take_same (x ∷ xs) (y ∷ ys) zero l m e h = let s : x ≡ y = cc in ap (λ v. v ∷ []) s
take_same (x ∷ xs) (y ∷ ys) (suc i) l m e h =
    let count : suc i + 1 ≡ suc (i + 1) = omega arith in
    let first : x ≡ y = cc in
    let rest : take i xs ≡ take i ys = cc in
    rw count (ap (λ v. v ∷ take (i + 1) xs) first ∙ ap (λ vs. y ∷ vs) (take_same xs ys i (omega arith) (omega arith) rest h))

take_long : {A : Type 0} (xs : List A) (n : ℕ) → length xs ≤ n → take n xs ≡ xs
take_long [] zero l = refl
take_long [] (suc n) l = refl
take_long (x ∷ xs) zero l = absurd (omega arith)
take_long (x ∷ xs) (suc n) l = ap (λ ys. x ∷ ys) (take_long xs n (omega arith))

pub all_same : {A : Type 0} (xs ys : List A) (n : ℕ) → length xs ≤ n → length ys ≤ n → take n xs ≡ take n ys → xs ≡ ys
all_same xs ys n l m e = sym (take_long xs n l) ∙ e ∙ take_long ys n m

-- where one list has ended and the other has not
get_within : {A : Type 0} (xs : List A) (n : ℕ) → n < length xs → slice_get xs n ≡ None → ⊥
get_within [] n l e = omega arith
get_within (x ∷ xs) zero l e = cc
get_within (x ∷ xs) (suc n) l e = get_within xs n (omega arith) e

pub ends_at : {A : Type 0} (xs ys : List A) (n : ℕ) → n ≡ min (length xs) (length ys) → length xs ≢ length ys → take n xs ≡ take n ys → DifferAt xs ys n
ends_at xs ys n is other e = record {
  same_before = e;
  differ = λ same. elim (cases_lt (length xs) (length ys)) [
    | inl less ↦ get_within ys n (omega arith) (sym same ∙ slice_get_past xs n (omega arith))
    | inr more ↦ get_within xs n (let d : length ys < length xs = omega arith in omega arith) (same ∙ slice_get_past ys n (omega arith))
  ];
}

-- claims go on to be the judgements that they were
pub kept_all : (f g : Meanings) → Kept f g → (cs : List Claim) (Js : List Judgement) → Claim_all f cs Js → Claim_all g cs Js
kept_all f g kept [] Js e = e
kept_all f g kept (c ∷ cs) [] e = absurd (let n = ap length e in omega arith)
kept_all f g kept (c ∷ cs) (J ∷ Js) e =
    let first : claimed f c ≡ Some J = cc in
    let rest : map (claimed f) cs ≡ map Some Js = cc in
    ap (λ x. x ∷ map (claimed g) cs) (claimed-kept f g kept c J first) ∙ ap (λ xs. Some J ∷ xs) (kept_all f g kept cs Js rest)

-- each of these claims is a judgement
pub all_judged : (f : Meanings) (cs : List Claim) (Js : List Judgement) → Claim_all f cs Js → All (λ c. IsSome (claimed f c)) cs
all_judged f cs Js all i d l = is_there Js i (let long = claims_long f cs Js all in omega arith) (claim_at f cs Js i d all l)

some_same : {A : Type 0} (xs ys : List A) → map Some xs ≡ map Some ys → xs ≡ ys
some_same [] [] e = refl
some_same [] (y ∷ ys) e = cc
some_same (x ∷ xs) [] e = cc
some_same (x ∷ xs) (y ∷ ys) e =
    let first : x ≡ y = cc in
    let rest : map Some xs ≡ map Some ys = cc in
    let same : xs ≡ ys = some_same xs ys rest in cc

compares_some : {A : Type 0} (xs ys : List A) (k : Option ℕ) → Compares (map Some xs) (map Some ys) k → Compares xs ys k
compares_some xs ys None same = some_same xs ys same
compares_some {A} xs ys (Some k) d = record {
  same_before = some_same (take k xs) (take k ys) (sym (take-map (λ (x : A). Some x) k xs) ∙ d.same_before ∙ take-map (λ (x : A). Some x) k ys);
  differ = λ same. d.differ (slice_get-map (λ (x : A). Some x) xs k ∙ ap (option_map (λ (x : A). Some x)) same ∙ sym (slice_get-map (λ (x : A). Some x) ys k));
}

-- claims compare as the judgements that they are
pub compares_claims : {E : Type 0} (f : Meanings) (roots claims : List Claim) (Ks Js : List Judgement) (r : Result (Option ℕ) E) → Claim_all f roots Ks → Claim_all f claims Js
    → IfOk r (Compares (map (claimed f) roots) (map (claimed f) claims)) → IfOk r (Compares Ks Js)
compares_claims f roots claims Ks Js r left right is =
    let known : IfOk r (Compares (map Some Ks) (map (claimed f) claims)) = subst (λ xs. IfOk r (Compares xs (map (claimed f) claims))) left is in
    let both : IfOk r (Compares (map Some Ks) (map Some Js)) = subst (λ ys. IfOk r (Compares (map Some Ks) ys)) right known in
    IfOk-weaker r (Compares (map Some Ks) (map Some Js)) (Compares Ks Js) (compares_some Ks Js) both

-- the claims at a place, compared

judged_at : (f : Meanings) (cs : List Claim) (i : ℕ) (d : Claim) → i < length cs → slice_get (map (claimed f) cs) i ≡ Some (claimed f (slice_index_or cs i d))
judged_at f cs i d l = slice_get-map (claimed f) cs i ∙ ap (option_map (claimed f)) (slice_get-get_or cs i d l)

pub same_on : (f g : Meanings) (cs ds : List Claim) (i : ℕ) (d : Claim) → f ≡ g → i < length cs → i < length ds → take i (map (claimed g) cs) ≡ take i (map (claimed g) ds)
    → claimed f (slice_index_or cs i d) ≡ claimed f (slice_index_or ds i d) → take (i + 1) (map (claimed g) cs) ≡ take (i + 1) (map (claimed g) ds)
same_on f g cs ds i d kept l m before same =
    let now : claimed g (slice_index_or cs i d) ≡ claimed g (slice_index_or ds i d) = subst (λ h. claimed h (slice_index_or cs i d) ≡ claimed h (slice_index_or ds i d)) kept same in
    take_same (map (claimed g) cs) (map (claimed g) ds) i (omega (arith, length-map cs (claimed g))) (omega (arith, length-map ds (claimed g))) before
    (judged_at g cs i d l ∙ ap Some now ∙ sym (judged_at g ds i d m))

pub differ_at : (f g : Meanings) (cs ds : List Claim) (i : ℕ) (d : Claim) → f ≡ g → i < length cs → i < length ds → take i (map (claimed g) cs) ≡ take i (map (claimed g) ds)
    → claimed f (slice_index_or cs i d) ≢ claimed f (slice_index_or ds i d) → DifferAt (map (claimed g) cs) (map (claimed g) ds) i
differ_at f g cs ds i d kept l m before other = record {
  same_before = before;
  differ = λ same.
      let read : Some (claimed g (slice_index_or cs i d)) ≡ Some (claimed g (slice_index_or ds i d)) = sym (judged_at g cs i d l) ∙ same ∙ judged_at g ds i d m in
      let now : claimed g (slice_index_or cs i d) ≡ claimed g (slice_index_or ds i d) = cc in
      other (subst (λ h. claimed h (slice_index_or cs i d) ≡ claimed h (slice_index_or ds i d)) (sym kept) now);
}

-- one root more
one_more : (Js : List Judgement) (i : ℕ) → i < length Js → map Some (take i Js) ++ slice_get Js i ∷ [] ≡ map Some (take (i + 1) Js)
one_more [] i l = absurd (omega arith)
one_more (J ∷ Js) zero l = refl
one_more (J ∷ Js) (suc i) l =
    let n : suc i + 1 ≡ suc (i + 1) = omega arith in
    ap (λ xs. Some J ∷ xs) (one_more Js i (omega arith)) ∙ ap (λ k. map Some (take k (J ∷ Js))) (sym n)

claims_and : (f : Meanings) (cs : List Claim) (c : Claim) → map (claimed f) (cs ++ c ∷ []) ≡ map (claimed f) cs ++ claimed f c ∷ []
claims_and f [] c = refl
claims_and f (d ∷ cs) c = ap (λ xs. claimed f d ∷ xs) (claims_and f cs c)

pub push_claim : (f : Meanings) (cs new : List Claim) (c : Claim) (Js : List Judgement) (i : ℕ) → i < length Js → new ≡ cs ++ c ∷ [] → map (claimed f) cs ≡ map Some (take i Js) → claimed f c ≡ slice_get Js i → map (claimed f) new ≡ map Some (take (i + 1) Js)
push_claim f cs new c Js i l is before here =
    ap (map (claimed f)) is ∙ (claims_and f cs c ∙ (ap (λ xs. xs ++ claimed f c ∷ []) before ∙ (ap (λ x. map Some (take i Js) ++ x ∷ []) here ∙ one_more Js i l)))
