-- Branches that are added to others.
use Rattle.std.proofs.Common.{◌≡◌, ◌<◌, ◌≤◌, ◌+◌, ◌*◌, ◌^◌, ℕ, suc, List, [], ◌∷◌, ◌++◌, ◌⊎◌, inl, inr, IsTrue, false, Contains, length, length-append, get_or, refl, sym, ◌∙◌, ap, subst, add-zero, append_assoc, arith}
use Rattle.std.specs.List.{All, Any}
use Rattle.std.proofs.Math.Nat.{pow-le-pow_right, pow-suc, one-le-pow}
use Rattle.std.proofs.lemmas.List.{append-nil, get_or_append_left, get_or-append-add, get_or_push}
use Rattle.std.proofs.lemmas.Bool.{cases_lt}
use Rattle.std.proofs.lemmas.List.Elements.{All-nil, All-cons, All-append, All-same, All-contains, Contains-get_or}
use Rattle.std.proofs.lemmas.List.Sums.{sum_by-append, sum_by-cons}
use Rattle.circuits.specs.declared.gates.Gate.{Gate}
use Rattle.circuits.specs.declared.branch.Branch.{Branch}
use Rattle.circuits.specs.Circuits.{Labels, Obeys, wire_truth, IsIn}
use Rattle.circuits.specs.Branches.{IsWithin, Fits, Adds, IsTakenOut, unknown, weight, work}

pub any_left : {X : Type 0} (P : X → Type 0) (xs ys : List X) → Any P xs → Any P (xs ++ ys)
any_left P xs ys a =
    let k = a.0 in let x = a.1 in let lt = a.2 in
    (k, x, omega (arith, length-append xs ys), get_or_append_left xs ys x k lt ∙ a.3, a.4)

pub any_right : {X : Type 0} (P : X → Type 0) (xs ys : List X) → Any P ys → Any P (xs ++ ys)
any_right P xs ys a =
    let k = a.0 in let x = a.1 in let lt = a.2 in
    (length xs + k, x, omega (arith, length-append xs ys), get_or-append-add xs ys k x ∙ a.3, a.4)

-- at the last place stands the last element
pub any_cases : {X : Type 0} (P : X → Type 0) (xs : List X) (y : X) → Any P (xs ++ y ∷ []) → Any P xs ⊎ P y
any_cases {X} P xs y a =
    let k = a.0 in let x = a.1 in let lt = a.2 in
    elim (cases_lt k (length xs)) [
      | inl l ↦ inl (k, x, l, sym (get_or_append_left xs (y ∷ []) x k l) ∙ a.3, a.4)
      | inr l ↦
          let at : length xs ≡ k = omega (arith, length-append xs (y ∷ [])) in
          inr (subst P (sym a.3 ∙ get_or_push xs y x k at) a.4)
    ]

pub power_below : (m n : ℕ) → m < n → 3 * 3 ^ m ≤ 3 ^ n
power_below m n lt =
    let le : suc m ≤ n = omega arith in
    let three : 0 < 3 = omega arith in
    let p = pow-le-pow_right {n = 3} three {i = suc m} {j = n} le in
    omega (arith, pow-suc 3 m)

pub power_pos : (n : ℕ) → 0 < 3 ^ n
power_pos n = let p = one-le-pow n 3 (omega arith) in omega arith

pub work_one : (b : Branch) → work (b ∷ []) ≡ 3 ^ weight b
work_one b = sum_by-cons (λ x. 3 ^ weight x) b [] ∙ add-zero (3 ^ weight b)

pub work_both : (xs ys : List Branch) → work (xs ++ ys) ≡ work xs + work ys
work_both xs ys = sum_by-append (λ b. 3 ^ weight b) xs ys

pub adds_none : (gates : List Gate) (Q : Labels → Type 0) (room : ℕ) (old : List Branch) → ((w : Labels) → Obeys gates w → Q w → ⊥) → Adds gates Q room old old
adds_none gates Q room old never = record {
  more = [];
  grown = sym (append-nil old);
  within = All-nil (IsWithin gates);
  covers = λ w o q. absurd (never w o q);
  less = omega arith;
}

pub adds_one : (gates : List Gate) (Q : Labels → Type 0) (n : ℕ) (b : Branch) (old new : List Branch) → new ≡ old ++ b ∷ [] → IsWithin gates b → ((w : Labels) → Obeys gates w → Q w → Fits w b) → weight b < n → Adds gates Q (3 ^ n) old new
adds_one gates Q n b old new grown within fits lt = record {
  more = b ∷ [];
  grown = grown;
  within = All-cons (IsWithin gates) b [] within (All-nil (IsWithin gates));
  covers = λ w o q. (0, b, omega arith, refl, fits w o q);
  less = let p = power_below (weight b) n lt in let e = work_one b in omega arith;
}

pub adds_both : (gates : List Gate) (Q R S : Labels → Type 0) (r s : ℕ) (old mid new : List Branch) → Adds gates Q r old mid → Adds gates R s mid new → ((w : Labels) → Obeys gates w → S w → Q w ⊎ R w) → Adds gates S (r + s) old new
adds_both gates Q R S r s old mid new first second cases = record {
  more = first.more ++ second.more;
  grown = second.grown ∙ ap (λ xs. xs ++ second.more) first.grown ∙ append_assoc old first.more second.more;
  within = All-append (IsWithin gates) first.more second.more first.within second.within;
  covers = λ w o q.
      elim (cases w o q) [
        | inl a ↦ any_left (Fits w) first.more second.more (first.covers w o a)
        | inr a ↦ any_right (Fits w) first.more second.more (second.covers w o a)
      ];
  less = let a = first.less in let b = second.less in let e = work_both first.more second.more in omega arith;
}

pub adds_wider : (gates : List Gate) (Q R : Labels → Type 0) (r s : ℕ) (old new : List Branch) → Adds gates Q r old new → r ≤ s → ((w : Labels) → Obeys gates w → R w → Q w) → Adds gates R s old new
adds_wider gates Q R r s old new a le to = record {
  more = a.more;
  grown = a.grown;
  within = a.within;
  covers = λ w o q. a.covers w o (to w o q);
  less = let l = a.less in omega arith;
}

pub power_le : (m n : ℕ) → m ≤ n → 3 ^ m ≤ 3 ^ n
power_le m n le =
    let three : 0 < 3 = omega arith in
    pow-le-pow_right {n = 3} three {i = m} {j = n} le

-- a branch that says the same
pub record IsSame (b c : Branch) : Type 0 where
  pub known : c.known.items ≡ b.known.items
  pub wanted : c.wanted.items ≡ b.wanted.items
  pub unsettled : c.unsettled.items ≡ b.unsettled.items

pub same_within : (gates : List Gate) (b c : Branch) → IsSame b c → IsWithin gates b → IsWithin gates c
same_within gates b c s within = record {
  known = ap length s.known ∙ within.known;
  wanted = All-same (IsIn gates) c.wanted.items b.wanted.items s.wanted within.wanted;
  unsettled = All-same (λ g. g < length gates) c.unsettled.items b.unsettled.items s.unsettled within.unsettled;
}

pub same_fits : (w : Labels) (b c : Branch) → IsSame b c → Fits w b → Fits w c
same_fits w b c s f = record {
  known = λ k t h. f.known k t (rw s.known at h);
  wanted = All-same (λ x. IsTrue (wire_truth w x)) c.wanted.items b.wanted.items s.wanted f.wanted;
  unsettled = All-same (λ g. w g ≡ false) c.unsettled.items b.unsettled.items s.unsettled f.unsettled;
}

pub same_weight : (b c : Branch) → IsSame b c → weight c ≡ weight b
same_weight b c s =
    let k = ap unknown s.known in let w = ap length s.wanted in let u = ap length s.unsettled in omega arith

from_contained : (P : ℕ → Type 0) (xs ys : List ℕ) → ((h : ℕ) → Contains xs h → Contains ys h) → All P ys → All P xs
from_contained P xs ys to all =
    λ k d lt. All-contains P ys (get_or xs k d) all (to (get_or xs k d) (Contains-get_or xs k d lt))

pub taken_within : (gates : List Gate) (old new : Branch) (g : ℕ) → IsTakenOut old new g → IsWithin gates old → IsWithin gates new
taken_within gates old new g t within = record {
  known = ap (λ v. length v.items) t.known ∙ within.known;
  wanted = All-same (IsIn gates) new.wanted.items old.wanted.items (ap (λ v. v.items) t.wanted) within.wanted;
  unsettled = from_contained (λ h. h < length gates) new.unsettled.items old.unsettled.items t.rest within.unsettled;
}

pub taken_fits : (w : Labels) (old new : Branch) (g : ℕ) → IsTakenOut old new g → Fits w old → Fits w new × (w g ≡ false)
taken_fits w old new g t f = (
  record {
    known = λ k s h. f.known k s (rw t.known at h);
    wanted = All-same (λ x. IsTrue (wire_truth w x)) new.wanted.items old.wanted.items (ap (λ v. v.items) t.wanted) f.wanted;
    unsettled = from_contained (λ h. w h ≡ false) new.unsettled.items old.unsettled.items t.rest f.unsettled;
  },
  All-contains (λ h. w h ≡ false) old.unsettled.items g f.unsettled t.gate,
)

pub taken_weight : (old new : Branch) (g : ℕ) → IsTakenOut old new g → weight new + 3 ≡ weight old
taken_weight old new g t =
    let k = ap (λ v. unknown v.items) t.known in let w = ap (λ v. length v.items) t.wanted in let l = t.less in omega arith

-- the newest branch goes, and others stand for it
pub work_less : (gates : List Gate) (Q : Labels → Type 0) (b : Branch) (old rest new : List Branch) → old ≡ rest ++ b ∷ [] → Adds gates Q (2 * 3 ^ weight b) rest new → work new < work old
work_less gates Q b old rest new is adds =
    let e = ap work is in
    let f = ap work adds.grown in
    let s = work_both rest (b ∷ []) in
    let o = work_one b in
    let m = work_both rest adds.more in
    let l = adds.less in
    let p = power_pos (weight b) in omega arith

pub next_within : (gates : List Gate) (Q : Labels → Type 0) (n : ℕ) (rest new : List Branch) → Adds gates Q n rest new → All (IsWithin gates) rest → All (IsWithin gates) new
next_within gates Q n rest new adds all =
    All-same (IsWithin gates) new (rest ++ adds.more) adds.grown (All-append (IsWithin gates) rest adds.more all adds.within)

pub next_covers : (gates : List Gate) (Q : Labels → Type 0) (n : ℕ) (b : Branch) (old rest new : List Branch) (w : Labels) → old ≡ rest ++ b ∷ [] → Adds gates Q n rest new → Obeys gates w → (Fits w b → Q w) → Any (Fits w) old → Any (Fits w) new
next_covers gates Q n b old rest new w is adds o to a =
    let P : List Branch → Type 0 = λ bs. Any (Fits w) bs in
    let here : Any (Fits w) (rest ++ adds.more) =
    elim (any_cases (Fits w) rest b (subst P is a)) [
      | inl r ↦ any_left (Fits w) rest adds.more r
      | inr f ↦ any_right (Fits w) rest adds.more (adds.covers w o (to f))
    ]
    in
    subst P (sym adds.grown) here
