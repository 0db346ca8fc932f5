-- Functions against types, one binder and one variable after another.
use Rattle.std.proofs.Common.{◌≡◌, ◌+◌, ◌-◌, ◌<◌, ◌&&◌, ◌++◌, ℕ, suc, Bool, true, false, List, [], ◌∷◌, length, map, Option, None, Some, Bor, refl, sym, ap, ap₂, subst, ◌∙◌, arith}
use Rattle.std.specs.Prelude.{if◌then◌else◌}
use Rattle.std.specs.Option.{option_and_then}
use Rattle.codes.specs.declared.code.Code.{Code}
use Rattle.codes.specs.declared.code.Binder.{Binder as BinderOf}
use Rattle.codes.proofs.Logs.{append_empty}
use Rattle.trees.specs.declared.op.Op.TheVariants as op
use Rattle.trees.specs.Trees.{Tree, Var, Make, NoTrees, More}
use Rattle.trees.specs.Judgements.{Context, Judgement}
use Rattle.trees.specs.Language.{Ty, Tm}
use Rattle.translation.specs.Terms.{pi, sig, pathp, lam, lifted}
use Rattle.translation.specs.Translated.{Stated}
use Rattle.translation.specs.Forms.{under}
use Rattle.book.specs.Contents.{Contents}
use Rattle.direct.specs.Known.{Known, Variable, value_at, with_variables}
use Rattle.direct.specs.Literal.{Family, same_tree, pi_of, past}
use Rattle.direct.specs.Typings.{Typing, BinderTyping, holds, where_true, lambda_check}
use Rattle.direct.proofs.TreeLaws.{same_means_one, one_means_same}
use Rattle.typed_nodes.specs.declared.types.TypeAt.{TypeAt}
use Rattle.typed_nodes.specs.Typed.{IsTypeAt}
use Rattle.literal_types.specs.declared.forms.Literal.{Literal}
use Rattle.literal_types.specs.declared.forms.Literal.TheVariants as literal
use Rattle.literal_types.specs.Literal.{IsLiteral}
use Rattle.typed_nodes.specs.declared.types.Family.{Family as FamilyAt}
use Rattle.typing_tasks.specs.declared.tasks.Sort.TheVariants.{Large}
use Rattle.typing_tasks.specs.declared.tasks.Task.TheVariants.{Check, Form, Binding as BindingOf}
use Rattle.typing_tasks.specs.declared.tasks.Binding.TheVariants.{CloseFunction, Lambda, Take}
use Rattle.typing_tasks.specs.States.{State, place, finding, after, stated_at, with_found, with_stated, under as entered}
use Rattle.typing_tasks.specs.Outcomes.{typed, binder_typed, given, binders_of, function, form, check}
use Rattle.typing_tasks.specs.Tasks.{Run, Then}
use Rattle.typing_steps.specs.declared.state.CheckState.{CheckState}
use Rattle.typing_tasks.specs.declared.tasks.Tasks.{Tasks}
use Rattle.typing_tasks.specs.declared.tasks.Next.{Next}
use Rattle.typing_tasks.specs.declared.tasks.Next.TheVariants.{Moved}
use Rattle.typing_tasks.specs.Weights.{sum, weight_of, binder_weight}
use Rattle.typing_steps.specs.Steps.{IsState, Leaves, Plans, Planned, taken}
use Rattle.typing_steps.proofs.BindingLaws.{after_first, none_left}
use Rattle.typing_tasks.proofs.OutcomeLaws.{then_where}
use Rattle.typing_steps.proofs.Planning.{leaves, plans, run_one}

-- what a type of functions has left

pi_is : (W : Tree) (F : Family) → pi_of W ≡ Some F → W ≡ pi F.domain F.codomain
pi_is (Make op.Pi (More A (More B NoTrees))) F e = let same : record { domain = A; codomain = B } ≡ F = cc in ap (λ (P : Family). pi P.domain P.codomain) same
pi_is (Make op.Pi (More A (More B (More C rest)))) F e = absurd (cc e)
pi_is (Make op.Pi (More A NoTrees)) F e = absurd (cc e)
pi_is (Make op.Pi NoTrees) F e = absurd (cc e)
pi_is (Make op.I0 xs) F e = absurd (cc e)
pi_is (Make op.I1 xs) F e = absurd (cc e)
pi_is (Make op.Neg xs) F e = absurd (cc e)
pi_is (Make op.Min xs) F e = absurd (cc e)
pi_is (Make op.Max xs) F e = absurd (cc e)
pi_is (Make op.F0 xs) F e = absurd (cc e)
pi_is (Make op.F1 xs) F e = absurd (cc e)
pi_is (Make op.Eq0 xs) F e = absurd (cc e)
pi_is (Make op.Eq1 xs) F e = absurd (cc e)
pi_is (Make op.Meet xs) F e = absurd (cc e)
pi_is (Make op.Join xs) F e = absurd (cc e)
pi_is (Make op.All xs) F e = absurd (cc e)
pi_is (Make op.U xs) F e = absurd (cc e)
pi_is (Make op.Lam xs) F e = absurd (cc e)
pi_is (Make op.App xs) F e = absurd (cc e)
pi_is (Make op.Sig xs) F e = absurd (cc e)
pi_is (Make op.Pair xs) F e = absurd (cc e)
pi_is (Make op.Fst xs) F e = absurd (cc e)
pi_is (Make op.Snd xs) F e = absurd (cc e)
pi_is (Make op.PathP xs) F e = absurd (cc e)
pi_is (Make op.PLam xs) F e = absurd (cc e)
pi_is (Make op.PApp xs) F e = absurd (cc e)
pi_is (Make op.Nat xs) F e = absurd (cc e)
pi_is (Make op.Zero xs) F e = absurd (cc e)
pi_is (Make op.Suc xs) F e = absurd (cc e)
pi_is (Make op.NatRec xs) F e = absurd (cc e)
pi_is (Make op.Sys xs) F e = absurd (cc e)
pi_is (Make op.Empty xs) F e = absurd (cc e)
pi_is (Make op.Comp xs) F e = absurd (cc e)
pi_is (Make op.GlueType xs) F e = absurd (cc e)
pi_is (Make op.Glue xs) F e = absurd (cc e)
pi_is (Make op.Unglue xs) F e = absurd (cc e)
pi_is (Var k) F e = absurd (cc e)

same_part : (A C D V : Tree) (p : Bool) → same_tree A C ≡ p → (if p then Some D else None) ≡ Some V → (A ≡ C) × (D ≡ V)
same_part A C D V true same e = (same_means_one A C same, cc)
same_part A C D V false same e = absurd (cc e)

taken_of : (A W V : Tree) (o : Option Family) → pi_of W ≡ o → option_and_then (λ (F : Family). if same_tree A F.domain then Some F.codomain else None) o ≡ Some V → W ≡ pi A V
taken_of A W V None is e = absurd (cc e)
taken_of A W V (Some F) is e =
    let (domain, codomain) = same_part A F.domain F.codomain V (same_tree A F.domain) refl e in
    pi_is W F is ∙ ap₂ pi (sym domain) codomain

pub taken_is : (A W V : Tree) → taken A W ≡ Some V → W ≡ pi A V
taken_is A W V e = taken_of A W V (pi_of W) refl e

-- one variable, of a type of functions

pub taken_here : (A C D W : Tree) → W ≡ pi C D → A ≡ C → taken A W ≡ Some D
taken_here A C D W is same = ap (taken A) is ∙ ap (λ p. if p then Some D else None) (one_means_same A C same)

not_same : (A C D : Tree) (p : Bool) → same_tree A C ≡ p → (A ≡ C → ⊥) → (if p then Some D else None) ≡ None
not_same A C D true same other = absurd (other (same_means_one A C same))
not_same A C D false same other = refl

pub taken_other : (A C D W : Tree) → W ≡ pi C D → (A ≡ C → ⊥) → taken A W ≡ None
taken_other A C D W is other = ap (taken A) is ∙ not_same A C D (same_tree A C) refl other

no_function : (A W : Tree) (o : Option Family) → pi_of W ≡ o → ((C D : Tree) → W ≡ pi C D → ⊥)
    → option_and_then (λ (F : Family). if same_tree A F.domain then Some F.codomain else None) o ≡ None
no_function A W None is other = refl
no_function A W (Some F) is other = absurd (other F.domain F.codomain (pi_is W F is))

pub taken_nowhere : (A W : Tree) → ((C D : Tree) → W ≡ pi C D → ⊥) → taken A W ≡ None
taken_nowhere A W other = no_function A W (pi_of W) refl other

-- what is no literal type of functions is none
pub not_function : (b : Contents) (l : Literal) (H : Context) (W : Tree) → IsLiteral b l H W → ((f : FamilyAt) → l ≡ literal.Pi f → ⊥) → (C D : Tree) → W ≡ pi C D → ⊥
not_function b (literal.Pi f) H W is other C D e = other f refl
not_function b (literal.Sigma f) H W (A, B, whole, parts) other C D e = let clash : sig A B ≡ pi C D = sym whole ∙ e in cc
not_function b (literal.Path l) H W (A, u, v, whole, parts) other C D e = let clash : pathp A u v ≡ pi C D = sym whole ∙ e in cc
not_function b literal.Other H W is other C D e = is.no_pi C D e

past_same : (n : ℕ) (A C : Tree) (p : Bool) → (if p then past n (lifted A) C else None) ≡ option_and_then (past n (lifted A)) (if p then Some C else None)
past_same n A C true = refl
past_same n A C false = refl

past_of : (n : ℕ) (A : Tree) (o : Option Family)
    → option_and_then (λ (F : Family). if same_tree A F.domain then past n (lifted A) F.codomain else None) o
    ≡ option_and_then (past n (lifted A)) (option_and_then (λ (F : Family). if same_tree A F.domain then Some F.codomain else None) o)
past_of n A None = refl
past_of n A (Some F) = past_same n A F.codomain (same_tree A F.domain)

-- so many variables are taken one after another
past_taken : (n : ℕ) (A W : Tree) → past (suc n) A W ≡ option_and_then (past n (lifted A)) (taken A W)
past_taken n A W = past_of n A (pi_of W)

past_is : (n : ℕ) (A W V : Tree) → taken A W ≡ Some V → past (suc n) A W ≡ past n (lifted A) V
past_is n A W V e = past_taken n A W ∙ ap (option_and_then (past n (lifted A))) e

-- where one can't be taken, the function does not check
pub not_taken : (n k : ℕ) (A W : Tree) (bs : List BinderTyping) (t : Typing) (S : State) → k ≡ suc n → taken A W ≡ None → check (function (given k A ∷ bs) t) W S ≡ None
not_taken n k A W bs t S more e =
    let m = under lam (binders_of (given (suc n) A ∷ bs)) t.tree in
    ap (λ l. check (function (given l A ∷ bs) t) W S) more
    ∙ ap (λ o. where_true (holds o (λ V. lambda_check bs t (with_variables (suc n) A S.known) V)) (Some (finding (Tm (place S) (value_at S.known m) W) (after m S))))
    (past_taken n A W ∙ ap (option_and_then (past n (lifted A))) e)

-- a function of the last variable
close_taken : (b : Contents) (p q : Bool) → p ≡ q → (S : State) (A v V W : Tree) (js : List Judgement) (ds : List (Stated ℕ)) → W ≡ pi A V → S.found ≡ Ty (place S) A ∷ js
    → Then (Run b (BindingOf CloseFunction ∷ []))
    (where_true p (Some (finding (Tm (place (entered (Variable A) S)) v V) (with_stated ds (entered (Variable A) S)))))
    (where_true q (Some (finding (Tm (place S) (lam A v) W) (with_stated (ds ++ []) (with_found js S)))))
close_taken b true true e S A v V W js ds is found =
    run_one b _ _ (BindingOf CloseFunction) (
      S.known,
      A,
      v,
      V,
      js,
      refl,
      ap (λ fs. Tm (place (entered (Variable A) S)) v V ∷ fs) found,
      ap₂ (λ T es. Some (record { known = S.known; found = Tm (place S) (lam A v) T ∷ js; inferred = S.inferred; stated = S.stated ++ es })) is (append_empty ds),
    )
close_taken b false false e S A v V W js ds is found = refl
close_taken b true false e S A v V W js ds is found = absurd (cc e)
close_taken b false true e S A v V W js ds is found = absurd (cc e)

take_one : (b : Contents) (n : ℕ) (A V W : Tree) (bs : List BinderTyping) (t : Typing) (S : State) (js : List Judgement) → taken A W ≡ Some V → S.found ≡ Ty (place S) A ∷ js
    → Then (Run b (BindingOf CloseFunction ∷ []))
    (check (function (given n (lifted A) ∷ bs) t) V (entered (Variable A) S)) (check (function (given (suc n) A ∷ bs) t) W (with_found js S))
take_one b n A V W bs t S js e found =
    let G : Known = Variable A ∷ S.known in
    let m = under lam (binders_of (given n (lifted A) ∷ bs)) t.tree in
    let rest : Tree → Bool = λ U. lambda_check bs t (with_variables n (lifted A) G) U in
    close_taken b (holds (past n (lifted A) V) rest) (holds (past (suc n) A W) rest) (ap (λ o. holds o rest) (sym (past_is n A W V e)))
    S A (value_at G m) V W js (stated_at G m) (taken_is A W V e) found

-- binders

check_first : (b : BinderTyping) (bs : List BinderTyping) (t : Typing) (W : Tree) (S : State) → b.type.is_type S.known ≡ true
    → check (function (b ∷ bs) t) W S ≡ check (function (given b.count (value_at S.known b.type.tree) ∷ bs) t) W (after b.type.tree S)
check_first b bs t W S e =
    let A = value_at S.known b.type.tree in
    let v = value_at S.known (under lam (binders_of (b ∷ bs)) t.tree) in
    ap₂ (λ p Z. where_true (p && holds (past b.count A W) (λ V. lambda_check bs t (with_variables b.count A S.known) V)) (Some (finding (Tm (place S) v W) Z)))
    e (after_first lam b.count b.type.tree (binders_of bs) t.tree S)

check_not : (b : BinderTyping) (bs : List BinderTyping) (t : Typing) (W : Tree) (S : State) → b.type.is_type S.known ≡ false → check (function (b ∷ bs) t) W S ≡ None
check_not b bs t W S e =
    let A = value_at S.known b.type.tree in
    let m = under lam (binders_of (b ∷ bs)) t.tree in
    ap (λ p. where_true (p && holds (past b.count A W) (λ V. lambda_check bs t (with_variables b.count A S.known) V)) (Some (finding (Tm (place S) (value_at S.known m) W) (after m S)))) e

-- what is planned

pub run_taking : (b : Contents) (type : Bor Code) (n : ℕ) (rest : Bor (List BinderOf)) (c : Bor Code) (ty : TypeAt) (S : State) (W : Tree) (R : Option State) → IsTypeAt b ty (place S) W
    → R ≡ check (function (record { count = n; type = typed type.now } ∷ map binder_typed rest.now) (typed c.now)) W S → Run b (Form type Large ∷ BindingOf (Take n rest c ty) ∷ []) S R
run_taking b type n rest c ty S W R at is =
    let T : Typing = typed type.now in
    let B : BinderTyping = record { count = n; type = T } in (
      form Large T S,
      refl,
      then_where b (BindingOf (Take n rest c ty) ∷ []) (finding (Ty (place S) (value_at S.known T.tree)) (after T.tree S)) (T.is_type S.known)
          (λ passed. run_one b _ _ (BindingOf (Take n rest c ty)) (value_at S.known T.tree, W, S.found, refl, at, is ∙ check_first B (map binder_typed rest.now) (typed c.now) W S passed))
          (λ failed. is ∙ check_not B (map binder_typed rest.now) (typed c.now) W S failed),
    )

pub run_takes : (b : Contents) (n k : ℕ) (A V W : Tree) (bs : Bor (List BinderOf)) (c : Bor Code) (ty : TypeAt) (S : State) (js : List Judgement) (R : Option State) → k ≡ suc n → taken A W ≡ Some V
    → IsTypeAt b ty (place (entered (Variable A) S)) V → S.found ≡ Ty (place S) A ∷ js
    → R ≡ check (function (given k A ∷ map binder_typed bs.now) (typed c.now)) W (with_found js S)
    → Run b (BindingOf (Take n bs c ty) ∷ BindingOf CloseFunction ∷ []) (finding (Ty (place (entered (Variable A) S)) (lifted A)) (entered (Variable A) S)) R
run_takes b n k A V W bs c ty S js R more e at found is =
    let rest = map binder_typed bs.now in
    let N = check (function (given n (lifted A) ∷ rest) (typed c.now)) V (entered (Variable A) S) in (
      N,
      (lifted A, V, S.found, refl, at, refl),
      subst (λ M. Then (Run b (BindingOf CloseFunction ∷ [])) N M)
          (sym (is ∙ ap (λ l. check (function (given l A ∷ rest) (typed c.now)) W (with_found js S)) more)) (take_one b n A V W rest (typed c.now) S js e found),
    )

pub run_takes_last : (b : Contents) (k : ℕ) (A V W : Tree) (bs : Bor (List BinderOf)) (c : Bor Code) (ty : TypeAt) (S : State) (js : List Judgement) (R : Option State) → k ≡ 1 → taken A W ≡ Some V
    → IsTypeAt b ty (place (entered (Variable A) S)) V → S.found ≡ Ty (place S) A ∷ js
    → R ≡ check (function (given k A ∷ map binder_typed bs.now) (typed c.now)) W (with_found js S)
    → Run b (BindingOf (Lambda bs c ty) ∷ BindingOf CloseFunction ∷ []) (entered (Variable A) S) R
run_takes_last b k A V W bs c ty S js R one e at found is =
    let rest = map binder_typed bs.now in
    let N = check (function (given 0 (lifted A) ∷ rest) (typed c.now)) V (entered (Variable A) S) in (
      N,
      (V, at, refl),
      subst (λ M. Then (Run b (BindingOf CloseFunction ∷ [])) N M)
          (sym (is ∙ ap (λ l. check (function (given l A ∷ rest) (typed c.now)) W (with_found js S)) one)) (take_one b 0 A V W rest (typed c.now) S js e found),
    )

-- steps

pub check_planned : (old new : Tasks) (next : Next) (bs : Bor (List BinderOf)) (c : Bor Code) (ty : TypeAt) → length bs.now < 1
    → next ≡ Moved → Planned old new (Check c ty ∷ []) → Plans old new (BindingOf (Lambda bs c ty)) next
check_planned old new next bs c ty few moved planned =
    let none = none_left bs.now few in
    let nothing : sum binder_weight bs.now ≡ 0 = ap (sum binder_weight) none in
    plans old new next (BindingOf (Lambda bs c ty)) (Check c ty ∷ []) moved planned (omega (arith, nothing))
    (λ b S M (W, at, is). run_one b S M (Check c ty) (W, at, is ∙ ap (λ xs. check (function (map binder_typed xs) (typed c.now)) W S) none))

pub taking_planned : (old new : Tasks) (next : Next) (bs rest : Bor (List BinderOf)) (c : Bor Code) (ty : TypeAt) (type : Bor Code) (binder : BinderOf)
    → bs.now ≡ binder ∷ rest.now → type.now ≡ binder.ty
    → next ≡ Moved → Planned old new (Form type Large ∷ BindingOf (Take binder.names rest c ty) ∷ []) → Plans old new (BindingOf (Lambda bs c ty)) next
taking_planned old new next bs rest c ty type binder whole type_is moved planned =
    let heavy : weight_of type.now ≡ weight_of binder.ty = ap weight_of type_is in
    let all : sum binder_weight bs.now ≡ 16 + (binder_weight binder + sum binder_weight rest.now) = ap (sum binder_weight) whole in
    plans old new next (BindingOf (Lambda bs c ty)) (Form type Large ∷ BindingOf (Take binder.names rest c ty) ∷ []) moved planned (omega (arith, heavy, all))
    (λ b S M (W, at, is).
    run_taking b type binder.names rest c ty S W M at
    (is ∙ ap (λ xs. check (function (map binder_typed xs) (typed c.now)) W S) whole
    ∙ ap (λ t. check (function (record { count = binder.names; type = typed t } ∷ map binder_typed rest.now) (typed c.now)) W S) (sym type_is)))

module _ (b : Contents) (y : CheckState) (old new : Tasks) (next : Next) (n : ℕ) (bs : Bor (List BinderOf)) (c : Bor Code) (ty : TypeAt) (S : State) (M : Option State) (A W : Tree) (js : List Judgement) where
  pub take_none : n ≡ 0 → IsState b y (with_found js S) → next ≡ Moved → Planned old new (BindingOf (Lambda bs c ty) ∷ []) → IsTypeAt b ty (place S) W
      → M ≡ check (function (given n A ∷ map binder_typed bs.now) (typed c.now)) W (with_found js S) → Leaves b y old new (BindingOf (Take n bs c ty)) next M
  take_none none is moved planned at made =
      leaves b y old new (BindingOf (Take n bs c ty)) next M (with_found js S) (BindingOf (Lambda bs c ty) ∷ []) moved is planned (omega arith)
      (run_one b (with_found js S) M (BindingOf (Lambda bs c ty)) (W, at, made ∙ ap (λ k. check (function (given k A ∷ map binder_typed bs.now) (typed c.now)) W (with_found js S)) none))

  pub take_last : (left : TypeAt) (V : Tree) → n ≡ 1 → taken A W ≡ Some V → IsTypeAt b left (place (entered (Variable A) S)) V → IsState b y (entered (Variable A) S) → next ≡ Moved
      → Planned old new (BindingOf (Lambda bs c left) ∷ BindingOf CloseFunction ∷ []) → S.found ≡ Ty (place S) A ∷ js
      → M ≡ check (function (given n A ∷ map binder_typed bs.now) (typed c.now)) W (with_found js S) → Leaves b y old new (BindingOf (Take n bs c ty)) next M
  take_last left V one takes at is moved planned found made =
      leaves b y old new (BindingOf (Take n bs c ty)) next M (entered (Variable A) S) (BindingOf (Lambda bs c left) ∷ BindingOf CloseFunction ∷ []) moved is planned (omega (arith, one))
      (run_takes_last b n A V W bs c left S js M one takes at found made)

  pub take_more : (left : TypeAt) (V : Tree) → n ≡ suc (n - 1) → taken A W ≡ Some V → IsTypeAt b left (place (entered (Variable A) S)) V
      → IsState b y (finding (Ty (place (entered (Variable A) S)) (lifted A)) (entered (Variable A) S)) → next ≡ Moved
      → Planned old new (BindingOf (Take (n - 1) bs c left) ∷ BindingOf CloseFunction ∷ []) → S.found ≡ Ty (place S) A ∷ js
      → M ≡ check (function (given n A ∷ map binder_typed bs.now) (typed c.now)) W (with_found js S) → Leaves b y old new (BindingOf (Take n bs c ty)) next M
  take_more left V more takes at is moved planned found made =
      leaves b y old new (BindingOf (Take n bs c ty)) next M (finding (Ty (place (entered (Variable A) S)) (lifted A)) (entered (Variable A) S))
      (BindingOf (Take (n - 1) bs c left) ∷ BindingOf CloseFunction ∷ []) moved is planned (omega (arith, more))
      (run_takes b (n - 1) n A V W bs c left S js M more takes at found made)
