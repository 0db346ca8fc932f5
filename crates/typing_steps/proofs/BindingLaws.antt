-- What stands under binders, one binder and one variable after another.
use Rattle.std.proofs.Common.{◌≡◌, ◌+◌, ◌-◌, ◌<◌, ◌&&◌, ◌++◌, ℕ, suc, Bool, true, false, List, [], ◌∷◌, length, map, Option, None, Some, Bor, refl, sym, ap, ap₂, subst, ◌∙◌, append_assoc, arith}
use Rattle.std.specs.Option.{option_map}
use Rattle.codes.specs.declared.code.Code.{Code}
use Rattle.codes.specs.declared.code.Binder.{Binder as BinderOf}
use Rattle.codes.specs.declared.code.CodeDef.{CodeDef, roll-CodeDef, out-CodeDef, roll-out-CodeDef}
use Rattle.codes.specs.Codes.{binder_of}
use Rattle.codes.proofs.Logs.{append_empty}
use Rattle.trees.specs.Trees.{Tree}
use Rattle.trees.specs.Judgements.{Judgement}
use Rattle.trees.specs.Language.{Ty, Tm}
use Rattle.translation.specs.Terms.{universe, pi, lam, lifted}
use Rattle.translation.specs.Translated.{Stated, done}
use Rattle.translation.specs.Forms.{Means, Binder, under, defined}
use Rattle.book.specs.Contents.{Contents}
use Rattle.direct.specs.Known.{Known, Variable, value_at, with_variables}
use Rattle.direct.specs.Literal.{is_tree}
use Rattle.direct.specs.Typings.{Typing, BinderTyping, holds, where_true, enter, as_type, in_universe, lambda_infer}
use Rattle.direct.specs.Literal.{pi_over}
use Rattle.typing_tasks.specs.declared.tasks.Sort.{Sort}
use Rattle.typing_tasks.specs.declared.tasks.Sort.TheVariants.{Large, Small}
use Rattle.typing_tasks.specs.declared.tasks.Former.{Former}
use Rattle.typing_tasks.specs.declared.tasks.Inner.{Inner}
use Rattle.typing_tasks.specs.declared.tasks.Inner.TheVariants.{Family, Function, Definition as DefinitionOf}
use Rattle.typing_tasks.specs.declared.tasks.Closing.{Closing}
use Rattle.typing_tasks.specs.declared.tasks.Closing.TheVariants as closing
use Rattle.typing_tasks.specs.declared.tasks.Task.TheVariants.{Form, Infer, Defining as DefiningOf, Binding as BindingOf}
use Rattle.typing_tasks.specs.declared.tasks.Defining.TheVariants.{Body}
use Rattle.typing_tasks.specs.declared.tasks.Binding.TheVariants.{Close, Over, Under}
use Rattle.typing_tasks.specs.States.{State, place, finding, inferring, after, stated_at, with_found, with_stated, under as entered}
use Rattle.typing_tasks.specs.Outcomes.{typed, binder_typed, given, binders_of, former_of, family, function, formed, passes, form, infer, statement, body_of, type_of}
use Rattle.typing_tasks.specs.Tasks.{Run, Then, sort_of, closing_of, under_binders}
use Rattle.typing_tasks.proofs.OutcomeLaws.{then_where}
use Rattle.typing_steps.specs.declared.state.CheckState.{CheckState}
use Rattle.typing_tasks.specs.declared.tasks.Tasks.{Tasks}
use Rattle.typing_tasks.specs.declared.tasks.Next.{Next}
use Rattle.typing_tasks.specs.declared.tasks.Next.TheVariants.{Moved}
use Rattle.typing_tasks.specs.Weights.{sum, weight, weights, weight_of, binder_weight, inner_weight}
use Rattle.typing_steps.specs.Steps.{IsState, Leaves, Plans, Planned}
use Rattle.typing_steps.proofs.Planning.{leaves, plans, run_one}

-- variables of a type that is given pass

pub given_passes : (sort : Sort) (n : ℕ) (A : Tree) (G : Known) → passes sort (given n A).type G ≡ true
given_passes Large n A G = refl
given_passes Small n A G = refl

-- The texts are stated in one order, however they are bracketed.
pub after_first : {B : Type 0} (make : Tree → B → B) (n : ℕ) (a : Means ℕ Tree) (bs : List (Binder ℕ)) (inner : Means ℕ B) (S : State)
    → after (under make (binder_of n a ∷ bs) inner) S ≡ after (under make (binder_of n (λ G. done (value_at S.known a)) ∷ bs) inner) (after a S)
after_first make n a bs inner S =
    ap (λ ds. record { known = S.known; found = S.found; inferred = S.inferred; stated = ds })
    (sym (append_assoc S.stated (stated_at S.known a) (stated_at S.known (under make (binder_of n (λ G. done (value_at S.known a)) ∷ bs) inner))))

-- families

abbrev family_formed : Former → Sort → List BinderTyping → Typing → State → Option State
family_formed f sort bs t S =
    let m = under (former_of f) (binders_of bs) t.tree in
    where_true (holds (enter (passes sort) bs S.known) (passes sort t))
    (Some (finding (formed sort (place S) (value_at S.known m)) (after m S)))

small_pass : (p : Bool) → is_tree (where_true p (Some universe)) universe ≡ p
small_pass true = refl
small_pass false = refl

form_family : (f : Former) (sort : Sort) (bs : List BinderTyping) (t : Typing) (S : State) → form sort (family f bs t) S ≡ family_formed f sort bs t S
form_family f Large bs t S = refl
form_family f Small bs t S =
    let m = under (former_of f) (binders_of bs) t.tree in
    ap (λ p. where_true p (Some (finding (formed Small (place S) (value_at S.known m)) (after m S))))
    (small_pass (holds (enter in_universe bs S.known) (in_universe t)))

family_first : (f : Former) (sort : Sort) (b : BinderTyping) (bs : List BinderTyping) (t : Typing) (S : State) → passes sort b.type S.known ≡ true
    → family_formed f sort (b ∷ bs) t S ≡ family_formed f sort (given b.count (value_at S.known b.type.tree) ∷ bs) t (after b.type.tree S)
family_first f sort b bs t S e =
    let A = value_at S.known b.type.tree in
    let v = value_at S.known (under (former_of f) (binders_of (b ∷ bs)) t.tree) in
    ap₂ (λ p Z. where_true (holds (where_true p (enter (passes sort) bs (with_variables b.count A S.known))) (passes sort t)) (Some (finding (formed sort (place S) v) Z)))
    (e ∙ sym (given_passes sort b.count A S.known))
    (after_first (former_of f) b.count b.type.tree (binders_of bs) t.tree S)

family_not : (f : Former) (sort : Sort) (b : BinderTyping) (bs : List BinderTyping) (t : Typing) (S : State) → passes sort b.type S.known ≡ false → family_formed f sort (b ∷ bs) t S ≡ None
family_not f sort b bs t S e =
    let A = value_at S.known b.type.tree in
    let m = under (former_of f) (binders_of (b ∷ bs)) t.tree in
    ap (λ p. where_true (holds (where_true p (enter (passes sort) bs (with_variables b.count A S.known))) (passes sort t)) (Some (finding (formed sort (place S) (value_at S.known m)) (after m S)))) e

family_none : (f : Former) (sort : Sort) (A : Tree) (bs : List BinderTyping) (t : Typing) (S : State) → family_formed f sort (given 0 A ∷ bs) t S ≡ family_formed f sort bs t S
family_none f sort A bs t S =
    let m = under (former_of f) (binders_of bs) t.tree in
    ap (λ p. where_true (holds (where_true p (enter (passes sort) bs S.known)) (passes sort t)) (Some (finding (formed sort (place S) (value_at S.known m)) (after m S))))
    (given_passes sort 0 A S.known)

-- over the last variable
close_family : (b : Contents) (f : Former) (sort : Sort) (p q : Bool) → p ≡ q → (S : State) (A B : Tree) (js : List Judgement) (ds : List (Stated ℕ)) → S.found ≡ formed sort (place S) A ∷ js
    → Then (Run b (BindingOf (Close (closing.Family f sort)) ∷ []))
    (where_true p (Some (finding (formed sort (place (entered (Variable A) S)) B) (with_stated ds (entered (Variable A) S)))))
    (where_true q (Some (finding (formed sort (place S) (former_of f A B)) (with_stated (ds ++ []) (with_found js S)))))
close_family b f sort true true e S A B js ds found =
    run_one b _ _ (BindingOf (Close (closing.Family f sort))) (
      S.known,
      A,
      B,
      js,
      refl,
      ap (λ fs. formed sort (place (entered (Variable A) S)) B ∷ fs) found,
      ap (λ es. Some (record { known = S.known; found = formed sort (place S) (former_of f A B) ∷ js; inferred = S.inferred; stated = S.stated ++ es })) (append_empty ds),
    )
close_family b f sort false false e S A B js ds found = refl
close_family b f sort true false e S A B js ds found = absurd (cc e)
close_family b f sort false true e S A B js ds found = absurd (cc e)

family_over : (b : Contents) (f : Former) (sort : Sort) (n : ℕ) (A : Tree) (bs : List BinderTyping) (t : Typing) (S : State) (js : List Judgement) → S.found ≡ formed sort (place S) A ∷ js
    → Then (Run b (BindingOf (Close (closing.Family f sort)) ∷ []))
    (family_formed f sort (given n (lifted A) ∷ bs) t (entered (Variable A) S)) (family_formed f sort (given (suc n) A ∷ bs) t (with_found js S))
family_over b f sort n A bs t S js found =
    let G : Known = Variable A ∷ S.known in
    let m = under (former_of f) (binders_of (given n (lifted A) ∷ bs)) t.tree in
    close_family b f sort
    (holds (where_true (passes sort (given n (lifted A)).type G) (enter (passes sort) bs (with_variables n (lifted A) G))) (passes sort t))
    (holds (where_true (passes sort (given (suc n) A).type S.known) (enter (passes sort) bs (with_variables n (lifted A) G))) (passes sort t))
    (ap (λ r. holds (where_true r (enter (passes sort) bs (with_variables n (lifted A) G))) (passes sort t)) (given_passes sort n (lifted A) G ∙ sym (given_passes sort (suc n) A S.known)))
    S A (value_at G m) js (stated_at G m) found

-- functions

function_first : (b : BinderTyping) (bs : List BinderTyping) (t : Typing) (S : State) → b.type.is_type S.known ≡ true
    → infer (function (b ∷ bs) t) S ≡ infer (function (given b.count (value_at S.known b.type.tree) ∷ bs) t) (after b.type.tree S)
function_first b bs t S e =
    let A = value_at S.known b.type.tree in
    let v = value_at S.known (under lam (binders_of (b ∷ bs)) t.tree) in
    ap₂ (λ p Z. option_map (λ T. inferring v T Z) (where_true p (option_map (pi_over b.count A) (lambda_infer bs t (with_variables b.count A S.known)))))
    e (after_first lam b.count b.type.tree (binders_of bs) t.tree S)

function_not : (b : BinderTyping) (bs : List BinderTyping) (t : Typing) (S : State) → b.type.is_type S.known ≡ false → infer (function (b ∷ bs) t) S ≡ None
function_not b bs t S e =
    let A = value_at S.known b.type.tree in
    let m = under lam (binders_of (b ∷ bs)) t.tree in
    ap (λ p. option_map (λ T. inferring (value_at S.known m) T (after m S)) (where_true p (option_map (pi_over b.count A) (lambda_infer bs t (with_variables b.count A S.known))))) e

over_nothing : (A : Tree) (o : Option Tree) → option_map (pi_over 0 A) o ≡ o
over_nothing A None = refl
over_nothing A (Some B) = refl

function_none : (A : Tree) (bs : List BinderTyping) (t : Typing) (S : State) → infer (function (given 0 A ∷ bs) t) S ≡ infer (function bs t) S
function_none A bs t S =
    let m = under lam (binders_of bs) t.tree in
    ap (λ o. option_map (λ T. inferring (value_at S.known m) T (after m S)) o) (over_nothing A (lambda_infer bs t S.known))

close_inferred : (b : Contents) (o : Option Tree) (n : ℕ) (S : State) (A v : Tree) (js : List Judgement) (ds : List (Stated ℕ)) → S.found ≡ Ty (place S) A ∷ js
    → Then (Run b (BindingOf (Close closing.Function) ∷ []))
    (option_map (λ T. inferring v T (with_stated ds (entered (Variable A) S))) (option_map (pi_over n (lifted A)) o))
    (option_map (λ T. inferring (lam A v) T (with_stated (ds ++ []) (with_found js S))) (option_map (pi_over (suc n) A) o))
close_inferred b None n S A v js ds found = refl
close_inferred b (Some T) n S A v js ds found =
    run_one b _ _ (BindingOf (Close closing.Function)) (
      S.known,
      A,
      v,
      pi_over n (lifted A) T,
      js,
      S.inferred,
      refl,
      found,
      refl,
      ap (λ es. Some (inferring (lam A v) (pi A (pi_over n (lifted A) T)) (record { known = S.known; found = js; inferred = S.inferred; stated = S.stated ++ es }))) (append_empty ds),
    )

function_over : (b : Contents) (n : ℕ) (A : Tree) (bs : List BinderTyping) (t : Typing) (S : State) (js : List Judgement) → S.found ≡ Ty (place S) A ∷ js
    → Then (Run b (BindingOf (Close closing.Function) ∷ []))
    (infer (function (given n (lifted A) ∷ bs) t) (entered (Variable A) S)) (infer (function (given (suc n) A ∷ bs) t) (with_found js S))
function_over b n A bs t S js found =
    let G : Known = Variable A ∷ S.known in
    let m = under lam (binders_of (given n (lifted A) ∷ bs)) t.tree in
    close_inferred b (lambda_infer bs t (with_variables n (lifted A) G)) n S A (value_at G m) js (stated_at G m) found

-- definitions

abbrev pairs : Tree → Tree × Tree → Tree × Tree
pairs A s = (pi A s.0, lam A s.1)

abbrev body_passes : Typing → Typing → Known → Bool
body_passes type body H = type.is_type H && body.check H (value_at H type.tree)

statement_first : (b : BinderTyping) (bs : List BinderTyping) (type body : Typing) (S : State) → b.type.is_type S.known ≡ true
    → statement (b ∷ bs) type body S ≡ statement (given b.count (value_at S.known b.type.tree) ∷ bs) type body (after b.type.tree S)
statement_first b bs type body S e =
    let A = value_at S.known b.type.tree in
    let m : Means ℕ (Tree × Tree) = defined (binders_of (b ∷ bs)) type.tree done body.tree in
    let v = value_at S.known m in
    ap₂ (λ p Z. where_true (holds (where_true p (enter as_type bs (with_variables b.count A S.known))) (body_passes type body)) (Some (finding (Tm (place S) v.1 v.0) (finding (Ty (place S) v.0) Z))))
    e (after_first pairs b.count b.type.tree (binders_of bs) (defined [] type.tree done body.tree) S)

statement_not : (b : BinderTyping) (bs : List BinderTyping) (type body : Typing) (S : State) → b.type.is_type S.known ≡ false → statement (b ∷ bs) type body S ≡ None
statement_not b bs type body S e =
    let A = value_at S.known b.type.tree in
    let m : Means ℕ (Tree × Tree) = defined (binders_of (b ∷ bs)) type.tree done body.tree in
    let v = value_at S.known m in
    ap (λ p. where_true (holds (where_true p (enter as_type bs (with_variables b.count A S.known))) (body_passes type body)) (Some (finding (Tm (place S) v.1 v.0) (finding (Ty (place S) v.0) (after m S))))) e

close_statement : (b : Contents) (p : Bool) (S : State) (A v B : Tree) (js : List Judgement) (ds : List (Stated ℕ)) → S.found ≡ Ty (place S) A ∷ js
    → Then (Run b (BindingOf (Close closing.Definition) ∷ []))
    (where_true p (Some (finding (Tm (place (entered (Variable A) S)) v B) (finding (Ty (place (entered (Variable A) S)) B) (with_stated ds (entered (Variable A) S))))))
    (where_true p (Some (finding (Tm (place S) (lam A v) (pi A B)) (finding (Ty (place S) (pi A B)) (with_stated (ds ++ []) (with_found js S))))))
close_statement b true S A v B js ds found =
    run_one b _ _ (BindingOf (Close closing.Definition)) (
      S.known,
      A,
      v,
      B,
      js,
      refl,
      ap (λ fs. Tm (place (entered (Variable A) S)) v B ∷ Ty (place (entered (Variable A) S)) B ∷ fs) found,
      ap (λ es. Some (record { known = S.known; found = Tm (place S) (lam A v) (pi A B) ∷ Ty (place S) (pi A B) ∷ js; inferred = S.inferred; stated = S.stated ++ es })) (append_empty ds),
    )
close_statement b false S A v B js ds found = refl

statement_over : (b : Contents) (n : ℕ) (A : Tree) (bs : List BinderTyping) (type body : Typing) (S : State) (js : List Judgement) → S.found ≡ Ty (place S) A ∷ js
    → Then (Run b (BindingOf (Close closing.Definition) ∷ []))
    (statement (given n (lifted A) ∷ bs) type body (entered (Variable A) S)) (statement (given (suc n) A ∷ bs) type body (with_found js S))
statement_over b n A bs type body S js found =
    let G : Known = Variable A ∷ S.known in
    let m : Means ℕ (Tree × Tree) = defined (binders_of (given n (lifted A) ∷ bs)) type.tree done body.tree in
    let v = value_at G m in
    close_statement b (holds (enter as_type bs (with_variables n (lifted A) G)) (body_passes type body)) S A v.1 v.0 js (stated_at G m) found

-- whatever stands under them

under_first : (i : Inner) (b : BinderTyping) (bs : List BinderTyping) (S : State) → passes (sort_of i) b.type S.known ≡ true
    → under_binders i (b ∷ bs) S ≡ under_binders i (given b.count (value_at S.known b.type.tree) ∷ bs) (after b.type.tree S)
under_first (Family f sort c) b bs S e =
    form_family f sort (b ∷ bs) (typed c.now) S ∙ family_first f sort b bs (typed c.now) S e
    ∙ sym (form_family f sort (given b.count (value_at S.known b.type.tree) ∷ bs) (typed c.now) (after b.type.tree S))
under_first (Function c) b bs S e = function_first b bs (typed c.now) S e
under_first (DefinitionOf d) b bs S e = statement_first b bs (typed (type_of d.now)) (typed (body_of d.now)) S e

under_not : (i : Inner) (b : BinderTyping) (bs : List BinderTyping) (S : State) → passes (sort_of i) b.type S.known ≡ false → under_binders i (b ∷ bs) S ≡ None
under_not (Family f sort c) b bs S e = form_family f sort (b ∷ bs) (typed c.now) S ∙ family_not f sort b bs (typed c.now) S e
under_not (Function c) b bs S e = function_not b bs (typed c.now) S e
under_not (DefinitionOf d) b bs S e = statement_not b bs (typed (type_of d.now)) (typed (body_of d.now)) S e

pub under_none : (i : Inner) (A : Tree) (bs : List BinderTyping) (S : State) → under_binders i (given 0 A ∷ bs) S ≡ under_binders i bs S
under_none (Family f sort c) A bs S = form_family f sort (given 0 A ∷ bs) (typed c.now) S ∙ family_none f sort A bs (typed c.now) S ∙ sym (form_family f sort bs (typed c.now) S)
under_none (Function c) A bs S = function_none A bs (typed c.now) S
under_none (DefinitionOf d) A bs S = refl

-- one variable, and then the others
over_one : (b : Contents) (i : Inner) (n : ℕ) (A : Tree) (bs : List BinderTyping) (S : State) (js : List Judgement) → S.found ≡ formed (sort_of i) (place S) A ∷ js
    → Then (Run b (BindingOf (Close (closing_of i)) ∷ [])) (under_binders i (given n (lifted A) ∷ bs) (entered (Variable A) S)) (under_binders i (given (suc n) A ∷ bs) (with_found js S))
over_one b (Family f sort c) n A bs S js found =
    let closes : List _ = BindingOf (Close (closing.Family f sort)) ∷ [] in
    subst (λ N. Then (Run b closes) N (form sort (family f (given (suc n) A ∷ bs) (typed c.now)) (with_found js S)))
    (sym (form_family f sort (given n (lifted A) ∷ bs) (typed c.now) (entered (Variable A) S)))
    (subst (λ R. Then (Run b closes) (family_formed f sort (given n (lifted A) ∷ bs) (typed c.now) (entered (Variable A) S)) R)
    (sym (form_family f sort (given (suc n) A ∷ bs) (typed c.now) (with_found js S)))
    (family_over b f sort n A bs (typed c.now) S js found))
over_one b (Function c) n A bs S js found = function_over b n A bs (typed c.now) S js found
over_one b (DefinitionOf d) n A bs S js found = statement_over b n A bs (typed (type_of d.now)) (typed (body_of d.now)) S js found

-- what is planned

-- no binders
pub run_family : (b : Contents) (f : Former) (sort : Sort) (c : Bor Code) (S : State) (R : Option State) → R ≡ under_binders (Family f sort c) [] S → Run b (Form c sort ∷ []) S R
run_family b f sort c S R is = run_one b S R (Form c sort) (is ∙ form_family f sort [] (typed c.now) S)

pub run_definition : (b : Contents) (type body : Bor Code) (S : State) (R : Option State) → R ≡ statement [] (typed type.now) (typed body.now) S → Run b (Form type Large ∷ DefiningOf (Body body) ∷ []) S R
run_definition b type body S R is =
    let T : Typing = typed type.now in
    let B : Typing = typed body.now in
    let G = S.known in
    let A = value_at G T.tree in
    let v = value_at G B.tree in
    let order : S.stated ++ (stated_at G T.tree ++ (stated_at G B.tree ++ [])) ≡ (S.stated ++ stated_at G T.tree) ++ stated_at G B.tree =
    ap (λ es. S.stated ++ (stated_at G T.tree ++ es)) (append_empty (stated_at G B.tree)) ∙ sym (append_assoc S.stated (stated_at G T.tree) (stated_at G B.tree)) in
    let whole : Bool → List (Stated ℕ) → Option State = λ p ds.
    where_true (p && B.check G A) (Some (record { known = G; found = Tm (place S) v A ∷ Ty (place S) A ∷ S.found; inferred = S.inferred; stated = ds })) in (
      form Large T S,
      refl,
      then_where b (DefiningOf (Body body) ∷ []) (finding (Ty (place S) A) (after T.tree S)) (T.is_type G)
          (λ passed. run_one b _ _ (DefiningOf (Body body)) (A, S.found, refl, is ∙ ap₂ whole passed order))
          (λ failed. is ∙ ap (λ p. whole p (S.stated ++ (stated_at G T.tree ++ (stated_at G B.tree ++ [])))) failed),
    )

-- a binder, and what stands under its variables
pub run_binder : (b : Contents) (i : Inner) (type : Bor Code) (n : ℕ) (rest : Bor (List BinderOf)) (S : State) (R : Option State)
    → R ≡ under_binders i (record { count = n; type = typed type.now } ∷ map binder_typed rest.now) S → Run b (Form type (sort_of i) ∷ BindingOf (Over n rest i) ∷ []) S R
run_binder b i type n rest S R is =
    let T : Typing = typed type.now in
    let B : BinderTyping = record { count = n; type = T } in (
      form (sort_of i) T S,
      refl,
      then_where b (BindingOf (Over n rest i) ∷ []) (finding (formed (sort_of i) (place S) (value_at S.known T.tree)) (after T.tree S)) (passes (sort_of i) T S.known)
          (λ passed. run_one b _ _ (BindingOf (Over n rest i)) (value_at S.known T.tree, S.found, refl, is ∙ under_first i B (map binder_typed rest.now) S passed))
          (λ failed. is ∙ under_not i B (map binder_typed rest.now) S failed),
    )

-- so many variables of a type that was found last
pub run_variables : (b : Contents) (i : Inner) (n k : ℕ) (A : Tree) (bs : Bor (List BinderOf)) (S : State) (js : List Judgement) (R : Option State) → k ≡ suc n → S.found ≡ formed (sort_of i) (place S) A ∷ js
    → R ≡ under_binders i (given k A ∷ map binder_typed bs.now) (with_found js S)
    → Run b (BindingOf (Over n bs i) ∷ BindingOf (Close (closing_of i)) ∷ []) (finding (formed (sort_of i) (place (entered (Variable A) S)) (lifted A)) (entered (Variable A) S)) R
run_variables b i n k A bs S js R more found is =
    let rest = map binder_typed bs.now in (
      under_binders i (given n (lifted A) ∷ rest) (entered (Variable A) S),
      (lifted A, S.found, refl, refl),
      subst (λ N. Then (Run b (BindingOf (Close (closing_of i)) ∷ [])) (under_binders i (given n (lifted A) ∷ rest) (entered (Variable A) S)) N)
          (sym (is ∙ ap (λ m. under_binders i (given m A ∷ rest) (with_found js S)) more)) (over_one b i n A rest S js found),
    )

-- the last of them
pub run_last_variable : (b : Contents) (i : Inner) (k : ℕ) (A : Tree) (bs : Bor (List BinderOf)) (S : State) (js : List Judgement) (R : Option State) → k ≡ 1 → S.found ≡ formed (sort_of i) (place S) A ∷ js
    → R ≡ under_binders i (given k A ∷ map binder_typed bs.now) (with_found js S)
    → Run b (BindingOf (Under bs i) ∷ BindingOf (Close (closing_of i)) ∷ []) (entered (Variable A) S) R
run_last_variable b i k A bs S js R one found is =
    let rest = map binder_typed bs.now in
    let closes : List _ = BindingOf (Close (closing_of i)) ∷ [] in (
      under_binders i rest (entered (Variable A) S),
      refl,
      subst (λ N. Then (Run b closes) N R) (under_none i (lifted A) rest (entered (Variable A) S))
          (subst (λ N. Then (Run b closes) (under_binders i (given 0 (lifted A) ∷ rest) (entered (Variable A) S)) N)
          (sym (is ∙ ap (λ m. under_binders i (given m A ∷ rest) (with_found js S)) one)) (over_one b i 0 A rest S js found)),
    )

-- steps

pub none_left : {A : Type 0} (xs : List A) → length xs < 1 → xs ≡ []
none_left [] few = refl
none_left (x ∷ xs) few = absurd (omega (arith, few))

weight_of_none : (bs : Bor (List BinderOf)) (i j : Inner) → i ≡ j → length bs.now < 1 → weight (BindingOf (Under bs i)) ≡ 1 + (0 + inner_weight j)
weight_of_none bs i j same few = ap₂ (λ k xs. 1 + (sum binder_weight xs + inner_weight k)) same (none_left bs.now few)

none_makes : (bs : Bor (List BinderOf)) (i j : Inner) (S : State) → i ≡ j → length bs.now < 1 → under_binders i (map binder_typed bs.now) S ≡ under_binders j [] S
none_makes bs i j S same few = ap₂ (λ k xs. under_binders k (map binder_typed xs) S) same (none_left bs.now few)

pub family_planned : (old new : Tasks) (next : Next) (bs : Bor (List BinderOf)) (i : Inner) (f : Former) (sort : Sort) (c : Bor Code) → i ≡ Family f sort c → length bs.now < 1
    → next ≡ Moved → Planned old new (Form c sort ∷ []) → Plans old new (BindingOf (Under bs i)) next
family_planned old new next bs i f sort c same few moved planned =
    plans old new next (BindingOf (Under bs i)) (Form c sort ∷ []) moved planned
    (subst (λ w. weights (Form c sort ∷ []) < w) (sym (weight_of_none bs i (Family f sort c) same few)) (omega arith))
    (λ b S M is. run_family b f sort c S M (is ∙ none_makes bs i (Family f sort c) S same few))

pub function_planned : (old new : Tasks) (next : Next) (bs : Bor (List BinderOf)) (i : Inner) (c : Bor Code) → i ≡ Function c → length bs.now < 1
    → next ≡ Moved → Planned old new (Infer c ∷ []) → Plans old new (BindingOf (Under bs i)) next
function_planned old new next bs i c same few moved planned =
    plans old new next (BindingOf (Under bs i)) (Infer c ∷ []) moved planned
    (subst (λ w. weights (Infer c ∷ []) < w) (sym (weight_of_none bs i (Function c) same few)) (omega arith))
    (λ b S M is. run_one b S M (Infer c) (is ∙ none_makes bs i (Function c) S same few))

pub type_reads : (d : CodeDef) → type_of d ≡ (out-CodeDef d).ty
unfolding roll-CodeDef denote.Hole.Carrier.roll
type_reads d = sym (ap type_of (roll-out-CodeDef d))

pub body_reads : (d : CodeDef) → body_of d ≡ (out-CodeDef d).body
unfolding roll-CodeDef denote.Hole.Carrier.roll
body_reads d = sym (ap body_of (roll-out-CodeDef d))

pub definition_planned : (old new : Tasks) (next : Next) (bs : Bor (List BinderOf)) (i : Inner) (d : Bor CodeDef) (type body : Bor Code) → i ≡ DefinitionOf d → length bs.now < 1
    → type.now ≡ (out-CodeDef d.now).ty → body.now ≡ (out-CodeDef d.now).body
    → next ≡ Moved → Planned old new (Form type Large ∷ DefiningOf (Body body) ∷ []) → Plans old new (BindingOf (Under bs i)) next
definition_planned old new next bs i d type body same few type_is body_is moved planned =
    let is_type : type.now ≡ type_of d.now = type_is ∙ sym (type_reads d.now) in
    let is_body : body.now ≡ body_of d.now = body_is ∙ sym (body_reads d.now) in
    let heavy : weight_of type.now ≡ weight_of (type_of d.now) = ap weight_of is_type in
    let heavier : weight_of body.now ≡ weight_of (body_of d.now) = ap weight_of is_body in
    plans old new next (BindingOf (Under bs i)) (Form type Large ∷ DefiningOf (Body body) ∷ []) moved planned
    (subst (λ w. weights (Form type Large ∷ DefiningOf (Body body) ∷ []) < w) (sym (weight_of_none bs i (DefinitionOf d) same few)) (omega (arith, heavy, heavier)))
    (λ b S M is. run_definition b type body S M
    (is ∙ none_makes bs i (DefinitionOf d) S same few ∙ ap₂ (λ t u. statement [] (typed t) (typed u) S) (sym is_type) (sym is_body)))

pub binder_planned : (old new : Tasks) (next : Next) (bs rest : Bor (List BinderOf)) (i : Inner) (type : Bor Code) (binder : BinderOf) (sort : Sort)
    → bs.now ≡ binder ∷ rest.now → type.now ≡ binder.ty → sort ≡ sort_of i
    → next ≡ Moved → Planned old new (Form type sort ∷ BindingOf (Over binder.names rest i) ∷ []) → Plans old new (BindingOf (Under bs i)) next
binder_planned old new next bs rest i type binder sort whole type_is same moved planned =
    let heavy : weight_of type.now ≡ weight_of binder.ty = ap weight_of type_is in
    let all : sum binder_weight bs.now ≡ 16 + (binder_weight binder + sum binder_weight rest.now) = ap (sum binder_weight) whole in
    plans old new next (BindingOf (Under bs i)) (Form type sort ∷ BindingOf (Over binder.names rest i) ∷ []) moved planned (omega (arith, heavy, all))
    (λ b S M is.
    subst (λ s. Run b (Form type s ∷ BindingOf (Over binder.names rest i) ∷ []) S M) (sym same)
    (run_binder b i type binder.names rest S M
    (is ∙ ap (λ xs. under_binders i (map binder_typed xs) S) whole
    ∙ ap (λ c. under_binders i (record { count = binder.names; type = typed c } ∷ map binder_typed rest.now) S) (sym type_is))))

module _ (c : Contents) (y : CheckState) (old new : Tasks) (next : Next) (n : ℕ) (bs : Bor (List BinderOf)) (i : Inner) (S : State) (M : Option State) (A : Tree) (js : List Judgement) where
  pub over_none : n ≡ 0 → IsState c y (with_found js S) → next ≡ Moved → Planned old new (BindingOf (Under bs i) ∷ [])
      → M ≡ under_binders i (given n A ∷ map binder_typed bs.now) (with_found js S) → Leaves c y old new (BindingOf (Over n bs i)) next M
  over_none none is moved planned made =
      leaves c y old new (BindingOf (Over n bs i)) next M (with_found js S) (BindingOf (Under bs i) ∷ []) moved is planned (omega arith)
      (run_one c (with_found js S) M (BindingOf (Under bs i))
      (made ∙ ap (λ k. under_binders i (given k A ∷ map binder_typed bs.now) (with_found js S)) none ∙ under_none i A (map binder_typed bs.now) (with_found js S)))

  pub over_last : (k : Closing) → n ≡ 1 → k ≡ closing_of i → IsState c y (entered (Variable A) S) → next ≡ Moved
      → Planned old new (BindingOf (Under bs i) ∷ BindingOf (Close k) ∷ []) → S.found ≡ formed (sort_of i) (place S) A ∷ js
      → M ≡ under_binders i (given n A ∷ map binder_typed bs.now) (with_found js S) → Leaves c y old new (BindingOf (Over n bs i)) next M
  over_last k one closes is moved planned found made =
      leaves c y old new (BindingOf (Over n bs i)) next M (entered (Variable A) S) (BindingOf (Under bs i) ∷ BindingOf (Close k) ∷ []) moved is planned (omega (arith, one))
      (subst (λ k. Run c (BindingOf (Under bs i) ∷ BindingOf (Close k) ∷ []) (entered (Variable A) S) M) (sym closes)
      (run_last_variable c i n A bs S js M one found made))

  pub over_more : (k : Closing) → n ≡ suc (n - 1) → k ≡ closing_of i → IsState c y (finding (formed (sort_of i) (place (entered (Variable A) S)) (lifted A)) (entered (Variable A) S)) → next ≡ Moved
      → Planned old new (BindingOf (Over (n - 1) bs i) ∷ BindingOf (Close k) ∷ []) → S.found ≡ formed (sort_of i) (place S) A ∷ js
      → M ≡ under_binders i (given n A ∷ map binder_typed bs.now) (with_found js S) → Leaves c y old new (BindingOf (Over n bs i)) next M
  over_more k more closes is moved planned found made =
      leaves c y old new (BindingOf (Over n bs i)) next M (finding (formed (sort_of i) (place (entered (Variable A) S)) (lifted A)) (entered (Variable A) S))
      (BindingOf (Over (n - 1) bs i) ∷ BindingOf (Close k) ∷ []) moved is planned (omega (arith, more))
      (subst (λ k. Run c (BindingOf (Over (n - 1) bs i) ∷ BindingOf (Close k) ∷ []) (finding (formed (sort_of i) (place (entered (Variable A) S)) (lifted A)) (entered (Variable A) S)) M) (sym closes)
      (run_variables c i (n - 1) n A bs S js M more found made))
