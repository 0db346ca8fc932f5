-- What is planned for pairs and paths makes of a state what their tasks make of it.
use Rattle.std.proofs.Common.{◌≡◌, ◌&&◌, ℕ, suc, List, [], ◌∷◌, ◌++◌, map, ◌-◌, ◌<◌, ◌≤◌, ◌==◌, length, arith, Option, Some, None, Bool, true, false, IsTrue, ◌↔◌, Bor, refl, sym, ap, ap₂, ◌∙◌, subst, append_assoc}
use Rattle.std.proofs.lemmas.Bool.{eqb-true}
use Rattle.trees.specs.declared.op.Op.TheVariants as op
use Rattle.trees.specs.Trees.{Tree, Subst, Make, NoTrees, More}
use Rattle.trees.specs.Judgements.{Context, Judgement, WithName, trees}
use Rattle.trees.specs.Language.{Tm, Ty, Sb}
use Rattle.substitution.specs.Forms.{lift}
use Rattle.translation.specs.Terms.{sig, pair, pathp, plam, i0, i1}
use Rattle.translation.specs.Translated.{Stated}
use Rattle.codes.specs.declared.code.Code.{Code}
use Rattle.codes.proofs.Logs.{append_empty}
use Rattle.book.specs.Contents.{Contents}
use Rattle.book.specs.Shown.{Extends}
use Rattle.book.specs.declared.kernel.NodeId.{NodeId}
use Rattle.literal_types.specs.declared.forms.Literal.{Literal}
use Rattle.literal_types.specs.declared.forms.Literal.TheVariants.{Pi, Sigma, Path, Other}
use Rattle.literal_types.specs.Literal.{IsLiteral}
use Rattle.typed_contexts.proofs.GrowthLaws.{further}
use Rattle.direct.specs.Known.{Known, Interval, value_at}
use Rattle.direct.specs.Typings.{Typing, where_true, names_check}
use Rattle.direct.specs.Literal.{same_tree, at, sigma_of, path_type_of}
use Rattle.direct.proofs.TreeLaws.{same_means_one, one_means_same}
use Rattle.typed_nodes.specs.declared.types.TypeAt.{TypeAt}
use Rattle.typed_nodes.specs.declared.types.Family.{Family}
use Rattle.typed_nodes.specs.declared.types.Line.{Line}
use Rattle.typed_nodes.specs.Typed.{Says, IsTypeAt, IsFamily, IsLine}
use Rattle.typed_nodes.proofs.GrowthLaws.{says_later, type_at_later}
use Rattle.typing_steps.specs.declared.state.CheckState.{CheckState}
use Rattle.typing_tasks.specs.declared.tasks.Tasks.{Tasks}
use Rattle.typing_tasks.specs.declared.tasks.Next.{Next}
use Rattle.typing_tasks.specs.declared.tasks.Next.TheVariants.{Moved, NotDirect}
use Rattle.typing_tasks.specs.declared.tasks.Task.TheVariants.{Check, Pairing}
use Rattle.typing_tasks.specs.declared.tasks.Pairing.TheVariants.{Components, Second, Pair, Names, CloseName}
use Rattle.typing_tasks.specs.States.{State, place, place_of, with_known, with_found, finding, after, under, stated_at}
use Rattle.typing_tasks.specs.Outcomes.{typed, check, tuple_of, path_function}
use Rattle.typing_tasks.specs.Tasks.{Run, with_others, before_last}
use Rattle.typing_steps.specs.Steps.{IsState, Planned, Steps}
use Rattle.typing_steps.proofs.GrowthLaws.{state_later}
use Rattle.typing_steps.proofs.Planning.{leaves, run_one}
use Rattle.typing_tasks.proofs.OutcomeLaws.{then_where}

-- what is stated by two texts, one after the other
pub joined : {A : Type 0} (xs ys zs : List A) → xs ++ (ys ++ (zs ++ [])) ≡ (xs ++ ys) ++ zs
joined xs ys zs = ap (λ l. xs ++ (ys ++ l)) (append_empty zs) ∙ sym (append_assoc xs ys zs)

-- components

pub no_sigma : (W : Tree) → ((A B : Tree) → W ≡ sig A B → ⊥) → sigma_of W ≡ None
no_sigma (Make op.Sig (More A (More B NoTrees))) never = absurd (never A B refl)
no_sigma W never = refl

pub sigma_parts : (b : Contents) (l : Literal) (f : Family) (H : Context) (W : Tree) → l ≡ Sigma f → IsLiteral b l H W → (A B : Tree) × (W ≡ sig A B) × IsFamily b f H A B
sigma_parts b l f H W found is = subst (λ k. IsLiteral b k H W) found is

-- a type that is literally something else
pub not_sigma : (b : Contents) (l : Literal) (H : Context) (W : Tree) → IsLiteral b l H W → ((f : Family) → l ≡ Sigma f → ⊥) → sigma_of W ≡ None
not_sigma b (Pi f) H W (A, B, same, is) never = rw same refl
not_sigma b (Sigma f) H W is never = absurd (never f refl)
not_sigma b (Path f) H W (A, u, v, same, is) never = rw same refl
not_sigma b Other H W is never = no_sigma W is.no_sigma

module _ (a u : Typing) (us : List Typing) (S : State) where
  abbrev components_of : List (Stated ℕ) → Tree → Tree → Bool → Option State
  components_of ds A B p =
      let t : Typing = tuple_of (u ∷ us) in
      let x : Tree = value_at S.known a.tree in
      where_true (p && t.check S.known (at B x))
      (Some (record { known = S.known; found = Tm (place S) (pair x (value_at S.known t.tree)) (sig A B) ∷ S.found; inferred = S.inferred; stated = ds }))

  pub components_yes : (A B : Tree) → a.check S.known A ≡ true → check (tuple_of (a ∷ u ∷ us)) (sig A B) S ≡ with_others (u ∷ us) A B (value_at S.known a.tree) (after a.tree S)
  components_yes A B e = ap₂ (λ ds p. components_of ds A B p) (joined S.stated (stated_at S.known a.tree) (stated_at S.known (tuple_of (u ∷ us)).tree)) e

  pub components_no : (A B : Tree) → a.check S.known A ≡ false → check (tuple_of (a ∷ u ∷ us)) (sig A B) S ≡ None
  components_no A B e = ap (components_of (S.stated ++ (stated_at S.known a.tree ++ (stated_at S.known (tuple_of (u ∷ us)).tree ++ []))) A B) e

  pub components_other : (W : Tree) → sigma_of W ≡ None → check (tuple_of (a ∷ u ∷ us)) W S ≡ None
  components_other W e = rw e refl

module _ (b : Contents) (S : State) (M : Option State) where
  -- a list of more than one component, as its first and the others
  pub components_run : (c : Bor Code) (rest : Bor (List Code)) (ty : TypeAt) (f : Family) (A B : Tree)
      → (rest.now ≡ [] → ⊥) → IsFamily b f (place S) A B → IsTypeAt b ty (place S) A
      → M ≡ check (tuple_of (map typed (c.now ∷ rest.now))) (sig A B) S
      → Run b (Check c ty ∷ Pairing (Second rest f) ∷ []) S M
  components_run c rest ty f A B many family is e = more rest.now refl
    where
      more : (ds : List Code) → rest.now ≡ ds → Run b (Check c ty ∷ Pairing (Second rest f) ∷ []) S M
      more [] same = absurd (many same)
      more (d ∷ ds) same =
          let a : Typing = typed c.now in
          let u : Typing = typed d in
          let us : List Typing = map typed ds in
          let x : Tree = value_at S.known a.tree in
          let whole : M ≡ check (tuple_of (a ∷ u ∷ us)) (sig A B) S = e ∙ ap (λ l. check (tuple_of (map typed (c.now ∷ l))) (sig A B) S) same in (
            check a A S,
            (A, is, refl),
            then_where b (Pairing (Second rest f) ∷ []) (finding (Tm (place S) x A) (after a.tree S)) (a.check S.known A)
                (λ good. run_one b (finding (Tm (place S) x A) (after a.tree S)) M (Pairing (Second rest f))
                (A, B, x, S.found, family, refl, whole ∙ components_yes a u us S A B good ∙ ap (λ l. with_others (map typed l) A B x (after a.tree S)) (sym same)))
                (λ bad. whole ∙ components_no a u us S A B bad),
          )

  pub second_run : (cs : Bor (List Code)) (ty : TypeAt) (f : Family) (A B a : Tree) (js : List Judgement)
      → IsFamily b f (place S) A B → IsTypeAt b ty (place S) (at B a) → S.found ≡ Tm (place S) a A ∷ js
      → M ≡ with_others (map typed cs.now) A B a (with_found js S)
      → Run b (Pairing (Components cs ty) ∷ Pairing (Pair f) ∷ []) S M
  second_run cs ty f A B a js family is found e =
      let t : Typing = tuple_of (map typed cs.now) in
      let x : Tree = value_at S.known t.tree in (
        check t (at B a) S,
        (at B a, is, refl),
        then_where b (Pairing (Pair f) ∷ []) (finding (Tm (place S) x (at B a)) (after t.tree S)) (t.check S.known (at B a))
            (λ good. run_one b (finding (Tm (place S) x (at B a)) (after t.tree S)) M (Pairing (Pair f))
            (A, B, a, x, js, family, ap (λ l. Tm (place S) x (at B a) ∷ l) found, e ∙ ap (λ p. where_true p (Some (finding (Tm (place S) (pair a x) (sig A B)) (after t.tree (with_found js S))))) good))
            (λ bad. e ∙ ap (λ p. where_true p (Some (finding (Tm (place S) (pair a x) (sig A B)) (after t.tree (with_found js S))))) bad),
      )

-- lists by their lengths

pub short : {A : Type 0} (xs : List A) → length xs < 1 → xs ≡ []
short [] less = refl
short (x ∷ xs) less = absurd (omega (arith, less))

pub first_of : {A : Type 0} (xs : List A) → 1 ≤ length xs → (x : A) × (rest : List A) × (xs ≡ x ∷ rest)
first_of [] least = absurd (omega (arith, least))
first_of (x ∷ xs) least = (x, xs, refl)

-- lists that were asked whether they are empty

pub is_none : {A : Type 0} (xs : List A) (r : Bool) → r ≡ true → r ≡ (length xs == 0) → xs ≡ []
is_none [] r e f = refl
is_none (x ∷ xs) r e f = absurd (let h : suc (length xs) ≡ 0 = eqb-true (suc (length xs)) 0 (sym f ∙ e) in omega (arith, h))

pub is_some : {A : Type 0} (xs : List A) (r : Bool) → r ≡ false → r ≡ (length xs == 0) → xs ≡ [] → ⊥
is_some [] r e f none = let h : false ≡ true = sym e ∙ f in absurd (cc h)
is_some (x ∷ xs) r e f none = absurd (cc none)

-- Whatever the checker is at, and whatever the type literally is.

-- no components
pub components_none : (b : Contents) (x : CheckState) (old new : Tasks) (cs : Bor (List Code)) (ty : TypeAt) → cs.now ≡ [] → Steps b b x x old new (Pairing (Components cs ty)) NotDirect
components_none b x old new cs ty none S M is (W, here, e) = e ∙ ap (λ l. check (tuple_of (map typed l)) W S) none

pub components_single : (b : Contents) (x : CheckState) (old new : Tasks) (next : Next) (c : Bor Code) (cs : Bor (List Code)) (ty : TypeAt)
    → next ≡ Moved → Planned old new (Check c ty ∷ []) → cs.now ≡ c.now ∷ [] → Steps b b x x old new (Pairing (Components cs ty)) next
components_single b x old new next c cs ty moved planned whole S M is (W, here, e) =
    leaves b x old new (Pairing (Components cs ty)) next M S (Check c ty ∷ []) moved is planned
    (rw whole (omega arith))
    (run_one b S M (Check c ty) (W, here, e ∙ ap (λ l. check (tuple_of (map typed l)) W S) whole))

pub components_planned : (b d : Contents) (x : CheckState) (old new : Tasks) (next : Next) (c : Bor Code) (rest cs : Bor (List Code)) (ty domain : TypeAt) (f : Family) (l : Literal)
    → Extends b d → next ≡ Moved → Planned old new (Check c domain ∷ Pairing (Second rest f) ∷ []) → cs.now ≡ c.now ∷ rest.now → (rest.now ≡ [] → ⊥)
    → l ≡ Sigma f → ((H : Context) (T : Tree) → IsTypeAt b ty H T → IsLiteral d l H T)
    → ((e : Contents) (H : Context) (A B : Tree) → IsFamily e f H A B → IsTypeAt e domain H A)
    → Steps b d x x old new (Pairing (Components cs ty)) next
components_planned b d x old new next c rest cs ty domain f l grown moved planned whole many found literal domain_is S M is (W, here, e) =
    let (A, B, same, family) = sigma_parts d l f (place S) W found (literal (place S) W here) in
    leaves d x old new (Pairing (Components cs ty)) next M S (Check c domain ∷ Pairing (Second rest f) ∷ []) moved (state_later grown x S is) planned
    (rw whole (omega arith))
    (components_run d S M c rest domain f A B many family (domain_is d (place S) A B family)
    (e ∙ ap₂ (λ l V. check (tuple_of (map typed l)) V S) whole same))

pub components_not : (b d : Contents) (x : CheckState) (old new : Tasks) (c : Code) (rest : List Code) (cs : Bor (List Code)) (ty : TypeAt) (l : Literal)
    → cs.now ≡ c ∷ rest → (rest ≡ [] → ⊥) → ((f : Family) → l ≡ Sigma f → ⊥)
    → ((H : Context) (T : Tree) → IsTypeAt b ty H T → IsLiteral d l H T)
    → Steps b d x x old new (Pairing (Components cs ty)) NotDirect
components_not b d x old new c [] cs ty l whole many never literal S M is does = absurd (many refl)
components_not b d x old new c (u ∷ us) cs ty l whole many never literal S M is (W, here, e) =
    e ∙ ap (λ k. check (tuple_of (map typed k)) W S) whole
    ∙ components_other (typed c) (typed u) (map typed us) S W (not_sigma d l (place S) W (literal (place S) W here) never)

-- names

pub no_path : (W : Tree) → ((L u v : Tree) → W ≡ pathp L u v → ⊥) → path_type_of W ≡ None
no_path (Make op.PathP (More L (More u (More v NoTrees)))) never = absurd (never L u v refl)
no_path W never = refl

pub path_parts : (b : Contents) (l : Literal) (line : Line) (H : Context) (W : Tree) → l ≡ Path line → IsLiteral b l H W → (L u v : Tree) × (W ≡ pathp L u v) × IsLine b line H L u v
path_parts b l line H W found is = subst (λ k. IsLiteral b k H W) found is

pub not_path : (b : Contents) (l : Literal) (H : Context) (W : Tree) → IsLiteral b l H W → ((f : Line) → l ≡ Path f → ⊥) → path_type_of W ≡ None
not_path b (Pi f) H W (A, B, same, is) never = rw same refl
not_path b (Sigma f) H W (A, B, same, is) never = rw same refl
not_path b (Path f) H W is never = absurd (never f refl)
not_path b Other H W is never = no_path W is.no_path

module _ (n : ℕ) (t : Typing) (L u v : Tree) (S : State) where
  abbrev name_of : List (Stated ℕ) → Bool → Option State
  name_of ds p =
      let x : Tree = value_at (Interval ∷ S.known) (path_function n t).tree in
      where_true (p && (same_tree (at x i0) u && same_tree (at x i1) v))
      (Some (record { known = S.known; found = Tm (place S) (plam x) (pathp L u v) ∷ S.found; inferred = S.inferred; stated = ds }))

  name_yes : names_check n t (Interval ∷ S.known) L ≡ true → check (path_function (suc n) t) (pathp L u v) S ≡ name_of (S.stated ++ stated_at (Interval ∷ S.known) (path_function n t).tree) true
  name_yes e = ap₂ (λ ds p. name_of ds p) (ap (λ l. S.stated ++ l) (append_empty (stated_at (Interval ∷ S.known) (path_function n t).tree))) e

  name_no : names_check n t (Interval ∷ S.known) L ≡ false → check (path_function (suc n) t) (pathp L u v) S ≡ None
  name_no e = ap (name_of (S.stated ++ (stated_at (Interval ∷ S.known) (path_function n t).tree ++ []))) e

pub names_other : (n : ℕ) (t : Typing) (S : State) (W : Tree) → path_type_of W ≡ None → check (path_function (suc n) t) W S ≡ None
names_other n t S W e = rw e refl

pub names_run : (b : Contents) (S : State) (M : Option State) (n : ℕ) (c : Bor Code) (inner ty : TypeAt) (L u v : Tree)
    → IsTypeAt b inner (place (under Interval S)) L → IsTypeAt b ty (place S) (pathp L u v)
    → M ≡ check (path_function (suc n) (typed c.now)) (pathp L u v) S
    → Run b (Pairing (Names n c inner) ∷ Pairing (CloseName ty) ∷ []) (under Interval S) M
names_run b S M n c inner ty L u v inside is e =
    let t : Typing = typed c.now in
    let x : Tree = value_at (Interval ∷ S.known) (path_function n t).tree in
    let T : State = finding (Tm (place (under Interval S)) x L) (after (path_function n t).tree (under Interval S)) in (
      check (path_function n t) L (under Interval S),
      (L, inside, refl),
      then_where b (Pairing (CloseName ty) ∷ []) T (names_check n t (Interval ∷ S.known) L)
          (λ good. run_one b T M (Pairing (CloseName ty)) (S.known, L, u, v, x, S.found, is, refl, refl, e ∙ name_yes n t L u v S good))
          (λ bad. e ∙ name_no n t L u v S bad),
    )

-- no names
pub names_none : (b : Contents) (x : CheckState) (old new : Tasks) (next : Next) (n : ℕ) (c : Bor Code) (ty : TypeAt)
    → n ≡ 0 → next ≡ Moved → Planned old new (Check c ty ∷ []) → Steps b b x x old new (Pairing (Names n c ty)) next
names_none b x old new next n c ty none moved planned S M is (W, here, e) =
    leaves b x old new (Pairing (Names n c ty)) next M S (Check c ty ∷ []) moved is planned (omega arith)
    (run_one b S M (Check c ty) (W, here, e ∙ ap (λ k. check (path_function k (typed c.now)) W S) none))

pub names_not : (b d : Contents) (x y : CheckState) (old new : Tasks) (n : ℕ) (c : Bor Code) (ty : TypeAt) (l : Literal)
    → (n ≡ 0 → ⊥) → ((f : Line) → l ≡ Path f → ⊥)
    → ((H : Context) (T : Tree) → IsTypeAt b ty H T → IsLiteral d l H T)
    → Steps b d x y old new (Pairing (Names n c ty)) NotDirect
names_not b d x y old new n c ty l some never literal S M is (W, here, e) =
    let same : n ≡ suc (n - 1) = omega (arith, some) in
    e ∙ ap (λ k. check (path_function k (typed c.now)) W S) same
    ∙ names_other (n - 1) (typed c.now) S W (not_path d l (place S) W (literal (place S) W here) never)

-- the type of a body under one more name
line_here : (b k : Contents) (line : Line) (sub : NodeId) (H : Context) (L u v : Tree) → Extends b k → (is : IsLine b line H L u v)
    → Says k sub (Sb (WithName H) (lift trees is.sub) (WithName is.home)) → IsTypeAt k (record { ty = line.ty; sub = sub }) (WithName H) L
line_here b k line sub H L u v grown is under = record {
  home = WithName is.home;
  tree = is.tree;
  sub = lift trees is.sub;
  type_is = says_later b k line.ty (Ty (WithName is.home) is.tree) grown is.line_is;
  sub_is = under;
  is = is.is;
}

pub names_planned : (b l d k : Contents) (x y : CheckState) (old new : Tasks) (next : Next) (n : ℕ) (c : Bor Code) (ty : TypeAt) (line : Line) (sub : NodeId) (form : Literal)
    → (n ≡ 0 → ⊥) → Extends b l → Extends l d → Extends d k → next ≡ Moved
    → Planned old new (Pairing (Names (n - 1) c (record { ty = line.ty; sub = sub })) ∷ Pairing (CloseName ty) ∷ [])
    → form ≡ Path line → ((H : Context) (T : Tree) → IsTypeAt b ty H T → IsLiteral l form H T)
    → ((H G : Context) (e : Subst) → Says l line.sub (Sb H e G) → Says d sub (Sb (WithName H) (lift trees e) (WithName G)))
    → ((S : State) → IsState d x S → IsState k y (under Interval S))
    → Steps b k x y old new (Pairing (Names n c ty)) next
names_planned b l d k x y old new next n c ty line sub form some first second third moved planned found literal lifted entered S M is (W, here, e) =
    let (L, u, v, same, line_is) = path_parts l form line (place S) W found (literal (place S) W here) in
    let count : n ≡ suc (n - 1) = omega (arith, some) in
    let whole : Extends b k = further (further first second) third in
    let sub_there = says_later d k sub (Sb (WithName (place S)) (lift trees line_is.sub) (WithName line_is.home)) third (lifted (place S) line_is.home line_is.sub line_is.sub_is) in
    leaves k y old new (Pairing (Names n c ty)) next M (under Interval S) (Pairing (Names (n - 1) c (record { ty = line.ty; sub = sub })) ∷ Pairing (CloseName ty) ∷ []) moved
    (entered S (state_later (further first second) x S is)) planned (omega (arith, some))
    (names_run k S M (n - 1) c (record { ty = line.ty; sub = sub }) ty L u v (line_here l k line sub (place S) L u v (further second third) line_is sub_there)
    (subst (IsTypeAt k ty (place S)) same (type_at_later b k ty (place S) W whole here))
    (e ∙ ap₂ (λ m V. check (path_function m (typed c.now)) V S) count same))

-- ends

both_true : (p q : Bool) → p ≡ true → q ≡ true → (p && q) ≡ true
both_true p q e f = rw e f

true_both : (p q : Bool) → (p && q) ≡ true → (p ≡ true) × (q ≡ true)
true_both true q e = (refl, e)
true_both false q e = absurd (cc e)

not_true : (p : Bool) → (p ≡ true → ⊥) → p ≡ false
not_true true never = absurd (never refl)
not_true false never = refl

module _ (L u v x y : Tree) where
  pub ends_same : pathp L u v ≡ pathp L x y → (same_tree x u && same_tree y v) ≡ true
  ends_same e =
      let left : x ≡ u = cc e in
      let right : y ≡ v = cc e in
      both_true (same_tree x u) (same_tree y v) (one_means_same x u left) (one_means_same y v right)

  pub ends_other : (pathp L u v ≡ pathp L x y → ⊥) → (same_tree x u && same_tree y v) ≡ false
  ends_other never = not_true (same_tree x u && same_tree y v)
      (λ e. let same = true_both (same_tree x u) (same_tree y v) e in
      never (ap₂ (pathp L) (sym (same_means_one x u same.0)) (sym (same_means_one y v same.1))))

-- a path, over the last name

-- the body was found, and the name is left
pub left_name : (b : Contents) (x y z : CheckState) (body : NodeId) (S : State) (G : Known) (L t : Tree) (js : List Judgement)
    → ((c : Contents) (T : State) (J : Judgement) (ks : List Judgement) → IsState c x T → T.found ≡ J ∷ ks → Says c body J × IsState c y (with_found ks T))
    → ((c : Contents) (T : State) (K : Known) → IsState c y T → before_last T.known ≡ Some K → IsState c z (with_known K T))
    → IsState b x S → S.known ≡ Interval ∷ G → S.found ≡ Tm (place S) t L ∷ js
    → Says b body (Tm (WithName (place_of G)) t L) × IsState b z (with_known G (with_found js S))
left_name b x y z body S G L t js takes leaves_it is known found =
    let (says, left) = takes b S (Tm (place S) t L) js is found in
    (subst (λ K. Says b body (Tm (place_of K) t L)) known says, leaves_it b (with_found js S) G left (ap before_last known))

module _ (L u v t : Tree) (T : State) (M : Option State) (e : M ≡ where_true (same_tree (at t i0) u && same_tree (at t i1) v) (Some T)) where
  pub closed_same : pathp L u v ≡ pathp L (at t i0) (at t i1) → M ≡ Some T
  closed_same same = e ∙ ap (λ p. where_true p (Some T)) (ends_same L u v (at t i0) (at t i1) same)

  pub closed_other : (same : Bool) → same ≡ false → (IsTrue same ↔ (pathp L u v ≡ pathp L (at t i0) (at t i1))) → M ≡ None
  closed_other same differs agree =
      let never : pathp L u v ≡ pathp L (at t i0) (at t i1) → ⊥ = λ one. let h : true ≡ false = sym (agree.1 one) ∙ differs in absurd (cc h) in
      e ∙ ap (λ p. where_true p (Some T)) (ends_other L u v (at t i0) (at t i1) never)
