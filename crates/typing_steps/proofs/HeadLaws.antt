-- What is planned for heads makes of a state what their tasks make of it.
use Rattle.std.proofs.Common.{◌≡◌, ◌&&◌, ℕ, arith, List, [], ◌∷◌, ◌++◌, map, Option, Some, None, Bool, true, false, Bor, refl, sym, ap, ap₂, ◌∙◌, subst, append_assoc}
use Rattle.std.specs.Option.{option_map, option_and_then}
use Rattle.trees.specs.declared.op.Op.TheVariants as op
use Rattle.trees.specs.Trees.{Tree, Make, NoTrees, More}
use Rattle.trees.specs.Judgements.{Context}
use Rattle.trees.specs.Language.{Tm}
use Rattle.conditions.specs.Sides.{is_formula}
use Rattle.layout_lexer.specs.declared.token.Span.{Span}
use Rattle.std.specs.Prelude.{IfSome}
use Rattle.trees.specs.Things.{ATree, meanings}
use Rattle.syntax.specs.declared.formula.Projection.{Projection}
use Rattle.syntax.specs.declared.formula.Projection.TheVariants.{First, Second as TheSecond}
use Rattle.translation.specs.Terms.{pi, sig, pathp, app, papp, fst, snd}
use Rattle.translation.specs.Translated.{Stated}
use Rattle.translation.specs.Scopes.{Scope}
use Rattle.translation.specs.Forms.{Means, apply_all, project}
use Rattle.codes.specs.declared.code.Code.{Code}
use Rattle.codes.specs.declared.code.Element.{Element, Argument as Argument', At as At'}
use Rattle.codes.specs.declared.formula.Formula.{Formula, Zero as Zero', One as One', Bound as Bound', Negate', Meet', Join'}
use Rattle.codes.specs.Codes.{formula}
use Rattle.codes.proofs.Logs.{append_empty}
use Rattle.form_rows.specs.Formulas.{formula_tree}
use Rattle.book.specs.Contents.{Contents}
use Rattle.book.specs.Shown.{Extends, book_means}
use Rattle.direct.specs.Known.{scope_of, value_at}
use Rattle.direct.specs.Typings.{Typing, ElementTyping, Argument, At, where_true, applied, projected}
use Rattle.direct.specs.Literal.{at, pi_of, sigma_of, path_type_of}
use Rattle.typed_nodes.specs.declared.types.TypeAt.{TypeAt}
use Rattle.typed_nodes.specs.declared.types.Family.{Family}
use Rattle.typed_nodes.specs.declared.types.Typed.{Typed}
use Rattle.typed_nodes.specs.declared.types.Line.{Line}
use Rattle.typed_nodes.specs.Typed.{Says, IsTypeAt, IsTyped, IsFamily, IsLine}
use Rattle.typed_nodes.proofs.GrowthLaws.{says_later, line_later}
use Rattle.literal_types.specs.declared.forms.Literal.{Literal}
use Rattle.literal_types.specs.declared.forms.Literal.TheVariants.{Pi, Sigma, Path, Other}
use Rattle.literal_types.specs.Literal.{IsLiteral}
use Rattle.typed_contexts.specs.declared.place.Places.{Places}
use Rattle.typed_contexts.specs.Places.{IsPlace}
use Rattle.typed_contexts.proofs.GrowthLaws.{further, place_later}
use Rattle.typing_steps.specs.declared.state.CheckState.{CheckState}
use Rattle.typing_tasks.specs.declared.tasks.Tasks.{Tasks}
use Rattle.typing_tasks.specs.declared.tasks.Next.{Next}
use Rattle.typing_tasks.specs.declared.tasks.Next.TheVariants.{Moved, NotDirect}
use Rattle.typing_tasks.specs.declared.tasks.Task.TheVariants.{Check, Eliminating}
use Rattle.typing_tasks.specs.declared.tasks.Eliminating.TheVariants.{Elements, Apply, Project}
use Rattle.typing_tasks.specs.States.{State, Inferred, place, with_found, with_inferred, finding, inferring, after, stated_at}
use Rattle.typing_tasks.specs.Outcomes.{typed, check, element_typed, element_of}
use Rattle.typing_tasks.specs.Tasks.{Run, LastInferred}
use Rattle.typing_steps.specs.Steps.{at_formula}
use Rattle.typing_steps.specs.Steps.{IsInferred, IsState, IsFormulaRow, GoesAt, Planned, Steps}
use Rattle.typing_steps.proofs.GrowthLaws.{state_later}
use Rattle.typing_steps.proofs.PairLaws.{not_sigma, sigma_parts, path_parts}
use Rattle.typing_steps.proofs.Planning.{leaves, run_one}
use Rattle.typing_tasks.proofs.OutcomeLaws.{then_where}

-- a formula means its tree, and states nothing

formula_meant : (f : Formula) (G : Scope ℕ) → ((formula f G).value ≡ formula_tree f) × ((formula f G).stated ≡ [])
formula_meant (Zero' s) G = (refl, refl)
formula_meant (One' s) G = (refl, refl)
formula_meant (Bound' s k) G = (refl, refl)
formula_meant (Negate' s p f) G =
    let h = formula_meant f G in (rw h.0 refl, rw h.1 refl)
formula_meant (Meet' s p f q g) G =
    let h = formula_meant f G in let k = formula_meant g G in (rw h.0 (rw k.0 refl), rw h.1 (rw k.1 refl))
formula_meant (Join' s p f q g) G =
    let h = formula_meant f G in let k = formula_meant g G in (rw h.0 (rw k.0 refl), rw h.1 (rw k.1 refl))

pub formula_value : (f : Formula) (G : Scope ℕ) → (formula f G).value ≡ formula_tree f
formula_value f G = (formula_meant f G).0

-- what a head makes of its elements, and what it is made of them

abbrev pub elements_outcome : List ElementTyping → Tree → Tree → List Inferred → State → Option State
elements_outcome ts a A rs S =
    let m = apply_all a (map element_of ts) in
    option_map (λ T. inferring (value_at S.known m) T (after m (with_inferred rs S))) (applied ts S.known A)

abbrev last_of : State → Tree → Tree → List Inferred → List Inferred
last_of S a A rs = record { context = place S; term = a; type = A } ∷ rs

-- a state is what its last head was inferred to be
pub same_state : (S : State) (a A : Tree) (rs : List Inferred) → LastInferred S a A rs → inferring a A (with_inferred rs S) ≡ S
same_state S a A rs last = ap (λ (l : List Inferred). record { known = S.known; found = S.found; inferred = l; stated = S.stated }) (sym last)

pub no_elements : (S : State) (a A : Tree) (rs : List Inferred) → LastInferred S a A rs → elements_outcome [] a A rs S ≡ Some S
no_elements S a A rs last =
    ap₂ (λ (l : List Inferred) (ds : List (Stated ℕ)). Some (record { known = S.known; found = S.found; inferred = l; stated = ds })) (sym last) (append_empty S.stated)

-- arguments

pub no_pi : (T : Tree) → ((A B : Tree) → T ≡ pi A B → ⊥) → pi_of T ≡ None
no_pi (Make op.Pi (More A (More B NoTrees))) never = absurd (never A B refl)
no_pi T never = refl

pub argument_other : (S : State) (t : Typing) (ts : List ElementTyping) (a A : Tree) (rs : List Inferred) → pi_of A ≡ None → elements_outcome (Argument t ∷ ts) a A rs S ≡ None
argument_other S t ts a A rs e = rw e refl

module _ (S : State) (t : Typing) (ts : List ElementTyping) (f A B : Tree) (rs : List Inferred) where
  abbrev applied_to : Tree
  applied_to = value_at S.known t.tree

  -- the state after the argument
  abbrev pub argued : State
  argued = inferring (app f applied_to) (at B applied_to) (with_found S.found (with_inferred rs (finding (Tm (place S) applied_to A) (after t.tree S))))

  abbrev arguments_of : List (Stated ℕ) → Bool → Option State
  arguments_of ds p =
      option_map (λ T. record { known = S.known; found = S.found; inferred = last_of S (value_at S.known (apply_all (app f applied_to) (map element_of ts))) T rs; stated = ds })
      (where_true p (applied ts S.known (at B applied_to)))

  argument_yes : t.check S.known A ≡ true → elements_outcome (Argument t ∷ ts) f (pi A B) rs S ≡ elements_outcome ts (app f applied_to) (at B applied_to) rs argued
  argument_yes e = ap₂ (λ ds p. arguments_of ds p) (sym (append_assoc S.stated (stated_at S.known t.tree) (stated_at S.known (apply_all (app f applied_to) (map element_of ts))))) e

  argument_no : t.check S.known A ≡ false → elements_outcome (Argument t ∷ ts) f (pi A B) rs S ≡ None
  argument_no e = ap (arguments_of (S.stated ++ (stated_at S.known t.tree ++ stated_at S.known (apply_all (app f applied_to) (map element_of ts))))) e

pub argument_run : (b : Contents) (S : State) (M : Option State) (c : Bor Code) (rest : Bor (List Element)) (ty : TypeAt) (fam : Family) (f A B : Tree) (rs : List Inferred)
    → LastInferred S f (pi A B) rs → IsFamily b fam (place S) A B → IsTypeAt b ty (place S) A
    → M ≡ elements_outcome (Argument (typed c.now) ∷ map element_typed rest.now) f (pi A B) rs S
    → Run b (Check c ty ∷ Eliminating (Apply fam) ∷ Eliminating (Elements rest) ∷ []) S M
argument_run b S M c rest ty fam f A B rs last family is e =
    let t : Typing = typed c.now in
    let ts : List ElementTyping = map element_typed rest.now in
    let x : Tree = value_at S.known t.tree in
    let V : State = finding (Tm (place S) x A) (after t.tree S) in
    let T : State = argued S t ts f A B rs in (
      check t A S,
      (A, is, refl),
      then_where b (Eliminating (Apply fam) ∷ Eliminating (Elements rest) ∷ []) V (t.check S.known A)
          (λ good. (
            Some T,
            (A, B, f, x, S.found, rs, family, last, refl, refl),
            run_one b T M (Eliminating (Elements rest)) (app f x, at B x, rs, refl, e ∙ argument_yes S t ts f A B rs good),
          ))
          (λ bad. e ∙ argument_no S t ts f A B rs bad),
    )

-- formulas

at_none : {A B C : Type 0} (o : Option A) (p : Bool) (f : A → B) (g : A → Option C) → option_and_then (λ P. where_true p (Some (f P))) o ≡ None → option_and_then (λ P. where_true p (g P)) o ≡ None
at_none None p f g e = refl
at_none (Some P) false f g e = refl
at_none (Some P) true f g e = absurd (cc e)

at_some : {A B C : Type 0} (o : Option A) (p : Bool) (f : A → B) (g : A → Option C) (b : B) → option_and_then (λ P. where_true p (Some (f P))) o ≡ Some b → (P : A) × (f P ≡ b) × (option_and_then (λ P. where_true p (g P)) o ≡ g P)
at_some None p f g b e = absurd (cc e)
at_some (Some P) false f g b e = absurd (cc e)
at_some (Some P) true f g b e = let same : f P ≡ b = cc e in (P, same, refl)

module _ (S : State) (g : Formula) (ts : List ElementTyping) (a A : Tree) (rs : List Inferred) where
  abbrev formula_at : Tree
  formula_at = value_at S.known (formula g)

  abbrev after_formula : Means ℕ Tree
  after_formula = apply_all (papp a formula_at) (map element_of ts)

  abbrev outcome_at : Option Tree → List (Stated ℕ) → Option State
  outcome_at o ds = option_map (λ T. record { known = S.known; found = S.found; inferred = last_of S (value_at S.known after_formula) T rs; stated = S.stated ++ (ds ++ stated_at S.known after_formula) }) o

  pub formula_no : at_formula g a A (with_inferred rs S) ≡ None → elements_outcome (At (formula g) ∷ ts) a A rs S ≡ None
  formula_no e =
      ap (λ o. outcome_at o (stated_at S.known (formula g)))
      (at_none (path_type_of A) (is_formula (place S) formula_at) (λ P. inferring (papp a formula_at) (at P.line formula_at) (with_inferred rs S)) (λ P. applied ts S.known (at P.line formula_at)) e)

  pub formula_yes : (T : State) → at_formula g a A (with_inferred rs S) ≡ Some T
      → (L : Tree) × LastInferred T (papp a formula_at) L rs × (elements_outcome (At (formula g) ∷ ts) a A rs S ≡ elements_outcome ts (papp a formula_at) L rs T)
  formula_yes T e =
      let (P, same, goes) = at_some (path_type_of A) (is_formula (place S) formula_at) (λ P. inferring (papp a formula_at) (at P.line formula_at) (with_inferred rs S)) (λ P. applied ts S.known (at P.line formula_at)) T e in
      let L : Tree = at P.line formula_at in
      let V : State = inferring (papp a formula_at) L (with_inferred rs S) in
      let R : State → Type 0 = λ U. (K : Tree) × LastInferred U (papp a formula_at) K rs × (elements_outcome (At (formula g) ∷ ts) a A rs S ≡ elements_outcome ts (papp a formula_at) K rs U) in
      subst R same
      (L, refl, ap₂ outcome_at goes (formula_meant g (scope_of S.known)).1)

pub formula_run : (b : Contents) (S T : State) (M : Option State) (g : Formula) (rest : Bor (List Element)) (a A : Tree) (rs : List Inferred)
    → at_formula g a A (with_inferred rs S) ≡ Some T → M ≡ elements_outcome (At (formula g) ∷ map element_typed rest.now) a A rs S
    → Run b (Eliminating (Elements rest) ∷ []) T M
formula_run b S T M g rest a A rs goes e =
    let (L, last, same) = formula_yes S g (map element_typed rest.now) a A rs T goes in
    run_one b T M (Eliminating (Elements rest)) (papp a (value_at S.known (formula g)), L, rs, last, e ∙ same)

-- Whatever the checker is at, and whatever the type literally is.

pub not_pi : (b : Contents) (l : Literal) (H : Context) (T : Tree) → IsLiteral b l H T → ((f : Family) → l ≡ Pi f → ⊥) → pi_of T ≡ None
not_pi b (Pi f) H T is never = absurd (never f refl)
not_pi b (Sigma f) H T (A, B, same, is) never = rw same refl
not_pi b (Path f) H T (A, u, v, same, is) never = rw same refl
not_pi b Other H T is never = no_pi T is.no_pi

-- what is said of the head that was inferred last
abbrev pub IsLast : CheckState → Typed → Type 0
IsLast x head = (b : Contents) (S : State) (r : Inferred) (rs : List Inferred) → IsState b x S → S.inferred ≡ r ∷ rs → IsInferred b head r

pub head_typed : (b : Contents) (x : CheckState) (head : Typed) (S : State) (a A : Tree) (rs : List Inferred) → IsLast x head → IsState b x S → LastInferred S a A rs → IsTyped b head (place S) a A
head_typed b x head S a A rs head_is is last = head_is b S (record { context = place S; term = a; type = A }) rs is last

-- the head that was inferred last is taken
abbrev pub TakesLast : CheckState → CheckState → Typed → Type 0
TakesLast x y head = (b : Contents) (S : State) (a A : Tree) (rs : List Inferred) → IsState b x S → LastInferred S a A rs → IsTyped b head (place S) a A × IsState b y (with_inferred rs S)

pub takes_last : (x y : CheckState) (head : Typed) → ((b : Contents) (S : State) (r : Inferred) (rs : List Inferred) → IsState b x S → S.inferred ≡ r ∷ rs → IsInferred b head r × IsState b y (with_inferred rs S)) → TakesLast x y head
takes_last x y head takes b S a A rs is last = takes b S (record { context = place S; term = a; type = A }) rs is last

pub elements_none : (b : Contents) (x : CheckState) (old : Tasks) (es : Bor (List Element)) → es.now ≡ [] → Steps b b x x old old (Eliminating (Elements es)) Moved
elements_none b x old es none S M is (a, A, rs, last, e) =
    leaves b x old old (Eliminating (Elements es)) Moved M S [] refl is (sym (append_empty old.items.items)) (omega arith)
    (e ∙ ap (λ l. elements_outcome (map element_typed l) a A rs S) none ∙ no_elements S a A rs last)

pub argument_planned : (b d : Contents) (x : CheckState) (old new : Tasks) (next : Next) (c : Bor Code) (rest es : Bor (List Element)) (ty : TypeAt) (fam : Family) (head : Typed) (l : Literal)
    → Extends b d → next ≡ Moved → Planned old new (Check c ty ∷ Eliminating (Apply fam) ∷ Eliminating (Elements rest) ∷ [])
    → es.now ≡ Argument' c.now ∷ rest.now → l ≡ Pi fam → IsLast x head
    → ((H : Context) (T : Tree) → IsTypeAt b head.ty H T → IsLiteral d l H T)
    → ((e : Contents) (H : Context) (A B : Tree) → IsFamily e fam H A B → IsTypeAt e ty H A)
    → Steps b d x x old new (Eliminating (Elements es)) next
argument_planned b d x old new next c rest es ty fam head l grown moved planned whole found head_is literal domain_is S M is (a, A, rs, last, e) =
    let typed_head = head_typed b x head S a A rs head_is is last in
    let (D, B, same, family) = subst (λ k. IsLiteral d k (place S) A) found (literal (place S) A typed_head.type_at) in
    leaves d x old new (Eliminating (Elements es)) next M S (Check c ty ∷ Eliminating (Apply fam) ∷ Eliminating (Elements rest) ∷ []) moved (state_later grown x S is) planned
    (rw whole (omega arith))
    (argument_run d S M c rest ty fam a D B rs (subst (λ T. LastInferred S a T rs) same last) family (domain_is d (place S) D B family)
    (e ∙ ap₂ (λ k T. elements_outcome (map element_typed k) a T rs S) whole same))

pub argument_not : (b d : Contents) (x : CheckState) (old new : Tasks) (c : Code) (rest : List Element) (es : Bor (List Element)) (head : Typed) (l : Literal)
    → es.now ≡ Argument' c ∷ rest → ((f : Family) → l ≡ Pi f → ⊥) → IsLast x head
    → ((H : Context) (T : Tree) → IsTypeAt b head.ty H T → IsLiteral d l H T)
    → Steps b d x x old new (Eliminating (Elements es)) NotDirect
argument_not b d x old new c rest es head l whole never head_is literal S M is (a, A, rs, last, e) =
    let typed_head = head_typed b x head S a A rs head_is is last in
    e ∙ ap (λ k. elements_outcome (map element_typed k) a A rs S) whole
    ∙ argument_other S (typed c) (map element_typed rest) a A rs (not_pi d l (place S) A (literal (place S) A typed_head.type_at) never)

pub at_planned : (b d : Contents) (x y : CheckState) (old new : Tasks) (next : Next) (s : Span) (g : Formula) (rest es : Bor (List Element)) (goes : Bool)
    → next ≡ Moved → Planned old new (Eliminating (Elements rest) ∷ []) → es.now ≡ At' s g ∷ rest.now → goes ≡ true
    → ((S : State) (a A : Tree) (rs : List Inferred) → IsState b x S → LastInferred S a A rs → GoesAt d y goes g a A rs S)
    → Steps b d x y old new (Eliminating (Elements es)) next
at_planned b d x y old new next s g rest es goes moved planned whole good law S M is (a, A, rs, last, e) =
    let (T, there, state) = subst (λ p. GoesAt d y p g a A rs S) good (law S a A rs is last) in
    leaves d y old new (Eliminating (Elements es)) next M T (Eliminating (Elements rest) ∷ []) moved state planned (rw whole (omega arith))
    (formula_run d S T M g rest a A rs there (e ∙ ap (λ k. elements_outcome (map element_typed k) a A rs S) whole))

pub at_not : (b d : Contents) (x y : CheckState) (old new : Tasks) (s : Span) (g : Formula) (rest : List Element) (es : Bor (List Element)) (goes : Bool)
    → es.now ≡ At' s g ∷ rest → goes ≡ false
    → ((S : State) (a A : Tree) (rs : List Inferred) → IsState b x S → LastInferred S a A rs → GoesAt d y goes g a A rs S)
    → Steps b d x y old new (Eliminating (Elements es)) NotDirect
at_not b d x y old new s g rest es goes whole never law S M is (a, A, rs, last, e) =
    let none = subst (λ p. GoesAt d y p g a A rs S) never (law S a A rs is last) in
    e ∙ ap (λ k. elements_outcome (map element_typed k) a A rs S) whole ∙ formula_no S g (map element_typed rest) a A rs none

-- one formula

pub at_other : (S : State) (g : Formula) (a A : Tree) → path_type_of A ≡ None → at_formula g a A S ≡ None
at_other S g a A e = rw e refl

where_none : {A B : Type 0} (o : Option A) (p : Bool) (f : A → Option B) → p ≡ false → option_and_then (λ P. where_true p (f P)) o ≡ None
where_none None p f e = refl
where_none (Some P) p f e = rw e refl

pub at_no : (S : State) (g : Formula) (a A : Tree) → is_formula (place S) (formula_tree g) ≡ false → at_formula g a A S ≡ None
at_no S g a A e =
    let r : Tree = value_at S.known (formula g) in
    where_none (path_type_of A) (is_formula (place S) r) (λ P. Some (inferring (papp a r) (at P.line r) S)) (ap (is_formula (place S)) (formula_value g (scope_of S.known)) ∙ e)

pub at_yes : (S : State) (g : Formula) (a A L u v : Tree) → A ≡ pathp L u v → is_formula (place S) (formula_tree g) ≡ true → at_formula g a A S ≡ Some (inferring (papp a (formula_tree g)) (at L (formula_tree g)) S)
at_yes S g a A L u v same e =
    let made : Tree → Bool → Option State = λ r p. where_true p (Some (inferring (papp a r) (at L r) S)) in
    ap (λ T. at_formula g a T S) same ∙ ap (λ r. made r (is_formula (place S) r)) (formula_value g (scope_of S.known)) ∙ ap (made (formula_tree g)) e

pub path_head : (b l d : Contents) (head : Typed) (form : Literal) (line : Line) (found : Option ℕ) (row : ℕ) (H : Context) (a A r : Tree)
    → Extends b l → Extends l d → form ≡ Path line → found ≡ Some row → IsTyped b head H a A → IsLiteral l form H A → IsFormulaRow d found H r
    → (L u v : Tree) × (A ≡ pathp L u v) × IsLine d line H L u v × Says d head.term (Tm H a (pathp L u v)) × (is_formula H r ≡ true) × (book_means d row ≡ Some (ATree r))
path_head b l d head form line found row H a A r first second is some typed_head literal formed =
    let (L, u, v, same, line_is) = path_parts l form line H A is literal in
    let (passes, means) = subst (λ o. IsFormulaRow d o H r) some formed in
    (L, u, v, same, line_later l d line H L u v second line_is, subst (λ T. Says d head.term (Tm H a T)) same (says_later b d head.term (Tm H a A) (further first second) typed_head.term_is), passes, means)

-- projections

abbrev pub project_outcome : List Projection → Tree → Tree → List Inferred → State → Option State
project_outcome ps c T rs S = option_map (λ A. inferring (project c ps) A (with_inferred rs S)) (projected ps c T)

pub project_other : (S : State) (p : Projection) (ps : List Projection) (c T : Tree) (rs : List Inferred) → sigma_of T ≡ None → project_outcome (p ∷ ps) c T rs S ≡ None
project_other S (First s) ps c T rs e = rw e refl
project_other S (TheSecond s) ps c T rs e = rw e refl

pub project_part : (S : State) (p : Projection) (ps : List Projection) (c A B C : Tree) (rs : List Inferred)
    → projected (p ∷ []) c (sig A B) ≡ Some C
    → project_outcome (p ∷ ps) c (sig A B) rs S ≡ project_outcome ps (project c (p ∷ [])) C rs (inferring (project c (p ∷ [])) C (with_inferred rs S))
project_part S (First s) ps c A B C rs e =
    let same : A ≡ C = cc e in ap (λ T. project_outcome ps (fst c) T rs S) same
project_part S (TheSecond s) ps c A B C rs e =
    let same : at B (fst c) ≡ C = cc e in ap (λ T. project_outcome ps (snd c) T rs S) same

-- the first projection is taken, of a pair that is a head no more
pub project_planned : (b l d : Contents) (x y z : CheckState) (old new : Tasks) (next : Next) (p : Projection) (rest ps : Bor (List Projection)) (fam : Family) (pair made : Typed) (form : Literal)
    → Extends b l → Extends l d → next ≡ Moved → Planned old new (Eliminating (Project rest) ∷ []) → ps.now ≡ p ∷ rest.now → form ≡ Sigma fam
    → TakesLast x y pair
    → ((H : Context) (T : Tree) → IsTypeAt b pair.ty H T → IsLiteral l form H T)
    → ((H : Context) (A B c : Tree) → IsFamily l fam H A B → Says l pair.term (Tm H c (sig A B)) → (C : Tree) × (projected (p ∷ []) c (sig A B) ≡ Some C) × IsTyped d made H (project c (p ∷ [])) C)
    → ((e : Contents) (S : State) (a A : Tree) → IsState e y S → IsTyped e made (place S) a A → IsState e z (inferring a A S))
    → Steps b d x z old new (Eliminating (Project ps)) next
project_planned b l d x y z old new next p rest ps fam pair made form first second moved planned whole found takes literal makes infers S M is (c, T, rs, last, e) =
    let (typed_pair, left) = takes b S c T rs is last in
    let (A, B, same, family) = sigma_parts l form fam (place S) T found (literal (place S) T typed_pair.type_at) in
    let says = says_later b l pair.term (Tm (place S) c (sig A B)) first (subst (λ W. Says b pair.term (Tm (place S) c W)) same typed_pair.term_is) in
    let (C, goes, typed_part) = makes (place S) A B c family says in
    let U : State = inferring (project c (p ∷ [])) C (with_inferred rs S) in
    let state = infers d (with_inferred rs S) (project c (p ∷ [])) C (state_later (further first second) y (with_inferred rs S) left) typed_part in
    leaves d z old new (Eliminating (Project ps)) next M U (Eliminating (Project rest) ∷ []) moved state planned (rw whole (omega arith))
    (run_one d U M (Eliminating (Project rest)) (
      project c (p ∷ []),
      C,
      rs,
      refl,
      e ∙ ap₂ (λ k W. project_outcome k c W rs S) whole same ∙ project_part S p rest.now c A B C rs goes,
    ))

pub project_not : (b l : Contents) (x y : CheckState) (old new : Tasks) (p : Projection) (rest : List Projection) (ps : Bor (List Projection)) (pair : Typed) (form : Literal)
    → ps.now ≡ p ∷ rest → ((f : Family) → form ≡ Sigma f → ⊥) → TakesLast x y pair
    → ((H : Context) (T : Tree) → IsTypeAt b pair.ty H T → IsLiteral l form H T)
    → Steps b l x y old new (Eliminating (Project ps)) NotDirect
project_not b l x y old new p rest ps pair form whole never takes literal S M is (c, T, rs, last, e) =
    let (typed_pair, left) = takes b S c T rs is last in
    e ∙ ap (λ k. project_outcome k c T rs S) whole ∙ project_other S p rest c T rs (not_sigma l form (place S) T (literal (place S) T typed_pair.type_at) never)

pub project_none : (b : Contents) (x : CheckState) (old : Tasks) (ps : Bor (List Projection)) → ps.now ≡ [] → Steps b b x x old old (Eliminating (Project ps)) Moved
project_none b x old ps none S M is (c, T, rs, last, e) =
    leaves b x old old (Eliminating (Project ps)) Moved M S [] refl is (sym (append_empty old.items.items)) (omega arith)
    (e ∙ ap (λ l. project_outcome l c T rs S) none ∙ ap (λ U. Some U) (same_state S c T rs last))

-- rows of formulas

-- a row that was found means the tree
pub found_means : (b : Contents) (found : Option ℕ) (row : ℕ) (t : Tree) → found ≡ Some row → IfSome found (λ r. book_means b r ≡ Some (ATree t)) → book_means b row ≡ Some (ATree t)
found_means b found row t is means = subst (λ o. IfSome o (λ r. book_means b r ≡ Some (ATree t))) is means

false_and : (p q : Bool) → q ≡ false → (p && q) ≡ false
false_and true q e = e
false_and false q e = refl

-- Two formulas, of which the rows were asked for one after the other. The books are those before,
-- between and after.
module _ (b l r : Contents) (places : Places) (left right : Option ℕ) (t u : Tree) where
  pub second_none : (H : Context) → Extends b l → right ≡ None → ((K : Context) → IsPlace l places K → IsFormulaRow r right K u) → IsPlace b places H
      → (is_formula H t && is_formula H u) ≡ false
  second_none H grown none row place =
      false_and (is_formula H t) (is_formula H u) (subst (λ o. IsFormulaRow r o H u) none (row H (place_later b l places H grown place)))

  pub both_pass : (H : Context) (k m : ℕ) → Extends b l → left ≡ Some k → right ≡ Some m
      → ((K : Context) → IsPlace b places K → IsFormulaRow l left K t) → ((K : Context) → IsPlace l places K → IsFormulaRow r right K u) → IsPlace b places H
      → (is_formula H t && is_formula H u) ≡ true
  both_pass H k m grown one two first second place =
      let first_is = subst (λ o. IsFormulaRow l o H t) one (first H place) in
      let second_is = subst (λ o. IsFormulaRow r o H u) two (second H (place_later b l places H grown place)) in
      rw first_is.0 second_is.0

  pub both_mean : (k m : ℕ) → Extends l r → left ≡ Some k → right ≡ Some m → IfSome left (λ n. book_means l n ≡ Some (ATree t)) → IfSome right (λ n. book_means r n ≡ Some (ATree u))
      → meanings (book_means r) (k ∷ m ∷ []) ≡ Some (ATree t ∷ ATree u ∷ [])
  both_mean k m grown one two first second =
      let first_means = grown.rows.keeps k (ATree t) (found_means l left k t one first) in
      rw first_means (rw (found_means r right m u two second) refl)
