-- Lines and motives, by what they are opened from; and types that are compared.
use Rattle.std.proofs.Common.{◌≡◌, ◌+◌, ℕ, Bor, List, [], ◌∷◌, Option, Some, Bool, true, false, IsTrue, ◌↔◌, refl, sym, ap, ap₂, ◌∙◌, subst, arith}
use Rattle.std.specs.Option.{option_and_then}
use Rattle.layout_lexer.specs.declared.token.Span.{Span}
use Rattle.codes.specs.declared.code.Code.{Code}
use Rattle.codes.specs.declared.code.Opened.{Opened, Under, Applied}
use Rattle.codes.proofs.Logs.{append_empty}
use Rattle.trees.specs.declared.op.Op.TheVariants as op
use Rattle.trees.specs.Trees.{Tree, Subst}
use Rattle.trees.specs.Things.{Meanings, ATree, both, consed, made, meanings}
use Rattle.trees.specs.Judgements.{Context, WithName, WithVar, trees}
use Rattle.trees.specs.Language.{Sb, Tm, Ty}
use Rattle.substitution.specs.Forms.{lift}
use Rattle.translation.specs.Terms.{nat, universe, pi, pathp, papp, app, lifted, innermost}
use Rattle.translation.specs.Scopes as scope
use Rattle.translation.specs.Translated.{Translated, Stated}
use Rattle.translation.specs.Forms.{Means, applied_to_name, applied_to_variable}
use Rattle.book.specs.Contents.{Contents}
use Rattle.book.specs.Shown.{Extends, book_means}
use Rattle.book.specs.declared.kernel.NodeId.{NodeId}
use Rattle.typed_nodes.proofs.GrowthLaws.{says_later, line_later}
use Rattle.typed_nodes.specs.declared.types.Line.{Line}
use Rattle.typed_nodes.specs.declared.types.Typed.{Typed}
use Rattle.typed_nodes.specs.Typed.{Says, IsLine, IsTypeAt, IsTyped}
use Rattle.direct.specs.Known.{Entry, Known, Variable, Interval, scope_of, value_at}
use Rattle.direct.specs.Literal.{PathType, same_tree, is_tree, path_type_of}
use Rattle.direct.specs.Typings.{Typing, holds, where_true, under_entry, path_in_universe}
use Rattle.direct.specs.Typings.{applied_to_name as named_typing, applied_to_number as numbered_typing}
use Rattle.direct.specs.Direct.{typing}
use Rattle.direct.proofs.TreeLaws.{same_means_one, one_means_same}
use Rattle.literal_types.specs.declared.forms.Literal.{Literal}
use Rattle.literal_types.specs.declared.forms.Literal.TheVariants as literal
use Rattle.literal_types.specs.Literal.{IsLiteral}
use Rattle.typing_tasks.specs.declared.tasks.Sort.{Sort}
use Rattle.typing_tasks.specs.declared.tasks.Sort.TheVariants.{Large, Small}
use Rattle.typing_tasks.specs.declared.tasks.Task.{Task}
use Rattle.typing_tasks.specs.declared.tasks.Task.TheVariants as task
use Rattle.typing_tasks.specs.declared.tasks.Lining.TheVariants as lining
use Rattle.typing_tasks.specs.declared.tasks.Recurring.TheVariants as recurring
use Rattle.typing_tasks.specs.States.{State, place, place_of, under, with_stated, finding, inferring, after}
use Rattle.typing_tasks.specs.Outcomes.{typed, line_typed, motive_typed, infer, form, formed, passes, opened, opened_passes}
use Rattle.typing_tasks.specs.declared.tasks.Tasks.{Tasks}
use Rattle.typing_tasks.specs.declared.tasks.Next.{Next}
use Rattle.typing_tasks.specs.declared.tasks.Next.TheVariants.{Moved}
use Rattle.typing_tasks.specs.Weights.{opened_weight, weight_of}
use Rattle.typing_steps.specs.Steps.{Plans, Planned}
use Rattle.typing_tasks.specs.Tasks.{Run, Then, before_last}
use Rattle.typing_steps.proofs.Planning.{run_one, plans}
use Rattle.typing_tasks.proofs.OutcomeLaws.{then_where, then_map}
use Rattle.typing_tasks.proofs.TypingRows.{tree_typing}

-- by parts

pub line_under : (s : Span) (c : Code) → line_typed (Under s c) ≡ under_entry Interval (λ G. (typed c).tree (scope.Interval 0 ∷ G)) (typed c)
unfolding line_typed typed
line_under s c = ap (λ m. under_entry Interval (λ G. m (scope.Interval 0 ∷ G)) (typing c)) (sym (tree_typing c))

pub motive_under : (s : Span) (c : Code) → motive_typed (Under s c) ≡ under_entry (Variable nat) (λ G. (typed c).tree (scope.Variable 0 nat ∷ G)) (typed c)
unfolding motive_typed typed
motive_under s c = ap (λ m. under_entry (Variable nat) (λ G. m (scope.Variable 0 nat ∷ G)) (typing c)) (sym (tree_typing c))

pub line_applied : (s : Span) (c : Code) → line_typed (Applied s c) ≡ named_typing (applied_to_name (typed c).tree) (typed c)
unfolding line_typed typed
line_applied s c = ap (λ m. named_typing (applied_to_name m) (typing c)) (sym (tree_typing c))

pub motive_applied : (s : Span) (c : Code) → motive_typed (Applied s c) ≡ numbered_typing (applied_to_variable (typed c).tree) (typed c)
unfolding motive_typed typed
motive_applied s c = ap (λ m. numbered_typing (applied_to_variable m) (typing c)) (sym (tree_typing c))

-- under one more entry

under_passes : (sort : Sort) (x : Entry) (m : Means ℕ Tree) (t : Typing) (G : Known) → opened_passes sort (under_entry x m t) G ≡ passes sort t (x ∷ G)
under_passes Large x m t G = refl
under_passes Small x m t G = refl

named_passes : (sort : Sort) (m : Means ℕ Tree) (t : Typing) (G : Known) → opened_passes sort (named_typing m t) G ≡ path_in_universe t G
named_passes Large m t G = refl
named_passes Small m t G = refl

module _ (b : Contents) where
  -- a part that was formed under the entry, which is left
  pub under_left : (sort : Sort) (x : Entry) (m : Means ℕ Tree) (t : Typing) (S : State)
      → m (scope_of S.known) ≡ t.tree (scope_of (x ∷ S.known)) → before_last (x ∷ S.known) ≡ Some S.known
      → Then (Run b (task.Lining lining.Leave ∷ [])) (form sort t (under x S)) (opened sort (place_of (x ∷ S.known)) (under_entry x m t) S)
  under_left sort x m t S same last =
      let outcome : Bool → Translated ℕ Tree → Option State = λ p v. where_true p (Some (finding (formed sort (place_of (x ∷ S.known)) v.value) (with_stated v.stated S))) in
      let e : opened sort (place_of (x ∷ S.known)) (under_entry x m t) S ≡ outcome (passes sort t (x ∷ S.known)) (t.tree (scope_of (x ∷ S.known))) =
      ap₂ outcome (under_passes sort x m t S.known) same in
      let next : State = finding (formed sort (place_of (x ∷ S.known)) (value_at (x ∷ S.known) t.tree)) (after t.tree (under x S)) in
      then_where b (task.Lining lining.Leave ∷ []) next (passes sort t (x ∷ S.known))
      (λ yes. run_one b next _ (task.Lining lining.Leave) (S.known, last, e ∙ ap (λ p. outcome p (t.tree (scope_of (x ∷ S.known)))) yes))
      (λ no. e ∙ ap (λ p. outcome p (t.tree (scope_of (x ∷ S.known)))) no)

  -- applied to the entry

  pub named : (sort : Sort) (t : Typing) (S : State)
      → Then (Run b (task.Lining (lining.PathInUniverse sort) ∷ [])) (infer t S) (opened sort (WithName (place S)) (named_typing (applied_to_name t.tree) t) S)
  named sort t S =
      let J : Bool → List (Stated ℕ) → Option State = λ p ds. where_true p (Some (finding (formed sort (WithName (place S)) (papp (lifted (value_at S.known t.tree)) innermost)) (with_stated ds S))) in
      let stated : List (Stated ℕ) = (t.tree (scope_of S.known)).stated in
      let test : Option Tree → Bool = λ o. holds (option_and_then path_type_of o) (λ P. same_tree P.line universe) in
      let e : opened sort (WithName (place S)) (named_typing (applied_to_name t.tree) t) S ≡ J (test (t.infer S.known)) stated =
      ap₂ J (named_passes sort (applied_to_name t.tree) t S.known) (append_empty stated) in
      then_map b (task.Lining (lining.PathInUniverse sort) ∷ []) (λ A. inferring (value_at S.known t.tree) A (after t.tree S)) (t.infer S.known)
      (λ A is. run_one b (inferring (value_at S.known t.tree) A (after t.tree S)) _ (task.Lining (lining.PathInUniverse sort)) (value_at S.known t.tree, A, S.inferred, refl, e ∙ ap (λ o. J (test o) stated) is))
      (λ none. e ∙ ap (λ o. J (test o) stated) none)

  pub numbered : (t : Typing) (S : State)
      → Then (Run b (task.Recurring recurring.FamilyOfNumbers ∷ [])) (infer t S) (opened Large (WithVar (place S) nat) (numbered_typing (applied_to_variable t.tree) t) S)
  numbered t S =
      let J : Bool → List (Stated ℕ) → Option State = λ p ds. where_true p (Some (finding (formed Large (WithVar (place S) nat) (app (lifted (value_at S.known t.tree)) innermost)) (with_stated ds S))) in
      let stated : List (Stated ℕ) = (t.tree (scope_of S.known)).stated in
      let test : Option Tree → Bool = λ o. is_tree o (pi nat universe) in
      let e : opened Large (WithVar (place S) nat) (numbered_typing (applied_to_variable t.tree) t) S ≡ J (test (t.infer S.known)) stated =
      ap (J (test (t.infer S.known))) (append_empty stated) in
      then_map b (task.Recurring recurring.FamilyOfNumbers ∷ []) (λ A. inferring (value_at S.known t.tree) A (after t.tree S)) (t.infer S.known)
      (λ A is. run_one b (inferring (value_at S.known t.tree) A (after t.tree S)) _ (task.Recurring recurring.FamilyOfNumbers) (value_at S.known t.tree, A, S.inferred, refl, e ∙ ap (λ o. J (test o) stated) is))
      (λ none. e ∙ ap (λ o. J (test o) stated) none)

-- trees that are compared

tests_agree : (p q : Bool) → (p ≡ true → q ≡ true) → (q ≡ true → p ≡ true) → p ≡ q
tests_agree true q f g = sym (f refl)
tests_agree false true f g = g refl
tests_agree false false f g = refl

pub same_as : (same : Bool) (A W : Tree) → (IsTrue same ↔ (A ≡ W)) → same_tree A W ≡ same
same_as same A W agree = tests_agree (same_tree A W) same (λ h. agree.1 (same_means_one A W h)) (λ h. one_means_same A W (agree.0 h))

abbrev pub compared : Option State → Bool → Option State
compared found p = where_true p found

pub pi_row : (m : Meanings) (k l : ℕ) (A B : Tree) → m k ≡ Some (ATree A) → m l ≡ Some (ATree B) → option_and_then (made op.Pi) (meanings m (k ∷ l ∷ [])) ≡ Some (ATree (pi A B))
pi_row m k l A B e f = ap₂ (λ x y. option_and_then (made op.Pi) (both consed x (both consed y (Some [])))) e f

-- the substitution of a literal type of paths
pub path_starts : (b : Contents) (found : Literal) (l : Line) (H : Context) (A : Tree) → found ≡ literal.Path l → IsLiteral b found H A → (K G : Context) × (e : Subst) × Says b l.sub (Sb K e G)
path_starts b found l H A own spells =
    let literally : IsLiteral b (literal.Path l) H A = subst (λ f. IsLiteral b f H A) own spells in
    let (L, u, v, spelt, is) = literally in
    (H, is.home, is.sub, is.sub_is)

-- A literal type of paths, and its line over a name. The book grew by the row of the universe, and by the substitution under the name.
pub named_line : (b c d : Contents) (found : Literal) (l : Line) (over : NodeId) (row : ℕ) (H : Context) (A : Tree) → found ≡ literal.Path l → IsLiteral b found H A
    → Extends b c → book_means c row ≡ Some (ATree universe)
    → Extends c d → ((K G : Context) (e : Subst) → Says c l.sub (Sb K e G) → Says d over (Sb (WithName K) (lift trees e) (WithName G)))
    → (L u v : Tree) × (A ≡ pathp L u v) × IsLine d l H L u v × IsTypeAt d (record { ty = l.ty; sub = over }) (WithName H) L × (book_means d row ≡ Some (ATree universe))
named_line b c d found l over row H A own spells first means second lifts =
    let literally : IsLiteral b (literal.Path l) H A = subst (λ f. IsLiteral b f H A) own spells in
    let (L, u, v, spelt, is) = literally in
    let line_there : Says d l.ty (Ty (WithName is.home) is.tree) = says_later c d l.ty (Ty (WithName is.home) is.tree) second (says_later b c l.ty (Ty (WithName is.home) is.tree) first is.line_is) in
    let lifted_there : Says d over (Sb (WithName H) (lift trees is.sub) (WithName is.home)) = lifts H is.home is.sub (says_later b c l.sub (Sb H is.sub is.home) first is.sub_is) in (
      L,
      u,
      v,
      spelt,
      line_later c d l H L u v second (line_later b c l H L u v first is),
      record { home = WithName is.home; tree = is.tree; sub = lift trees is.sub; type_is = line_there; sub_is = lifted_there; is = is.is },
      second.rows.keeps row (ATree universe) means,
    )

abbrev pub path_found : Option State → Option PathType → Option State
path_found found o = where_true (holds o (λ P. same_tree P.line universe)) found

-- what is planned

under_weighs : (s : Span) (c : Code) → opened_weight (Under s c) ≡ 16 + weight_of c
unfolding opened_weight weight_of
under_weighs s c = refl

applied_weighs : (s : Span) (c : Code) → opened_weight (Applied s c) ≡ 16 + weight_of c
unfolding opened_weight weight_of
applied_weighs s c = refl

pub line_under_planned : (old new : Tasks) (next : Next) (l : Bor Opened) (sort : Sort) (s : Span) (c : Bor Code) → l.now ≡ Under s c.now
    → next ≡ Moved → Planned old new (task.Lining lining.EnterName ∷ task.Form c sort ∷ task.Lining lining.Leave ∷ [])
    → Plans old new (task.Lining (lining.Line l sort)) next
line_under_planned old new next l sort s c own moved planned =
    let ts : List Task = task.Lining lining.EnterName ∷ task.Form c sort ∷ task.Lining lining.Leave ∷ [] in
    let weighs : opened_weight l.now ≡ 16 + weight_of c.now = ap opened_weight own ∙ under_weighs s c.now in
    plans old new next (task.Lining (lining.Line l sort)) ts moved planned (omega (arith, weighs))
    (λ b S M is. subst (Run b ts S)
    (ap (λ o. opened sort (WithName (place S)) o S) (sym (line_under s c.now)) ∙ (ap (λ o. opened sort (WithName (place S)) (line_typed o) S) (sym own) ∙ sym is))
    (Some (under Interval S), refl, (form sort (typed c.now) (under Interval S), refl, under_left b sort Interval (λ G. (typed c.now).tree (scope.Interval 0 ∷ G)) (typed c.now) S refl refl)))

pub line_applied_planned : (old new : Tasks) (next : Next) (l : Bor Opened) (sort : Sort) (s : Span) (c : Bor Code) → l.now ≡ Applied s c.now
    → next ≡ Moved → Planned old new (task.Infer c ∷ task.Lining (lining.PathInUniverse sort) ∷ [])
    → Plans old new (task.Lining (lining.Line l sort)) next
line_applied_planned old new next l sort s c own moved planned =
    let ts : List Task = task.Infer c ∷ task.Lining (lining.PathInUniverse sort) ∷ [] in
    let weighs : opened_weight l.now ≡ 16 + weight_of c.now = ap opened_weight own ∙ applied_weighs s c.now in
    plans old new next (task.Lining (lining.Line l sort)) ts moved planned (omega (arith, weighs))
    (λ b S M is. subst (Run b ts S)
    (ap (λ o. opened sort (WithName (place S)) o S) (sym (line_applied s c.now)) ∙ (ap (λ o. opened sort (WithName (place S)) (line_typed o) S) (sym own) ∙ sym is))
    (infer (typed c.now) S, refl, named b sort (typed c.now) S))

pub motive_under_planned : (old new : Tasks) (next : Next) (m : Bor Opened) (s : Span) (c : Bor Code) → m.now ≡ Under s c.now
    → next ≡ Moved → Planned old new (task.Recurring recurring.EnterNumber ∷ task.Form c Large ∷ task.Lining lining.Leave ∷ [])
    → Plans old new (task.Recurring (recurring.Motive m)) next
motive_under_planned old new next m s c own moved planned =
    let ts : List Task = task.Recurring recurring.EnterNumber ∷ task.Form c Large ∷ task.Lining lining.Leave ∷ [] in
    let weighs : opened_weight m.now ≡ 16 + weight_of c.now = ap opened_weight own ∙ under_weighs s c.now in
    plans old new next (task.Recurring (recurring.Motive m)) ts moved planned (omega (arith, weighs))
    (λ b S M is. subst (Run b ts S)
    (ap (λ o. opened Large (WithVar (place S) nat) o S) (sym (motive_under s c.now)) ∙ (ap (λ o. opened Large (WithVar (place S) nat) (motive_typed o) S) (sym own) ∙ sym is))
    (Some (under (Variable nat) S), refl, (form Large (typed c.now) (under (Variable nat) S), refl, under_left b Large (Variable nat) (λ G. (typed c.now).tree (scope.Variable 0 nat ∷ G)) (typed c.now) S refl refl)))

pub motive_applied_planned : (old new : Tasks) (next : Next) (m : Bor Opened) (s : Span) (c : Bor Code) → m.now ≡ Applied s c.now
    → next ≡ Moved → Planned old new (task.Infer c ∷ task.Recurring recurring.FamilyOfNumbers ∷ [])
    → Plans old new (task.Recurring (recurring.Motive m)) next
motive_applied_planned old new next m s c own moved planned =
    let ts : List Task = task.Infer c ∷ task.Recurring recurring.FamilyOfNumbers ∷ [] in
    let weighs : opened_weight m.now ≡ 16 + weight_of c.now = ap opened_weight own ∙ applied_weighs s c.now in
    plans old new next (task.Recurring (recurring.Motive m)) ts moved planned (omega (arith, weighs))
    (λ b S M is. subst (Run b ts S)
    (ap (λ o. opened Large (WithVar (place S) nat) o S) (sym (motive_applied s c.now)) ∙ (ap (λ o. opened Large (WithVar (place S) nat) (motive_typed o) S) (sym own) ∙ sym is))
    (infer (typed c.now) S, refl, numbered b (typed c.now) S))

-- a term that has a type, in a book that has grown
pub of_type : (b c : Contents) (t : Typed) (H : Context) (a A B : Tree) → Extends b c → IsTyped b t H a A → A ≡ B → Says c t.term (Tm H a B)
of_type b c t H a A B grown is same = says_later b c t.term (Tm H a B) grown (subst (λ T. Says b t.term (Tm H a T)) same is.term_is)
