-- What one step of a search does to what it leads to, and to what is to be done.
use Rattle.std.proofs.Common.{◌≡◌, ◌+◌, ◌*◌, ◌-◌, ◌<◌, ◌≤◌, ◌++◌, ◌||◌, ℕ, zero, suc, Bool, true, false, List, [], ◌∷◌, length, reverse, refl, sym, ◌∙◌, ap, subst, arith, Some}
use Rattle.std.specs.Prelude.{slice_get, slice_index_or}
use Rattle.theory.specs.declared.rule.RuleName.{RuleName}
use Rattle.trees.specs.Trees.{Tree}
use Rattle.trees.specs.Judgements.{Context, Judgement}
use Rattle.trees.specs.Language.{Ctx, Tm, TmEq}
use Rattle.literal_types.proofs.StepLaws.{said_at}
use Rattle.patterns.specs.Values.{parts_of, judgement_of}
use Rattle.recipes.specs.Statements.{pattern_of}
use Rattle.book.specs.Contents.{Contents}
use Rattle.book.specs.Nodes.{Node}
use Rattle.book.specs.Right.{IsUse, IsMadeBy}
use Rattle.book.specs.Shown.{book_concludes, book_means, book_nodes, Extends}
use Rattle.book.specs.declared.few.RuleUse.{RuleUse}
use Rattle.book.specs.declared.kernel.NodeId.{NodeId}
use Rattle.typed_nodes.specs.Typed.{Says}
use Rattle.typed_nodes.proofs.CallLaws.{all_said}
use Rattle.kan_calls.specs.Unfoldings.{IsUseIn}
use Rattle.glue_entries.specs.Statements.{equiv_tycong_statement}
use Rattle.presuppositions.specs.declared.source.Label.TheVariants as label
use Rattle.presuppositions.specs.declared.source.Source.{Source}
use Rattle.presuppositions.specs.declared.source.Entry.{Entry}
use Rattle.presuppositions.specs.Behind.{behind}
use Rattle.presuppositions.specs.Entries.{IsEntry, has_none, is_unfolded}
use Rattle.presupposed.specs.declared.memory.Memory.{Memory}
use Rattle.presupposed.specs.declared.memory.Question.{Question}
use Rattle.presupposed.specs.declared.tasks.Task.{Task}
use Rattle.presupposed.specs.declared.tasks.Task.TheVariants as task
use Rattle.presupposed.specs.declared.walk.Search.{Search}
use Rattle.presupposed.specs.Memory.{IsRemembered, remembered}
use Rattle.presupposed.specs.Asked.{IsOnTheWay, Stands, Unfolds}
use Rattle.presupposed.specs.Tasks.{asked, DoAll, Fills, label_weight, place_of, task_weight, tasks_for, weight, work}
use Rattle.presupposed.specs.Walks.{Goes, Leads}
use Rattle.presupposed.proofs.FillLaws.{fills_next, fills_start, made_use, gives_pattern}
use Rattle.presupposed.proofs.LabelLaws.{asked-kind, pattern_has}
use Rattle.presupposed.proofs.LoopLaws.{one_answer}
use Rattle.presupposed.proofs.RuleLaws.{all_shown, unfolded-equation, unfolded-right}
use Rattle.presupposed.proofs.TaskLaws.{do_all_later, finds_source, remembers_later, remembers_one, stands_later}
use Rattle.presupposed.proofs.WeightLaws.{fill_work, source_work, work-append}

pub at_index : {A : Type 0} (xs : List A) (i : ℕ) (d : A) → i < length xs → slice_get xs i ≡ Some (slice_index_or xs i d)
at_index [] i d lt = absurd (omega (arith, lt))
at_index (x ∷ xs) zero d lt = refl
at_index (x ∷ xs) (suc i) d lt = at_index xs i d (omega (arith, lt))

-- what a search led to it leads to with a node that answers one question more
pub found_one : (old b : Contents) (search : Search) (memory : Memory) (q top : Question) (node : NodeId) (I J : Judgement) → Extends old b → Leads old search top I J → Stands old q I → Says b node I → IsRemembered q node search.memory memory → Goes b (record { alloc = search.alloc; tasks = search.tasks; memory = memory; found = node }) top J
found_one old b search memory q top node I J grown leads stands says one = (
  I,
  says,
  record {
    remembers = remembers_one b q node I search.memory memory (remembers_later old b grown search.memory leads.remembers) (stands_later old b grown q I stands) says one;
    last = I;
    says = says;
    leads = do_all_later old b grown top (reverse search.tasks.items) I J leads.leads;
  },
)

-- and with a node that was found
pub found_same : (old b : Contents) (search : Search) (top : Question) (node : NodeId) (I J : Judgement) → Extends old b → Leads old search top I J → Says b node I → Goes b (record { alloc = search.alloc; tasks = search.tasks; memory = search.memory; found = node }) top J
found_same old b search top node I J grown leads says = (
  I,
  says,
  record {
    remembers = remembers_later old b grown search.memory leads.remembers;
    last = I;
    says = says;
    leads = do_all_later old b grown top (reverse search.tasks.items) I J leads.leads;
  },
)

pub found_before : (b : Contents) (search : Search) (q top : Question) (node : NodeId) (I J : Judgement) → Leads b search top I J → Stands b q I → remembered search.memory q ≡ Some node → Says b node I
found_before b search q top node I J leads stands e =
    let (K, also, says) = leads.remembers q node e in
    subst (Says b node) (one_answer b q K I also stands) says

-- a source is asked for
module _ (b : Contents) (search : Search) (top q : Question) (e : Entry) (few : List ℕ) (s : Source) (premise : NodeId) where
  pub asks_source : (tasks : List Task) (I J : Judgement) (leads : Leads b search top I J) → IsOnTheWay top q → Fills b q e few I → slice_get e.sources.now (length few) ≡ Some s → ((made : Node) → book_nodes b q.node.0 ≡ Some made → slice_get made.premises (place_of s) ≡ Some premise.0) → premise.0 < q.node.0 → reverse tasks ≡ tasks_for premise s ++ task.Fill q e few ∷ reverse search.tasks.items → DoAll b top (reverse tasks) leads.last J
  asks_source tasks I J leads way f at there lt order =
      let n = fills_next b q e few s I f at in
      let g = n.fills in
      let says : Says b premise n.from = said_at (book_concludes b) g.made.premises g.wants (place_of s) premise.0 n.from g.wants_are (there g.made g.made_is) n.from_is in
      subst (λ ts. DoAll b top ts leads.last J) (sym order)
      (finds_source b top q way premise lt g.wants n.from n.judgement says (task.Fill q e few ∷ reverse search.tasks.items) leads.last J (I, (way, n.awaits), leads.leads) s n.from_is n.is n.sought)

  pub asks_less : (tasks : List Task) → length few ≤ 16 → premise.0 < q.node.0 → reverse tasks ≡ tasks_for premise s ++ task.Fill q e few ∷ reverse search.tasks.items → work (reverse tasks) < (17 - length few) * (3 * weight q.node) + 1 + work (reverse search.tasks.items)
  asks_less tasks le lt order =
      let w = source_work premise q.node s lt in
      let sum = ap work order ∙ work-append (tasks_for premise s) (task.Fill q e few ∷ reverse search.tasks.items) in
      let f = fill_work q (length few) (work (tasks_for premise s)) (work (reverse search.tasks.items)) le w in
      omega (arith, sum, f)

-- an entry begins
pub begins : (b : Contents) (q : Question) (e : Entry) (J : Judgement) (rule : RuleName) (parts premises : List ℕ) → Stands b q J → IsMadeBy rule parts premises (book_nodes b q.node.0) → ((K : Judgement) → book_concludes b q.node.0 ≡ Some K → IsUse (book_means b) (book_concludes b) rule parts premises K) → IsEntry (equiv_tycong_statement ∷ []) rule q.label e.sources.now e.rows.now e.last → Fills b q e [] J
begins b q e J rule parts premises stands by use_is entry =
    fills_start b q e J by.node stands by.is (made_use b q.node by.node rule parts premises stands.0 by.is by (use_is stands.0 stands.1))
    (subst (λ r. IsEntry (equiv_tycong_statement ∷ []) r q.label e.sources.now e.rows.now e.last) (sym by.rule_is) entry)

or-false : (x y : Bool) → x ≡ false → (x || y) ≡ true → y ≡ true
or-false true y e f = absurd (cc e)
or-false false y e f = f

-- where there is no entry, a right side is unfolded
pub unfolds : (b : Contents) (top q : Question) (J : Judgement) (rule : RuleName) (parts premises : List ℕ) → Stands b q J → IsOnTheWay top q → IsMadeBy rule parts premises (book_nodes b q.node.0) → ((K : Judgement) → book_concludes b q.node.0 ≡ Some K → IsUse (book_means b) (book_concludes b) rule parts premises K) → has_none rule q.label ≡ true → is_unfolded rule q.label ≡ true
unfolds b top q J rule parts premises stands way by use_is none =
    let u = use_is stands.0 stands.1 in
    let v = parts_of u.things in
    let gives : stands.0 ≡ judgement_of v (pattern_of rule).gives = gives_pattern rule u.things u.judgements stands.0 u.instance in
    let has = pattern_has v (pattern_of rule).gives q.label J (all_shown rule) (asked-kind top.label q.label way.goes) (ap (behind q.label) (sym gives) ∙ stands.2) in
    or-false _ (is_unfolded rule q.label) has none

-- so the node concludes an equation of terms
pub unfolds_equation : (b : Contents) (q : Question) (J : Judgement) (rule : RuleName) (parts premises : List ℕ) (stands : Stands b q J) (by : IsMadeBy rule parts premises (book_nodes b q.node.0)) → IsUse (book_means b) (book_concludes b) rule parts premises stands.0 → is_unfolded rule q.label ≡ true → (G : Context) × (a c A : Tree) × Unfolds b q.node G a c A × (J ≡ Tm G c A)
unfolds_equation b q J rule parts premises stands by u e =
    let right = unfolded-right rule q.label e in
    let of = subst (λ l. is_unfolded rule l ≡ true) right e in
    let (G, a, c, A, value) = unfolded-equation (parts_of u.things) rule of in
    let gives : stands.0 ≡ judgement_of (parts_of u.things) (pattern_of rule).gives = gives_pattern rule u.things u.judgements stands.0 u.instance in
    let is : stands.0 ≡ TmEq G a c A = gives ∙ value in
    let there : Some (Tm G c A) ≡ Some J = subst (λ K. behind label.Right K ≡ Some J) is (subst (λ l. behind l stands.0 ≡ Some J) right stands.2) in
    let same : Tm G c A ≡ J = cc in (
      G,
      a,
      c,
      A,
      record { says = subst (Says b q.node) is stands.1; made = by.node; made_is = by.is; of = subst (λ r. is_unfolded r label.Right ≡ true) (sym by.rule_is) of },
      sym same,
    )

-- a right side is asked for in its context
pub asks_context : (b : Contents) (search : Search) (top q : Question) (tasks : List Task) (I J : Judgement) (leads : Leads b search top I J) → IsOnTheWay top q → (G : Context) (a c A : Tree) → Unfolds b q.node G a c A → I ≡ Tm G c A → reverse tasks ≡ task.Ask (asked q.node label.Context) ∷ task.Unfold q.node ∷ reverse search.tasks.items → DoAll b top (reverse tasks) leads.last J
asks_context b search top q tasks I J leads way G a c A u is order =
    let context : IsOnTheWay top (asked q.node label.Context) = record { earlier = way.earlier; goes = refl } in
    subst (λ ts. DoAll b top ts leads.last J) (sym order) (Ctx G, (context, (TmEq G a c A, u.says, refl)), (I, (G, a, c, A, refl, u, is), leads.leads))

pub asks_context_less : (search : Search) (q : Question) (tasks : List Task) → q.label ≡ label.Right → reverse tasks ≡ task.Ask (asked q.node label.Context) ∷ task.Unfold q.node ∷ reverse search.tasks.items → work (reverse tasks) < task_weight (task.Ask q) + work (reverse search.tasks.items)
asks_context_less search q tasks right order =
    let sum : work (reverse tasks) ≡ 64 * weight q.node + 0 + (1 + work (reverse search.tasks.items)) = ap work order in
    let more : label_weight q.label ≡ 2 = ap label_weight right in
    omega (arith, sum, more)

-- what a step that unfolds is, and what its right side is
pub unfolded_use : (b : Contents) (ctx node : NodeId) (step : RuleUse) (G : Context) (a c A : Tree) → IsUse (book_means b) (book_concludes b) step.rule step.parts step.premises (TmEq G a c A) → Says b ctx (Ctx G) → IsUseIn b ctx step (TmEq G a c A)
unfolded_use b ctx node step G a c A u says = record {
  use_is = u;
  context_is = all_said (book_concludes b) (ctx.0 ∷ []) (Ctx G ∷ []) (says, tt);
}

pub unfolded_rule : (b : Contents) (node : NodeId) (step : RuleUse) (G : Context) (a c A : Tree) → Unfolds b node G a c A → IsMadeBy step.rule step.parts step.premises (book_nodes b node.0) → is_unfolded step.rule label.Right ≡ true
unfolded_rule b node step G a c A u by =
    let e : Some by.node ≡ Some u.made = sym by.is ∙ u.made_is in
    let same : by.node ≡ u.made = cc in
    subst (λ r. is_unfolded r label.Right ≡ true) (sym (ap (λ n. n.rule) same) ∙ by.rule_is) u.of
