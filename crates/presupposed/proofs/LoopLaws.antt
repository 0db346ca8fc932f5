-- A search goes on to what it is for.
use Rattle.std.proofs.Common.{◌≡◌, ◌+◌, ◌<◌, ◌++◌, [], ◌∷◌, reverse, refl, sym, ◌∙◌, ap, subst, arith, Some, None}
use Rattle.trees.specs.Judgements.{Judgement}
use Rattle.book.specs.Contents.{Contents}
use Rattle.book.specs.Shown.{Extends}
use Rattle.typed_nodes.specs.Typed.{Says}
use Rattle.literal_types.proofs.WaitLaws.{pushed_one}
use Rattle.presuppositions.specs.Behind.{behind}
use Rattle.presupposed.specs.declared.memory.Question.{Question}
use Rattle.presupposed.specs.declared.tasks.Task.{Task}
use Rattle.presupposed.specs.declared.tasks.Task.TheVariants as task
use Rattle.presupposed.specs.declared.walk.Search.{Search}
use Rattle.presupposed.specs.Memory.{remembered}
use Rattle.presupposed.specs.Asked.{IsOnTheWay, Stands}
use Rattle.presupposed.specs.Tasks.{DoAll, task_weight, work}
use Rattle.presupposed.specs.Walks.{DoesNext, Goes, Leads, Remembers, to_do}

-- one judgement answers a question
pub one_answer : (b : Contents) (q : Question) (I J : Judgement) → Stands b q I → Stands b q J → I ≡ J
one_answer b q I J (K, says, e) (L, said, f) =
    let g : Some K ≡ Some L = sym says ∙ said in
    let same : K ≡ L = cc in
    let h : Some I ≡ Some J = sym e ∙ ap (behind q.label) same ∙ f in
    cc

-- the search goes to what answers the question
pub record Going (old b : Contents) (search : Search) (q : Question) : Type 0 where
  pub extends : Extends old b
  pub goes : (J : Judgement) → Stands old q J → Goes b search q J

-- the next task, and what is left
pub next_task : (b : Contents) (search left : Search) (q : Question) (t : Task) (J : Judgement) → search.tasks.items ≡ left.tasks.items ++ t ∷ [] → search.memory ≡ left.memory → search.found ≡ left.found → Goes b search q J → (I : Judgement) × Leads b left q I J × DoesNext b left q t I
next_task b search left q t J items memory found (K, says, leads) =
    let order = pushed_one search.tasks.items left.tasks.items t items in
    let (I, does, rest) = subst (λ ts. DoAll b q ts K J) order leads.leads in (
      I,
      record {
        remembers = subst (Remembers b) memory leads.remembers;
        last = leads.last;
        says = subst (λ n. Says b n leads.last) found leads.says;
        leads = rest;
      },
      (K, subst (λ n. Says b n K) found says, does),
    )

-- nothing is left
pub all_found : (b : Contents) (search : Search) (q : Question) (J : Judgement) → reverse search.tasks.items ≡ [] → Goes b search q J → Says b search.found J
all_found b search q J none (K, says, leads) =
    let same : K ≡ J = subst (λ ts. DoAll b q ts K J) none leads.leads in
    subst (Says b search.found) same says

-- it begins with the question
pub begun : (b : Contents) (search : Search) (q : Question) → search.tasks.items ≡ [] ++ task.Ask q ∷ [] → search.found ≡ q.node → ((p : Question) → remembered search.memory p ≡ None) → IsOnTheWay q q → (J : Judgement) → Stands b q J → Goes b search q J
begun b search q items found none way J (K, says, e) =
    let at = subst (λ n. Says b n K) (sym found) says in (
      K,
      at,
      record {
        remembers = λ p node f. let g : None ≡ Some node = sym (none p) ∙ f in absurd (cc g);
        last = K;
        says = at;
        leads = subst (λ ts. DoAll b q ts K J) (sym (pushed_one search.tasks.items [] (task.Ask q) items)) (J, (way, (K, says, e)), refl);
      },
    )

-- the next task is less
pub next_less : (search left new : Search) (t : Task) → search.tasks.items ≡ left.tasks.items ++ t ∷ [] → to_do new < task_weight t + to_do left → to_do new < to_do search
next_less search left new t items less =
    let order = ap work (pushed_one search.tasks.items left.tasks.items t items) in
    omega (arith, order, less)
