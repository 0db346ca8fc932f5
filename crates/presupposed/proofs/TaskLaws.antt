-- What tasks find is found where the book has grown; what finds a source.
use Rattle.std.proofs.Common.{◌≡◌, ◌<◌, ℕ, true, List, [], ◌∷◌, ◌++◌, refl, sym, ◌∙◌, ap, subst, arith, Option, Some, None, inl, inr}
use Rattle.std.specs.Prelude.{slice_get, option_and_then}
use Rattle.std.proofs.lemmas.Bool.{and_parts}
use Rattle.trees.specs.Trees.{Tree}
use Rattle.trees.specs.Judgements.{Context, Judgement, trees}
use Rattle.trees.specs.Language.{Ctx, Ty, TmEq}
use Rattle.trees.specs.Things.{meanings}
use Rattle.trees.proofs.Meanings.{kept-same, meanings-cons}
use Rattle.rows.proofs.OptionLaws.{one-some}
use Rattle.book.specs.Contents.{Contents}
use Rattle.book.specs.Shown.{book_concludes, book_means, Extends}
use Rattle.book.specs.declared.kernel.NodeId.{NodeId}
use Rattle.typed_nodes.specs.Typed.{Says}
use Rattle.presuppositions.specs.declared.source.Label.{Label}
use Rattle.presuppositions.specs.declared.source.Label.TheVariants as label
use Rattle.presuppositions.specs.declared.source.Source.{Source}
use Rattle.presuppositions.specs.declared.source.Source.TheVariants as source
use Rattle.presuppositions.specs.declared.source.Entry.{Entry}
use Rattle.presuppositions.specs.Behind.{behind, tree_views}
use Rattle.presuppositions.specs.Sources.{source_of}
use Rattle.presuppositions.specs.Sought.{is_none, is_sought, has_no_type, is_of_sides, is_of_parts, goes_on}
use Rattle.presupposed.specs.declared.memory.Memory.{Memory}
use Rattle.presupposed.specs.declared.memory.Question.{Question}
use Rattle.presupposed.specs.declared.tasks.Task.{Task}
use Rattle.presupposed.specs.declared.tasks.Task.TheVariants as task
use Rattle.presupposed.specs.Memory.{IsRemembered}
use Rattle.presupposed.specs.Asked.{IsOnTheWay, Stands, Unfolds}
use Rattle.presupposed.specs.Parts.{IsInSight}
use Rattle.presupposed.specs.Tasks.{asked, Awaits, DoAll, Does, Fills, place_of, tasks_for}
use Rattle.presupposed.specs.Walks.{Remembers}
use Rattle.presupposed.proofs.LabelLaws.{goes_further, goes_to_type, is_context, is_type}

module _ (old new : Contents) (grown : Extends old new) where
  pub stands_later : (q : Question) (J : Judgement) → Stands old q J → Stands new q J
  stands_later q J (K, says, e) = (K, grown.conclusions q.node.0 K says, e)

  said_later : (ks : List ℕ) (xs : List Judgement) → meanings (book_concludes old) ks ≡ Some xs → meanings (book_concludes new) ks ≡ Some xs
  said_later [] xs e = e
  said_later (k ∷ ks) xs e =
      let m = meanings-cons (book_concludes old) k ks xs e in
      rw (grown.conclusions k m.first m.first_is, said_later ks m.rest m.rest_is) (ap Some (sym m.whole))

  pub fills_later : (q : Question) (e : Entry) (few : List ℕ) (J : Judgement) → Fills old q e few J → Fills new q e few J
  fills_later q e few J f = record {
    stands = stands_later q J f.stands;
    made = f.made;
    made_is = grown.nodes q.node.0 f.made f.made_is;
    entry = f.entry;
    wants = f.wants;
    wants_are = said_later f.made.premises f.wants f.wants_are;
    sought = f.sought;
    all = f.all;
    all_are = f.all_are;
    within = f.within;
    named = f.named;
    named_are = said_later few f.named f.named_are;
    first = f.first;
  }

  unfolds_later : (node : NodeId) (G : Context) (a c A : Tree) → Unfolds old node G a c A → Unfolds new node G a c A
  unfolds_later node G a c A u = record {
    says = grown.conclusions node.0 (TmEq G a c A) u.says;
    made = u.made;
    made_is = grown.nodes node.0 u.made u.made_is;
    of = u.of;
  }

  awaits_later : (q : Question) (e : Entry) (few : List ℕ) (K J : Judgement) → Awaits old q e few K J → Awaits new q e few K J
  unfolding fills_later
  awaits_later q e few K J a = record { fills = fills_later q e few J a.fills; more = a.more; next = a.next }

  pub does_later : (top : Question) (t : Task) (K J : Judgement) → Does old top t K J → Does new top t K J
  does_later top (task.Take node) K J d = grown.conclusions node.0 J d
  does_later top (task.Ask q) K J (way, stands) = (way, stands_later q J stands)
  does_later top (task.Unfold node) K J (G, a, c, A, is, u, e) = (G, a, c, A, is, unfolds_later node G a c A u, e)
  does_later top (task.LastEntry l) K J d = d
  does_later top (task.PartIn q l) K J (G, T, is, way, stands, part, e) = (G, T, is, way, stands_later q (Ctx G) stands, part, e)
  does_later top (task.PartOf ty l) K J (G, T, is, says, part, e) = (G, T, is, grown.conclusions ty.0 (Ty G T) says, part, e)
  does_later top (task.Fill q e few) K J (way, awaits) = (way, awaits_later q e few K J awaits)

  pub do_all_later : (top : Question) (ts : List Task) (K J : Judgement) → DoAll old top ts K J → DoAll new top ts K J
  do_all_later top [] K J d = d
  do_all_later top (t ∷ ts) K J (I, does, rest) = (I, does_later top t K I does, do_all_later top ts I J rest)

  pub remembers_later : (memory : Memory) → Remembers old memory → Remembers new memory
  remembers_later memory h = λ q node e. let (J, stands, says) = h q node e in (J, stands_later q J stands, grown.conclusions node.0 J says)

-- with one answer more
pub remembers_one : (b : Contents) (q : Question) (node : NodeId) (J : Judgement) (old new : Memory) → Remembers b old → Stands b q J → Says b node J → IsRemembered q node old new → Remembers b new
remembers_one b q node J old new h stands says one = λ p n e. elim (one p n e) [
  | inl before ↦ h p n before
  | inr now ↦ (J, subst (λ r. Stands b r J) (sym now.0) stands, subst (λ m. Says b m J) (sym now.1) says)
]

-- what finds a source

way_on : (top q : Question) (premise : NodeId) (m : Label) → IsOnTheWay top q → premise.0 < q.node.0 → goes_on q.label m ≡ true → IsOnTheWay top (asked premise m)
way_on top q premise m way lt goes =
    let le = way.earlier in
    record { earlier = omega (arith, le, lt); goes = goes_further top.label q.label m way.goes goes }

untyped : (o : Option Judgement) → is_none o ≡ true → o ≡ None
untyped None e = refl
untyped (Some J) e = absurd (cc e)

behind_at : (wants : List Judgement) (k : ℕ) (P S : Judgement) (l : Label) → slice_get wants k ≡ Some P → option_and_then (behind l) (slice_get wants k) ≡ Some S → behind l P ≡ Some S
behind_at wants k P S l at e = sym (ap (option_and_then (behind l)) at) ∙ e

module _ (b : Contents) (top q : Question) (way : IsOnTheWay top q) (premise : NodeId) (lt : premise.0 < q.node.0) (wants : List Judgement) (P S : Judgement) (says : Says b premise P) (rest : List Task) (K J : Judgement) (goes : DoAll b top rest S J) where
  last_of : (m : Label) (C : Judgement) → behind label.Context P ≡ Some C → behind m C ≡ Some S → ((G : Context) → C ≡ Ctx G → IsInSight m G) → DoAll b top (task.Ask (asked premise label.Context) ∷ task.LastEntry m ∷ rest) K J
  last_of m C c s sight =
      let (G, is) = is_context P C c in
      (C, (way_on top q premise label.Context way lt refl, (P, says, c)), (S, (G, is, sight G is, ap (behind m) (sym is) ∙ s), goes))

  part_of : (m : Label) (C : Judgement) → behind label.Type P ≡ Some C → behind m C ≡ Some S → is_of_sides q.label ≡ true → is_of_parts m ≡ true → DoAll b top (task.Ask (asked premise label.Type) ∷ task.PartIn (asked premise label.Context) m ∷ rest) K J
  part_of m C c s side part =
      let (G, T, is, ctx) = is_type P C c in (
        C,
        (way_on top q premise label.Type way lt (goes_to_type q.label side), (P, says, c)),
        (S, (G, T, is, way_on top q premise label.Context way lt refl, (P, says, ctx), part, ap (behind m) (sym is) ∙ s), goes),
      )

  pub finds_source : (s : Source) → slice_get wants (place_of s) ≡ Some P → source_of trees tree_views wants s ≡ Some S → is_sought trees tree_views wants q.label s ≡ true → DoAll b top (tasks_for premise s ++ rest) K J
  finds_source (source.Premise k) at e h =
      let f : Some P ≡ Some S = sym at ∙ e in
      let same : P ≡ S = cc in
      (S, subst (Says b premise) same says, goes)
  finds_source (source.Behind k m) at e h = (S, (way_on top q premise m way lt h, (P, says, behind_at wants k P S m at e)), goes)
  finds_source (source.Further k label.Context label.Type) at e h =
      let o = one-some (behind label.Type) (option_and_then (behind label.Context) (slice_get wants k)) S e in
      last_of label.Type o.first (behind_at wants k P o.first label.Context at o.first_is) o.whole (λ G is. tt)
  finds_source (source.Further k label.Context label.Context) at e h =
      let o = one-some (behind label.Context) (option_and_then (behind label.Context) (slice_get wants k)) S e in
      let none = subst (λ x. has_no_type trees tree_views x ≡ true) o.first_is h in
      last_of label.Context o.first (behind_at wants k P o.first label.Context at o.first_is) o.whole
      (λ G is. ap (behind label.Type) (sym is) ∙ untyped (behind label.Type o.first) none)
  finds_source (source.Further k label.Context _) at e h = absurd (cc h)
  finds_source (source.Further k label.Type m) at e h =
      let o = one-some (behind m) (option_and_then (behind label.Type) (slice_get wants k)) S e in
      let both = and_parts (is_of_sides q.label) (is_of_parts m) h in
      part_of m o.first (behind_at wants k P o.first label.Type at o.first_is) o.whole both.0 both.1
  finds_source (source.Further k _ m) at e h = absurd (cc h)

pub grown_same : (b : Contents) → Extends b b
grown_same b = record {
  rows = kept-same (book_means b);
  nodes = λ k node e. e;
  conclusions = λ k J e. e;
  marks = λ mark is. is;
}

pub other_task : (premise : NodeId) (k : ℕ) (l m : Label) → (l ≡ label.Context → ⊥) → tasks_for premise (source.Further k l m) ≡ task.Ask (asked premise l) ∷ task.PartIn (asked premise label.Context) m ∷ []
other_task premise k label.Context m other = absurd (other refl)
other_task premise k _ m other = refl
