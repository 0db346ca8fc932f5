-- What is said of a checker over a book is said of it where the book has grown.
use Rattle.std.proofs.Common.{◌++◌, ℕ, List, [], ◌∷◌, Option, Some, None, subst}
use Rattle.std.specs.List.{AllZip}
use Rattle.trees.specs.Language.{Ty, Tm}
use Rattle.trees.specs.Judgements.{Context}
use Rattle.trees.specs.Trees.{Tree}
use Rattle.translation.specs.Terms.{pathp}
use Rattle.translation.specs.Translated.{Stated}
use Rattle.book.specs.Contents.{Contents}
use Rattle.book.specs.Shown.{Extends}
use Rattle.direct.specs.Known.{Known, Variable, Interval, Definition}
use Rattle.numbered_scope.specs.declared.numbered.Numbered.{Numbered}
use Rattle.typed_nodes.specs.Typed.{Says}
use Rattle.typed_nodes.proofs.GrowthLaws.{says_later, type_at_later, typed_later, family_later}
use Rattle.typed_contexts.proofs.GrowthLaws.{place_later}
use Rattle.typing_steps.specs.declared.state.Root.{Root}
use Rattle.typing_steps.specs.declared.state.InScope.{InScope}
use Rattle.typing_steps.specs.declared.state.CheckState.{CheckState}
use Rattle.typing_tasks.specs.declared.tasks.Task.{Task}
use Rattle.typing_tasks.specs.declared.tasks.Task.TheVariants as task
use Rattle.typing_tasks.specs.declared.tasks.Binding.{Binding}
use Rattle.typing_tasks.specs.declared.tasks.Binding.TheVariants as binding
use Rattle.typing_tasks.specs.declared.tasks.Pairing.{Pairing}
use Rattle.typing_tasks.specs.declared.tasks.Pairing.TheVariants as pairing
use Rattle.typing_tasks.specs.declared.tasks.Eliminating.{Eliminating}
use Rattle.typing_tasks.specs.declared.tasks.Eliminating.TheVariants as eliminating
use Rattle.typing_tasks.specs.declared.tasks.Comparing.{Comparing}
use Rattle.typing_tasks.specs.declared.tasks.Comparing.TheVariants as comparing
use Rattle.typing_tasks.specs.States.{State, place, place_of}
use Rattle.typing_tasks.specs.Tasks.{Does, DoesBinding, DoesPairing, DoesEliminating, DoesComparing, Run, Then}
use Rattle.typing_steps.specs.Steps.{IsInferred, IsRoot, IsStated, AreInScope, IsState}
use Rattle.typing_steps.proofs.Stacks.{grown}

module _ {b c : Contents} (e : Extends b c) where
  -- states

  root_later : (r : Root) (H : Context) (A t : Tree) → IsRoot b r H A t → IsRoot c r H A t
  root_later r H A t (ty, body) = (says_later b c r.ty (Ty H A) e ty, says_later b c r.body (Tm H t A) e body)

  roots_later : (rs : List Root) (ds : List (Stated ℕ)) → AllZip (IsStated b) rs ds → AllZip (IsStated c) rs ds
  roots_later [] [] h = h
  roots_later [] (d ∷ ds) h = absurd h
  roots_later (r ∷ rs) [] h = absurd h
  roots_later (r ∷ rs) (d ∷ ds) h = (root_later r d.context d.type d.body h.0, roots_later rs ds h.1)

  scope_later : (items : List (Numbered InScope)) (G : Known) → AreInScope b items G → AreInScope c items G
  scope_later items [] h = h
  scope_later items (Variable A ∷ G) h = scope_later items G h
  scope_later items (Interval ∷ G) h = scope_later items G h
  scope_later items (Definition n t A ∷ G) (rest, d, is, number, depth, root, more) =
      (rest, d, is, number, depth, root_later d.value.root (place_of G) A t root, scope_later rest G more)

  pub state_later : (x : CheckState) (S : State) → IsState b x S → IsState c x S
  state_later x S s = record {
    at = place_later b c x.places (place S) e s.at;
    scope = scope_later x.scope.items.items S.known s.scope;
    nodes = grown (Says b) (Says c) (λ n J. says_later b c n J e) x.nodes.items S.found s.nodes;
    heads = grown (IsInferred b) (IsInferred c) (λ t r. typed_later b c t r.context r.term r.type e) x.heads.items S.inferred s.heads;
    roots = roots_later x.roots.items S.stated s.roots;
  }

  -- tasks

  binding_later : (t : Binding) (S : State) (M : Option State) → DoesBinding b t S M → DoesBinding c t S M
  binding_later (binding.Under bs i) S M h = h
  binding_later (binding.Over n bs i) S M h = h
  binding_later (binding.Close i) S M h = h
  binding_later (binding.Lambda bs x ty) S M (W, at, is) = (W, type_at_later b c ty (place S) W e at, is)
  binding_later (binding.Take n bs x ty) S M (A, W, js, found, at, is) = (A, W, js, found, type_at_later b c ty (place S) W e at, is)
  binding_later binding.CloseFunction S M h = h

  pairing_later : (t : Pairing) (S : State) (M : Option State) → DoesPairing b t S M → DoesPairing c t S M
  pairing_later (pairing.Components cs ty) S M (W, at, is) = (W, type_at_later b c ty (place S) W e at, is)
  pairing_later (pairing.Second cs f) S M (A, B, a, js, fam, found, is) = (A, B, a, js, family_later b c f (place S) A B e fam, found, is)
  pairing_later (pairing.Pair f) S M (A, B, a, t, js, fam, found, is) = (A, B, a, t, js, family_later b c f (place S) A B e fam, found, is)
  pairing_later (pairing.Names n x ty) S M (W, at, is) = (W, type_at_later b c ty (place S) W e at, is)
  pairing_later (pairing.CloseName ty) S M (G, L, u, v, t, js, at, known, found, is) = (G, L, u, v, t, js, type_at_later b c ty (place_of G) (pathp L u v) e at, known, found, is)

  eliminating_later : (t : Eliminating) (S : State) (M : Option State) → DoesEliminating b t S M → DoesEliminating c t S M
  eliminating_later (eliminating.Elements es) S M h = h
  eliminating_later (eliminating.Apply f) S M (A, B, t, a, js, rs, fam, last, found, is) = (A, B, t, a, js, rs, family_later b c f (place S) A B e fam, last, found, is)
  eliminating_later (eliminating.Project ps) S M h = h
  eliminating_later (eliminating.Number x) S M h = h
  eliminating_later eliminating.Successor S M h = h

  comparing_later : (t : Comparing) (S : State) (M : Option State) → DoesComparing b t S M → DoesComparing c t S M
  comparing_later (comparing.At ty) S M (a, A, W, rs, last, at, is) = (a, A, W, rs, last, type_at_later b c ty (place S) W e at, is)
  comparing_later comparing.IsSmall S M h = h
  comparing_later comparing.Small S M h = h

  pub does_later : (t : Task) (S : State) (M : Option State) → Does b t S M → Does c t S M
  does_later (task.Infer x) S M h = h
  does_later (task.Check x ty) S M (W, at, is) = (W, type_at_later b c ty (place S) W e at, is)
  does_later (task.Form x sort) S M h = h
  does_later (task.Defining t) S M h = h
  does_later (task.Binding t) S M h = binding_later t S M h
  does_later (task.Pairing t) S M h = pairing_later t S M h
  does_later (task.Eliminating t) S M h = eliminating_later t S M h
  does_later (task.Recurring t) S M h = h
  does_later (task.Lining t) S M h = h
  does_later (task.Comparing t) S M h = comparing_later t S M h

  pub run_later : (ts : List Task) (S : State) (R : Option State) → Run b ts S R → Run c ts S R
  run_later [] S R h = h
  run_later (t ∷ ts) S R (M, does, then) = (M, does_later t S M does, elim M as (λ N. Then (Run b ts) N R → Then (Run c ts) N R) [ None ↦ λ h. h | Some T ↦ run_later ts T R ] then)

  pub then_later : (ts : List Task) (M R : Option State) → Then (Run b ts) M R → Then (Run c ts) M R
  then_later ts None R h = h
  then_later ts (Some S) R h = run_later ts S R h

-- tasks one after another

pub run_append : (b : Contents) (ts us : List Task) (S : State) (M R : Option State) → Run b ts S M → Then (Run b us) M R → Run b (ts ++ us) S R
run_append b [] us S M R e then = subst (λ N. Then (Run b us) N R) e then
run_append b (t ∷ ts) us S M R (N, does, more) then = (
  N,
  does,
  elim N as (λ K. Then (Run b ts) K M → Then (Run b (ts ++ us)) K R) [
    | None ↦ λ e. subst (λ K. Then (Run b us) K R) e then
    | Some T ↦ λ run. run_append b ts us T M R run then
  ] more,
)
