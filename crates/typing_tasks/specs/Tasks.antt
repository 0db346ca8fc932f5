-- What a task does over a book: which state it takes, and what it makes of it.
use Rattle.std.specs.Prelude.{◌≡◌, ◌&&◌, List, [], ◌∷◌, map, Option, None, Some}
use Rattle.std.specs.Option.{option_map}
use Rattle.trees.specs.Trees.{Tree}
use Rattle.trees.specs.Judgements.{Judgement, WithVar, WithName}
use Rattle.trees.specs.Language.{Ty, Tm}
use Rattle.translation.specs.Terms.{universe, nat, zero, suc, pi, sig, pathp, lam, app, pair, plam}
use Rattle.translation.specs.Terms.{papp, natrec, comp, f0, empty, i0, i1, lifted, innermost}
use Rattle.translation.specs.Forms.{apply_all, project}
use Rattle.book.specs.Contents.{Contents}
use Rattle.direct.specs.Known.{Known, Variable, Interval, Definition, value_at}
use Rattle.direct.specs.Typings.{Typing, BinderTyping, where_true, holds, applied, projected}
use Rattle.direct.specs.Literal.{at, same_tree, path_type_of, motive_step}
use Rattle.typed_nodes.specs.Typed.{IsTypeAt, IsFamily}
use Rattle.typing_tasks.specs.declared.tasks.Task.{Task}
use Rattle.typing_tasks.specs.declared.tasks.Task.TheVariants.{Infer, Check, Form}
use Rattle.typing_tasks.specs.declared.tasks.Task.TheVariants.{Defining as DefiningOf}
use Rattle.typing_tasks.specs.declared.tasks.Task.TheVariants.{Binding as BindingOf}
use Rattle.typing_tasks.specs.declared.tasks.Task.TheVariants.{Pairing as PairingOf}
use Rattle.typing_tasks.specs.declared.tasks.Task.TheVariants.{Eliminating as EliminatingOf}
use Rattle.typing_tasks.specs.declared.tasks.Task.TheVariants.{Recurring as RecurringOf}
use Rattle.typing_tasks.specs.declared.tasks.Task.TheVariants.{Lining as LiningOf}
use Rattle.typing_tasks.specs.declared.tasks.Task.TheVariants.{Comparing as ComparingOf}
use Rattle.typing_tasks.specs.declared.tasks.Defining.{Defining}
use Rattle.typing_tasks.specs.declared.tasks.Defining.TheVariants as defining
use Rattle.typing_tasks.specs.declared.tasks.Binding.{Binding}
use Rattle.typing_tasks.specs.declared.tasks.Binding.TheVariants as binding
use Rattle.typing_tasks.specs.declared.tasks.Pairing.{Pairing}
use Rattle.typing_tasks.specs.declared.tasks.Pairing.TheVariants as pairing
use Rattle.typing_tasks.specs.declared.tasks.Eliminating.{Eliminating}
use Rattle.typing_tasks.specs.declared.tasks.Eliminating.TheVariants as eliminating
use Rattle.typing_tasks.specs.declared.tasks.Recurring.{Recurring}
use Rattle.typing_tasks.specs.declared.tasks.Recurring.TheVariants as recurring
use Rattle.typing_tasks.specs.declared.tasks.Lining.{Lining}
use Rattle.typing_tasks.specs.declared.tasks.Lining.TheVariants as lining
use Rattle.typing_tasks.specs.declared.tasks.Comparing.{Comparing}
use Rattle.typing_tasks.specs.declared.tasks.Comparing.TheVariants as comparing
use Rattle.typing_tasks.specs.declared.tasks.Inner.{Inner}
use Rattle.typing_tasks.specs.declared.tasks.Inner.TheVariants.{Family, Function}
use Rattle.typing_tasks.specs.declared.tasks.Inner.TheVariants.{Definition as DefinitionOf}
use Rattle.typing_tasks.specs.declared.tasks.Closing.{Closing}
use Rattle.typing_tasks.specs.declared.tasks.Closing.TheVariants as closing
use Rattle.typing_tasks.specs.declared.tasks.Sort.{Sort}
use Rattle.typing_tasks.specs.declared.tasks.Former.{Former}
use Rattle.typing_tasks.specs.declared.tasks.Sort.TheVariants.{Large}
use Rattle.typing_tasks.specs.States.{State, Inferred, place, place_of, with_known, with_found}
use Rattle.typing_tasks.specs.States.{with_inferred, finding, inferring, stating, under, after}
use Rattle.typing_tasks.specs.States.{forgetting}
use Rattle.typing_tasks.specs.Outcomes.{typed, line_typed, motive_typed, binder_typed}
use Rattle.typing_tasks.specs.Outcomes.{element_typed}
use Rattle.typing_tasks.specs.Outcomes.{given, former_of, family, function, path_function, tuple_of}
use Rattle.typing_tasks.specs.Outcomes.{type_of, body_of, element_of, infer, check, formed, form}
use Rattle.typing_tasks.specs.Outcomes.{block, statement, opened}

-- the term that was inferred last, with its type
abbrev pub LastInferred : State → Tree → Tree → List Inferred → Type 0
LastInferred S a A rs = S.inferred ≡ record { context = place S; term = a; type = A } ∷ rs

-- definitions

abbrev pub DoesDefining : Defining → State → Option State → Type 0
DoesDefining (defining.Block ds) S M = M ≡ block ds.now S
DoesDefining (defining.Body c) S M =
    (A : Tree) × (js : List Judgement) × (S.found ≡ Ty (place S) A ∷ js)
    × (M ≡ check (typed c.now) A S)
DoesDefining (defining.Close n) S M =
    (A t : Tree) × (js : List Judgement)
    × (S.found ≡ Tm (place S) t A ∷ Ty (place S) A ∷ js)
    × (M ≡ Some (stating n A t (with_found js S)))
DoesDefining (defining.End n) S M =
    (G : Known) × (forgetting n S.known ≡ Some G) × (M ≡ Some (with_known G S))

-- binders

abbrev pub sort_of : Inner → Sort
sort_of (Family f sort c) = sort
sort_of (Function c) = Large
sort_of (DefinitionOf d) = Large

abbrev pub closing_of : Inner → Closing
closing_of (Family f sort c) = closing.Family f sort
closing_of (Function c) = closing.Function
closing_of (DefinitionOf d) = closing.Definition

-- what stands under these binders, with what they form of it
abbrev pub under_binders : Inner → List BinderTyping → State → Option State
under_binders (Family f sort c) bs S = form sort (family f bs (typed c.now)) S
under_binders (Function c) bs S = infer (function bs (typed c.now)) S
under_binders (DefinitionOf d) bs S =
    statement bs (typed (type_of d.now)) (typed (body_of d.now)) S

-- what is formed over the last variable

abbrev pub ClosesFamily : Former → Sort → State → Option State → Type 0
ClosesFamily f sort S M =
    (G : Known) × (A B : Tree) × (js : List Judgement) × (S.known ≡ Variable A ∷ G)
    × (S.found ≡ formed sort (place S) B ∷ formed sort (place_of G) A ∷ js)
    × (M ≡ Some (with_known G (with_found (formed sort (place_of G) (former_of f A B) ∷ js) S)))

abbrev pub ClosesInferred : State → Option State → Type 0
ClosesInferred S M =
    (G : Known) × (A b B : Tree) × (js : List Judgement) × (rs : List Inferred)
    × (S.known ≡ Variable A ∷ G)
    × (S.found ≡ Ty (place_of G) A ∷ js) × LastInferred S b B rs
    × (M ≡ Some (inferring (lam A b) (pi A B)
    (with_known G (with_found js (with_inferred rs S)))))

abbrev pub ClosesStated : State → Option State → Type 0
ClosesStated S M =
    (G : Known) × (A b B : Tree) × (js : List Judgement) × (S.known ≡ Variable A ∷ G)
    × (S.found ≡ Tm (place S) b B ∷ Ty (place S) B ∷ Ty (place_of G) A ∷ js)
    × (M ≡ Some (with_known G (with_found
    (Tm (place_of G) (lam A b) (pi A B) ∷ Ty (place_of G) (pi A B) ∷ js) S)))

abbrev pub Closes : Closing → State → Option State → Type 0
Closes (closing.Family f sort) S M = ClosesFamily f sort S M
Closes closing.Function S M = ClosesInferred S M
Closes closing.Definition S M = ClosesStated S M

abbrev pub DoesBinding : Contents → Binding → State → Option State → Type 0
DoesBinding b (binding.Under bs i) S M = M ≡ under_binders i (map binder_typed bs.now) S
DoesBinding b (binding.Over n bs i) S M =
    (A : Tree) × (js : List Judgement) × (S.found ≡ formed (sort_of i) (place S) A ∷ js)
    × (M ≡ under_binders i (given n A ∷ map binder_typed bs.now) (with_found js S))
DoesBinding b (binding.Close i) S M = Closes i S M
DoesBinding b (binding.Lambda bs c ty) S M =
    (W : Tree) × IsTypeAt b ty (place S) W
    × (M ≡ check (function (map binder_typed bs.now) (typed c.now)) W S)
DoesBinding b (binding.Take n bs c ty) S M =
    (A W : Tree) × (js : List Judgement) × (S.found ≡ Ty (place S) A ∷ js)
    × IsTypeAt b ty (place S) W
    × (M ≡ check (function (given n A ∷ map binder_typed bs.now) (typed c.now)) W
    (with_found js S))
DoesBinding b binding.CloseFunction S M =
    (G : Known) × (A t B : Tree) × (js : List Judgement) × (S.known ≡ Variable A ∷ G)
    × (S.found ≡ Tm (place S) t B ∷ Ty (place_of G) A ∷ js)
    × (M ≡ Some (with_known G (with_found (Tm (place_of G) (lam A t) (pi A B) ∷ js) S)))

-- pairs and paths

-- the last component that was found, and the others of these
abbrev pub with_others : List Typing → Tree → Tree → Tree → State → Option State
with_others ts A B a S =
    let t = tuple_of ts in
    where_true (t.check S.known (at B a))
    (Some (finding (Tm (place S) (pair a (value_at S.known t.tree)) (sig A B)) (after t.tree S)))

abbrev pub DoesPairing : Contents → Pairing → State → Option State → Type 0
DoesPairing b (pairing.Components cs ty) S M =
    (W : Tree) × IsTypeAt b ty (place S) W × (M ≡ check (tuple_of (map typed cs.now)) W S)
DoesPairing b (pairing.Second cs f) S M =
    (A B a : Tree) × (js : List Judgement) × IsFamily b f (place S) A B
    × (S.found ≡ Tm (place S) a A ∷ js)
    × (M ≡ with_others (map typed cs.now) A B a (with_found js S))
DoesPairing b (pairing.Pair f) S M =
    (A B a c : Tree) × (js : List Judgement) × IsFamily b f (place S) A B
    × (S.found ≡ Tm (place S) c (at B a) ∷ Tm (place S) a A ∷ js)
    × (M ≡ Some (with_found (Tm (place S) (pair a c) (sig A B) ∷ js) S))
DoesPairing b (pairing.Names n c ty) S M =
    (W : Tree) × IsTypeAt b ty (place S) W × (M ≡ check (path_function n (typed c.now)) W S)
DoesPairing b (pairing.CloseName ty) S M =
    (G : Known) × (L u v t : Tree) × (js : List Judgement)
    × IsTypeAt b ty (place_of G) (pathp L u v) × (S.known ≡ Interval ∷ G)
    × (S.found ≡ Tm (place S) t L ∷ js)
    × (M ≡ where_true (same_tree (at t i0) u && same_tree (at t i1) v)
    (Some (with_known G (with_found (Tm (place_of G) (plam t) (pathp L u v) ∷ js) S))))

-- heads

abbrev pub DoesEliminating : Contents → Eliminating → State → Option State → Type 0
DoesEliminating b (eliminating.Elements es) S M =
    (a A : Tree) × (rs : List Inferred) × LastInferred S a A rs
    × (let ts = map element_typed es.now in
    let m = apply_all a (map element_of ts) in
    M ≡ option_map (λ T. inferring (value_at S.known m) T (after m (with_inferred rs S)))
    (applied ts S.known A))
DoesEliminating b (eliminating.Apply f) S M =
    (A B t a : Tree) × (js : List Judgement) × (rs : List Inferred)
    × IsFamily b f (place S) A B × LastInferred S t (pi A B) rs
    × (S.found ≡ Tm (place S) a A ∷ js)
    × (M ≡ Some (inferring (app t a) (at B a) (with_found js (with_inferred rs S))))
DoesEliminating b (eliminating.Project ps) S M =
    (c T : Tree) × (rs : List Inferred) × LastInferred S c T rs
    × (M ≡ option_map (λ A. inferring (project c ps.now) A (with_inferred rs S))
    (projected ps.now c T))
DoesEliminating b (eliminating.Number c) S M = M ≡ check (typed c.now) nat S
DoesEliminating b eliminating.Successor S M =
    (n : Tree) × (js : List Judgement) × (S.found ≡ Tm (place S) n nat ∷ js)
    × (M ≡ Some (inferring (suc n) nat (with_found js S)))

-- recursions

abbrev pub DoesRecurring : Recurring → State → Option State → Type 0
DoesRecurring (recurring.Motive m) S M =
    M ≡ opened Large (WithVar (place S) nat) (motive_typed m.now) S
DoesRecurring recurring.EnterNumber S M = M ≡ Some (under (Variable nat) S)
DoesRecurring recurring.FamilyOfNumbers S M =
    (c A : Tree) × (rs : List Inferred) × LastInferred S c A rs
    × (M ≡ where_true (same_tree A (pi nat universe))
    (Some (finding (Ty (WithVar (place S) nat) (app (lifted c) innermost)) (with_inferred rs S))))
DoesRecurring (recurring.Base c) S M =
    (P : Tree) × (js : List Judgement) × (S.found ≡ Ty (WithVar (place S) nat) P ∷ js)
    × (M ≡ check (typed c.now) (at P zero) S)
DoesRecurring (recurring.Step c) S M =
    (P a : Tree) × (js : List Judgement)
    × (S.found ≡ Tm (place S) a (at P zero) ∷ Ty (WithVar (place S) nat) P ∷ js)
    × (M ≡ check (typed c.now) (motive_step P) S)
DoesRecurring recurring.Close S M =
    (P a s n : Tree) × (js : List Judgement)
    × (S.found ≡ Tm (place S) n nat ∷ Tm (place S) s (motive_step P)
    ∷ Tm (place S) a (at P zero) ∷ Ty (WithVar (place S) nat) P ∷ js)
    × (M ≡ Some (inferring (natrec P a s n) (at P n) (with_found js S)))

-- lines

-- the place before its last variable or name
abbrev pub before_last : Known → Option Known
before_last [] = None
before_last (Variable A ∷ G) = Some G
before_last (Interval ∷ G) = Some G
before_last (Definition n t A ∷ G) = None

abbrev pub DoesLining : Lining → State → Option State → Type 0
DoesLining (lining.Line l sort) S M =
    M ≡ opened sort (WithName (place S)) (line_typed l.now) S
DoesLining lining.EnterName S M = M ≡ Some (under Interval S)
DoesLining lining.Leave S M =
    (G : Known) × (before_last S.known ≡ Some G) × (M ≡ Some (with_known G S))
DoesLining (lining.PathInUniverse sort) S M =
    (c A : Tree) × (rs : List Inferred) × LastInferred S c A rs
    × (M ≡ where_true (holds (path_type_of A) (λ P. same_tree P.line universe))
    (Some (finding (formed sort (WithName (place S)) (papp (lifted c) innermost))
    (with_inferred rs S))))
DoesLining (lining.Left c sort) S M =
    (L : Tree) × (js : List Judgement) × (S.found ≡ formed sort (WithName (place S)) L ∷ js)
    × (M ≡ check (typed c.now) (at L i0) S)
DoesLining (lining.Right c sort) S M =
    (L u : Tree) × (js : List Judgement)
    × (S.found ≡ Tm (place S) u (at L i0) ∷ formed sort (WithName (place S)) L ∷ js)
    × (M ≡ check (typed c.now) (at L i1) S)
DoesLining (lining.ClosePath sort) S M =
    (L u v : Tree) × (js : List Judgement)
    × (S.found ≡ Tm (place S) v (at L i1) ∷ Tm (place S) u (at L i0)
    ∷ formed sort (WithName (place S)) L ∷ js)
    × (M ≡ Some (with_found (formed sort (place S) (pathp L u v) ∷ js) S))
DoesLining lining.Transport S M =
    (L a : Tree) × (js : List Judgement)
    × (S.found ≡ Tm (place S) a (at L i0) ∷ Ty (WithName (place S)) L ∷ js)
    × (M ≡ Some (inferring (comp L f0 empty a) (at L i1) (with_found js S)))

-- terms that were inferred

abbrev pub DoesComparing : Contents → Comparing → State → Option State → Type 0
DoesComparing b (comparing.At ty) S M =
    (a A W : Tree) × (rs : List Inferred) × LastInferred S a A rs
    × IsTypeAt b ty (place S) W
    × (M ≡ where_true (same_tree A W) (Some (finding (Tm (place S) a W) (with_inferred rs S))))
DoesComparing b comparing.IsSmall S M =
    (a A : Tree) × (rs : List Inferred) × LastInferred S a A rs
    × (M ≡ where_true (same_tree A universe)
    (Some (finding (Ty (place S) a) (with_inferred rs S))))
DoesComparing b comparing.Small S M =
    (a : Tree) × (js : List Judgement) × (S.found ≡ Tm (place S) a universe ∷ js)
    × (M ≡ Some (inferring a universe (with_found js S)))

-- tasks

abbrev pub Does : Contents → Task → State → Option State → Type 0
Does b (Infer c) S M = M ≡ infer (typed c.now) S
Does b (Check c ty) S M =
    (W : Tree) × IsTypeAt b ty (place S) W × (M ≡ check (typed c.now) W S)
Does b (Form c sort) S M = M ≡ form sort (typed c.now) S
Does b (DefiningOf t) S M = DoesDefining t S M
Does b (BindingOf t) S M = DoesBinding b t S M
Does b (PairingOf t) S M = DoesPairing b t S M
Does b (EliminatingOf t) S M = DoesEliminating b t S M
Does b (RecurringOf t) S M = DoesRecurring t S M
Does b (LiningOf t) S M = DoesLining t S M
Does b (ComparingOf t) S M = DoesComparing b t S M

-- tasks one after another, the first first; what one that isn't direct leaves is not direct
abbrev pub Then : (State → Option State → Type 0) → Option State → Option State → Type 0
Then goes None R = R ≡ None
Then goes (Some S) R = goes S R

abbrev pub Run : Contents → List Task → State → Option State → Type 0
Run b [] S R = R ≡ Some S
Run b (t ∷ ts) S R = (M : Option State) × Does b t S M × Then (Run b ts) M R
