-- Forms of codes that are typed alike.
use Rattle.std.proofs.Common.{◌≡◌, ℕ, List, [], ◌∷◌, map, Vec, Global, Box, Bor, Option, Some, None, true, false, refl, sym, ap, ap₂, ◌∙◌}
use mathlib.Core.Former.{Count}
use Rattle.std.specs.Option.{option_map}
use Rattle.layout_lexer.specs.declared.token.Span.{Span}
use Rattle.trees.specs.Trees.{Tree, Var}
use Rattle.trees.specs.Language.{Ty, Tm}
use Rattle.translation.specs.Terms.{universe, nat, zero}
use Rattle.translation.specs.Translated.{Stated}
use Rattle.translation.specs.Forms.{Means, Side, composition, transport}
use Rattle.codes.specs.declared.code.Code.{Code, Comp as Comp_, Bound as Bound_, Defined as Defined_, Nat as Nat_, Zero as Zero_, Bound, Defined, Universe, Nat, Zero, Let', Suc', NatRec', Pi', Sigma', Lambda', PathLambda', Apply', Project', Tuple', PathP', Comp', Fill', Transport', GlueType', GlueTerm', Unglue', Row_of-LineSide, end_of-LineSide, items_hidden-the_row-LineSide-4}
use Rattle.codes.specs.declared.code.Opened.{Opened}
use Rattle.codes.specs.declared.code.LineSide.{LineSide}
use Rattle.codes.specs.Codes.{body_of, meaning, at_name, line_side, line_sides}
use Rattle.codes.proofs.Logs.{append_empty}
use Rattle.codes.proofs.Rows.{meaning_of-Comp, line_sides_row}
use Rattle.book.specs.Contents.{Contents}
use Rattle.direct.specs.Known.{Known, value_at, scope_of, type_of_variable, declared_type}
use Rattle.direct.specs.Typings.{Typing, OpenedTyping, where_true, composition_typing, transport_typing}
use Rattle.direct.specs.Literal.{is_tree}
use Rattle.direct.specs.Direct.{typing, line}
use Rattle.typed_nodes.specs.declared.types.TypeAt.{TypeAt}
use Rattle.typed_nodes.specs.Typed.{IsTypeAt}
use Rattle.typing_tasks.specs.declared.tasks.Task.TheVariants as task
use Rattle.typing_tasks.specs.declared.tasks.Comparing.TheVariants as comparing
use Rattle.typing_tasks.specs.declared.tasks.Sort.TheVariants.{Large}
use Rattle.bidirect.specs.Forms.{AsksNothing, binding_form, checked_form, compound_form, former_form, lined_form, universe_form}
use Rattle.typing_tasks.specs.States.{State, place, finding, inferring, after}
use Rattle.typing_tasks.specs.Weights.{weight_of}
use Rattle.typing_tasks.specs.Outcomes.{typed, line_typed, transported, infer, check, form}
use Rattle.typing_tasks.specs.Tasks.{Run}
use Rattle.typing_steps.proofs.Planning.{run_one}
use Rattle.typing_tasks.proofs.OutcomeLaws.{then_map}
use Rattle.typing_tasks.proofs.TypingRows.{tree_typing, tree_line}

-- compositions

composition_checks : (m : Means ℕ Tree) (l : OpenedTyping) (t : Typing) (ss : List (Side ℕ Tree)) (G : Known) (W : Tree) → (composition_typing m l t ss).check G W ≡ is_tree ((composition_typing m l t ss).infer G) W
composition_checks m l t [] G W = refl
composition_checks m l t (s ∷ ss) G W = refl

composition_is_type : (m : Means ℕ Tree) (l : OpenedTyping) (t : Typing) (ss : List (Side ℕ Tree)) (G : Known) → (composition_typing m l t ss).is_type G ≡ is_tree ((composition_typing m l t ss).infer G) universe
composition_is_type m l t [] G = refl
composition_is_type m l t (s ∷ ss) G = refl

with_sides : (m : Means ℕ Tree) (l : OpenedTyping) (t : Typing) (ss : List (Side ℕ Tree)) (G : Known) → (ss ≡ [] → ⊥) → (composition_typing m l t ss).infer G ≡ None
with_sides m l t [] G h = absurd (h refl)
with_sides m l t (s ∷ ss) G h = refl

abbrev row_of-LineSide : Code → (n : Count) × Row_of-LineSide n
row_of-LineSide (Comp' s p l q a _ row) = (_, row)
row_of-LineSide _ = (_, end_of-LineSide)

sides_are : (s : Span) (l : Box Opened Global) (a : Box Code Global) (ss : Vec LineSide Global) → line_sides (row_of-LineSide (Comp_ s l a ss)).1 ≡ map line_side ss.items
sides_are s l a ss =
    let row = row_of-LineSide (Comp_ s l a ss) in
    line_sides_row row.0 row.1 ∙ ap (map line_side) (items_hidden-the_row-LineSide-4 ss)

pub typed_comp : (s : Span) (l : Box Opened Global) (a : Box Code Global) (ss : Vec LineSide Global) → ss.items ≡ [] → typed (Comp_ s l a ss) ≡ transported (line_typed l.value) (typed a.value)
unfolding typed line_typed
typed_comp s l a ss e =
    ap₂ (λ m xs. composition_typing m (line l.value) (typing a.value) xs) (meaning_of-Comp s l a ss ∙ ap (λ xs. composition (at_name l.value) (meaning a.value) (map line_side xs)) e) (sides_are s l a ss ∙ ap (map line_side) e)
    ∙ ap₂ (λ x y. transport_typing (transport x y) (line l.value) (typing a.value)) (sym (tree_line l.value)) (sym (tree_typing a.value))

no_map : {A B : Type 0} (f : A → B) (xs : List A) → map f xs ≡ [] → xs ≡ []
no_map f [] e = refl
no_map f (x ∷ xs) e = absurd (cc e)

pub typed_comp_sides : (s : Span) (l : Box Opened Global) (a : Box Code Global) (ss : Vec LineSide Global) → (ss.items ≡ [] → ⊥) → (G : Known) → (typed (Comp_ s l a ss)).infer G ≡ None
unfolding typed
typed_comp_sides s l a ss h G =
    with_sides (meaning (Comp_ s l a ss)) (line l.value) (typing a.value) (line_sides (row_of-LineSide (Comp_ s l a ss)).1) G
    (λ e. h (no_map line_side ss.items (sym (sides_are s l a ss) ∙ e)))

-- what is not checked by its parts is checked at what it is inferred to have

pub checks_inferred : (c : Code) → checked_form c ≡ false → (G : Known) (W : Tree) → (typed c).check G W ≡ is_tree ((typed c).infer G) W
unfolding typed
checks_inferred (Bound s k) e G W = refl
checks_inferred (Defined s n) e G W = refl
checks_inferred (Let' s shape ds p c) e G W = absurd (cc e)
checks_inferred (Universe s) e G W = refl
checks_inferred (Nat s) e G W = refl
checks_inferred (Zero s) e G W = refl
checks_inferred (Suc' s p c) e G W = refl
checks_inferred (NatRec' s p m q a r b t n) e G W = refl
checks_inferred (Pi' s shape bs p c) e G W = refl
checks_inferred (Sigma' s shape bs p c) e G W = refl
checks_inferred (Lambda' s shape bs p c) e G W = absurd (cc e)
checks_inferred (PathLambda' s n p c) e G W = absurd (cc e)
checks_inferred (Apply' s p c shape es) e G W = refl
checks_inferred (Project' s p c ps) e G W = refl
checks_inferred (Tuple' s shape cs) e G W = absurd (cc e)
checks_inferred (PathP' s p l q a r b) e G W = refl
checks_inferred (Comp' s p l q a shape ss) e G W = composition_checks (meaning (Comp' s p l q a shape ss)) (line l) (typing a) (line_sides ss) G W
checks_inferred (Fill' s p l q a shape ss) e G W = refl
checks_inferred (Transport' s p l q a) e G W = refl
checks_inferred (GlueType' s p a shape ss) e G W = refl
checks_inferred (GlueTerm' s p a shape ss) e G W = refl
checks_inferred (Unglue' s p a shape ss) e G W = refl

pub type_inferred : (c : Code) → former_form c ≡ false → universe_form c ≡ false → (G : Known) → (typed c).is_type G ≡ is_tree ((typed c).infer G) universe
unfolding typed
type_inferred (Bound s k) e f G = refl
type_inferred (Defined s n) e f G = refl
type_inferred (Let' s shape ds p c) e f G = absurd (cc e)
type_inferred (Universe s) e f G = absurd (cc f)
type_inferred (Nat s) e f G = refl
type_inferred (Zero s) e f G = refl
type_inferred (Suc' s p c) e f G = refl
type_inferred (NatRec' s p m q a r b t n) e f G = refl
type_inferred (Pi' s shape bs p c) e f G = absurd (cc e)
type_inferred (Sigma' s shape bs p c) e f G = absurd (cc e)
type_inferred (Lambda' s shape bs p c) e f G = refl
type_inferred (PathLambda' s n p c) e f G = refl
type_inferred (Apply' s p c shape es) e f G = refl
type_inferred (Project' s p c ps) e f G = refl
type_inferred (Tuple' s shape cs) e f G = refl
type_inferred (PathP' s p l q a r b) e f G = absurd (cc e)
type_inferred (Comp' s p l q a shape ss) e f G = composition_is_type (meaning (Comp' s p l q a shape ss)) (line l) (typing a) (line_sides ss) G
type_inferred (Fill' s p l q a shape ss) e f G = refl
type_inferred (Transport' s p l q a) e f G = refl
type_inferred (GlueType' s p a shape ss) e f G = refl
type_inferred (GlueTerm' s p a shape ss) e f G = refl
type_inferred (Unglue' s p a shape ss) e f G = refl

pub never_inferred : (c : Code) → AsksNothing c → binding_form c ≡ false → compound_form c ≡ false → lined_form c ≡ false → (G : Known) → (typed c).infer G ≡ None
unfolding typed
never_inferred (Bound s k) h e f g G = absurd h
never_inferred (Defined s n) h e f g G = absurd h
never_inferred (Let' s shape ds p c) h e f g G = absurd (cc e)
never_inferred (Universe s) h e f g G = refl
never_inferred (Nat s) h e f g G = absurd h
never_inferred (Zero s) h e f g G = absurd h
never_inferred (Suc' s p c) h e f g G = absurd (cc f)
never_inferred (NatRec' s p m q a r b t n) h e f g G = absurd (cc f)
never_inferred (Pi' s shape bs p c) h e f g G = absurd (cc e)
never_inferred (Sigma' s shape bs p c) h e f g G = absurd (cc e)
never_inferred (Lambda' s shape bs p c) h e f g G = absurd (cc e)
never_inferred (PathLambda' s n p c) h e f g G = refl
never_inferred (Apply' s p c shape es) h e f g G = absurd (cc f)
never_inferred (Project' s p c ps) h e f g G = absurd (cc f)
never_inferred (Tuple' s shape cs) h e f g G = refl
never_inferred (PathP' s p l q a r b) h e f g G = absurd (cc g)
never_inferred (Comp' s p l q a shape ss) h e f g G = absurd (cc g)
never_inferred (Fill' s p l q a shape ss) h e f g G = refl
never_inferred (Transport' s p l q a) h e f g G = absurd (cc g)
never_inferred (GlueType' s p a shape ss) h e f g G = refl
never_inferred (GlueTerm' s p a shape ss) h e f g G = refl
never_inferred (Unglue' s p a shape ss) h e f g G = refl

-- a code that is inferred, and what that has

pub checked_at : (b : Contents) (c : Bor Code) (ty : TypeAt) (W : Tree) (S : State) (M : Option State) → checked_form c.now ≡ false → IsTypeAt b ty (place S) W → M ≡ check (typed c.now) W S → Run b (task.Infer c ∷ task.Comparing (comparing.At ty) ∷ []) S M
checked_at b c ty W S M plain there e =
    let t = typed c.now in
    let v = value_at S.known t.tree in
    let T : Option State = Some (finding (Tm (place S) v W) (after t.tree S)) in
    let whole : M ≡ where_true (is_tree (t.infer S.known) W) T = e ∙ ap (λ p. where_true p T) (checks_inferred c.now plain S.known W) in (
      infer t S,
      refl,
      then_map b (task.Comparing (comparing.At ty) ∷ []) (λ A. inferring v A (after t.tree S)) (t.infer S.known)
          (λ A f. run_one b _ _ (task.Comparing (comparing.At ty)) (v, A, W, S.inferred, refl, there, whole ∙ ap (λ o. where_true (is_tree o W) T) f))
          (λ f. whole ∙ ap (λ o. where_true (is_tree o W) T) f),
    )

pub type_at : (b : Contents) (c : Bor Code) (S : State) (M : Option State) → former_form c.now ≡ false → universe_form c.now ≡ false → M ≡ form Large (typed c.now) S → Run b (task.Infer c ∷ task.Comparing comparing.IsSmall ∷ []) S M
type_at b c S M plain small e =
    let t = typed c.now in
    let v = value_at S.known t.tree in
    let T : Option State = Some (finding (Ty (place S) v) (after t.tree S)) in
    let whole : M ≡ where_true (is_tree (t.infer S.known) universe) T = e ∙ ap (λ p. where_true p T) (type_inferred c.now plain small S.known) in (
      infer t S,
      refl,
      then_map b (task.Comparing comparing.IsSmall ∷ []) (λ A. inferring v A (after t.tree S)) (t.infer S.known)
          (λ A f. run_one b _ _ (task.Comparing comparing.IsSmall) (v, A, S.inferred, refl, whole ∙ ap (λ o. where_true (is_tree o universe) T) f))
          (λ f. whole ∙ ap (λ o. where_true (is_tree o universe) T) f),
    )

pub infer_none : (t : Typing) (S : State) → t.infer S.known ≡ None → infer t S ≡ None
infer_none t S e = ap (option_map (λ A. inferring (value_at S.known t.tree) A (after t.tree S))) e

-- codes without parts

abbrev stating_as : State → List (Stated ℕ) → State
stating_as S ds = record { known = S.known; found = S.found; inferred = S.inferred; stated = ds }

pub bound_infers : (s : Span) (k : ℕ) (S : State) → infer (typed (Bound_ s k)) S ≡ option_map (λ A. inferring (Var k) A S) (type_of_variable S.known k)
unfolding typed
bound_infers s k S = ap (λ ds. option_map (λ A. inferring (Var k) A (stating_as S ds)) (type_of_variable S.known k)) (append_empty S.stated)

pub defined_infers : (s : Span) (n : ℕ) (S : State) → infer (typed (Defined_ s n)) S ≡ option_map (λ A. inferring (body_of (scope_of S.known) n) A S) (declared_type S.known n)
unfolding typed
defined_infers s n S = ap (λ ds. option_map (λ A. inferring (body_of (scope_of S.known) n) A (stating_as S ds)) (declared_type S.known n)) (append_empty S.stated)

pub nat_infers : (s : Span) (S : State) → infer (typed (Nat_ s)) S ≡ Some (inferring nat universe S)
unfolding typed
nat_infers s S = ap (λ ds. Some (inferring nat universe (stating_as S ds))) (append_empty S.stated)

pub zero_infers : (s : Span) (S : State) → infer (typed (Zero_ s)) S ≡ Some (inferring zero nat S)
unfolding typed
zero_infers s S = ap (λ ds. Some (inferring zero nat (stating_as S ds))) (append_empty S.stated)

pub weighs_bound : (s : Span) (k : ℕ) → weight_of (Bound_ s k) ≡ 16
unfolding weight_of
weighs_bound s k = refl

pub weighs_defined : (s : Span) (n : ℕ) → weight_of (Defined_ s n) ≡ 16
unfolding weight_of
weighs_defined s n = refl

pub weighs_nat : (s : Span) → weight_of (Nat_ s) ≡ 16
unfolding weight_of
weighs_nat s = refl

pub weighs_zero : (s : Span) → weight_of (Zero_ s) ≡ 16
unfolding weight_of
weighs_zero s = refl

pub universe_formed : (c : Code) (S : State) → universe_form c ≡ true → form Large (typed c) S ≡ Some (finding (Ty (place S) universe) S)
unfolding typed
universe_formed (Universe s) S e = ap (λ ds. Some (finding (Ty (place S) universe) (stating_as S ds))) (append_empty S.stated)
universe_formed (Bound s k) S e = absurd (cc e)
universe_formed (Defined s n) S e = absurd (cc e)
universe_formed (Let' s shape ds p c) S e = absurd (cc e)
universe_formed (Nat s) S e = absurd (cc e)
universe_formed (Zero s) S e = absurd (cc e)
universe_formed (Suc' s p c) S e = absurd (cc e)
universe_formed (NatRec' s p m q a r b t n) S e = absurd (cc e)
universe_formed (Pi' s shape bs p c) S e = absurd (cc e)
universe_formed (Sigma' s shape bs p c) S e = absurd (cc e)
universe_formed (Lambda' s shape bs p c) S e = absurd (cc e)
universe_formed (PathLambda' s n p c) S e = absurd (cc e)
universe_formed (Apply' s p c shape es) S e = absurd (cc e)
universe_formed (Project' s p c ps) S e = absurd (cc e)
universe_formed (Tuple' s shape cs) S e = absurd (cc e)
universe_formed (PathP' s p l q a r b) S e = absurd (cc e)
universe_formed (Comp' s p l q a shape ss) S e = absurd (cc e)
universe_formed (Fill' s p l q a shape ss) S e = absurd (cc e)
universe_formed (Transport' s p l q a) S e = absurd (cc e)
universe_formed (GlueType' s p a shape ss) S e = absurd (cc e)
universe_formed (GlueTerm' s p a shape ss) S e = absurd (cc e)
universe_formed (Unglue' s p a shape ss) S e = absurd (cc e)
