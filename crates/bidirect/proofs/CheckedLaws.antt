-- Definitions in order, each checked after those before it.
use Rattle.std.proofs.Common.{◌≡◌, ◌+◌, ℕ, List, [], ◌∷◌, ◌++◌, reverse, Option, Some, None, Bool, true, false, Bor, refl, sym, ap, subst, ◌∙◌, arith, append_assoc}
use Rattle.std.specs.List.{AllZip}
use Rattle.std.specs.Option.{option_map}
use Rattle.std.proofs.lemmas.List.{append-nil}
use Rattle.codes.specs.declared.code.CodeDef.{CodeDef, out-CodeDef}
use Rattle.codes.specs.declared.code.Binder.{Binder as BinderOf}
use Rattle.codes.specs.Codes.{definition, definitions}
use Rattle.translation.specs.Translated.{Stated}
use Rattle.translation.specs.Scopes.{Scope}
use Rattle.book.specs.Contents.{Contents}
use Rattle.book.specs.Shown.{Extends}
use Rattle.typed_contexts.proofs.GrowthLaws.{further}
use Rattle.direct.specs.Known.{Known, scope_of}
use Rattle.typing_steps.specs.declared.state.CheckState.{CheckState}
use Rattle.typing_tasks.specs.declared.tasks.Task.{Task}
use Rattle.typing_tasks.specs.declared.tasks.Task.TheVariants as task
use Rattle.typing_tasks.specs.declared.tasks.Defining.TheVariants as defining
use Rattle.typing_tasks.specs.declared.tasks.Binding.TheVariants as binding
use Rattle.typing_tasks.specs.declared.tasks.Inner.TheVariants as inner
use Rattle.typing_tasks.specs.declared.tasks.Tasks.{Tasks}
use Rattle.typing_tasks.specs.States.{State, nothing, stated_at, with_known, after}
use Rattle.typing_tasks.specs.Outcomes.{definition_typed}
use Rattle.typing_steps.specs.Steps.{IsState, IsStated}
use Rattle.direct.specs.Direct.{other_place, place_after}
use Rattle.bidirect.specs.Checked.{Checks, Knows, Runs, ToDo}
use Rattle.typing_steps.proofs.DefinitionLaws.{definition_law, definition_outcome, scope_after}

-- one definition

-- a checker between definitions
abbrev pub between : Known → List (Stated ℕ) → State
between G ds = record { known = G; found = []; inferred = []; stated = ds }

pub definition_to_do : (b : Contents) (x : CheckState) (none : List Task) (tasks : Tasks) (bs : Bor (List BinderOf)) (d : Bor CodeDef) (G : Known) (ds : List (Stated ℕ)) → Knows b x G ds
    → none ≡ [] → tasks.items.items ≡ none ++ reverse (task.Binding (binding.Under bs (inner.Definition d)) ∷ task.Defining (defining.Close (out-CodeDef d.now).number) ∷ [])
    → bs.now ≡ (out-CodeDef d.now).binders.items → ToDo b x tasks (definition_outcome d.now (between G ds))
definition_to_do b x none tasks bs d G ds is empty planned own =
    let ts : List Task = task.Binding (binding.Under bs (inner.Definition d)) ∷ task.Defining (defining.Close (out-CodeDef d.now).number) ∷ [] in
    (between G ds, ts, is, planned ∙ ap (λ xs. xs ++ reverse ts) empty, definition_law b bs d (between G ds) own)

map_none : {A B : Type 0} (f : A → B) (o : Option A) → option_map f o ≡ None → o ≡ None
map_none f None e = refl
map_none f (Some a) e = absurd (cc e)

map_some : {A B : Type 0} (f : A → B) (o : Option A) (y : B) → option_map f o ≡ Some y → (a : A) × (o ≡ Some a) × (f a ≡ y)
map_some f None y e = absurd (cc e)
map_some f (Some a) y e = let same : f a ≡ y = cc e in (a, refl, same)

pub definition_checked : (c : Contents) (y : CheckState) (direct : Bool) (d : CodeDef) (G : Known) (ds : List (Stated ℕ)) → Runs c y direct (definition_outcome d (between G ds)) → Checks c y direct d G ds
definition_checked c y false d G ds none = map_none (λ H. with_known H (after (definition d) (between G ds))) (definition_typed d G) none
definition_checked c y true d G ds (S, is, made) =
    let (H, typed, same) = map_some (λ H. with_known H (after (definition d) (between G ds))) (definition_typed d G) S made in
    (H, typed, subst (IsState c y) (sym same) is)

-- definitions in order

pub later_by : ℕ → Option ℕ → Option ℕ
later_by k = option_map (λ j. k + j)

later_none : (o : Option ℕ) → o ≡ later_by 0 o
unfolding later_by
later_none None = refl
later_none (Some j) = ap Some (omega arith)

later_one : (k : ℕ) (o : Option ℕ) → later_by k (option_map (λ j. j + 1) o) ≡ later_by (k + 1) o
unfolding later_by
later_one k None = refl
later_one k (Some j) = ap Some (omega arith)

-- So many definitions were checked: of all of them those that are left state the others, and the
-- first that is not direct is among those.
pub record Checking (a b : Contents) (x : CheckState) (defs left : List CodeDef) (place : ℕ) : Type 0 where
  pub grown : Extends a b
  pub known : Known
  pub stated : List (Stated ℕ)
  pub knows : Knows b x known stated
  pub states : stated_at [] (definitions defs) ≡ stated ++ stated_at known (definitions left)
  pub other : other_place defs [] ≡ later_by place (other_place left known)

pub none_checked : (a b : Contents) (x : CheckState) (defs : List CodeDef) → Extends a b → IsState b x nothing → Checking a b x defs defs 0
none_checked a b x defs e is = record { grown = e; known = []; stated = []; knows = is; states = refl; other = later_none (other_place defs []) }

module _ (a b c : Contents) (x y : CheckState) (defs left rest : List CodeDef) (d : CodeDef) (place : ℕ) (whole : left ≡ d ∷ rest) (now : Checking a b x defs left place) where
  pub one_checked : Extends b c → Checks c y true d now.known now.stated → Checking a c y defs rest (place + 1)
  unfolding definition_typed
  one_checked e (H, typed, knows) =
      let own : List (Stated ℕ) = stated_at now.known (definition d) in
      let others : Scope ℕ → List (Stated ℕ) = λ s. (definitions rest s).stated in record {
        grown = further now.grown e;
        known = H;
        stated = now.stated ++ own;
        knows = knows;
        states =
            now.states
            ∙ (ap (λ ds. now.stated ++ stated_at now.known (definitions ds)) whole
            ∙ (ap (λ s. now.stated ++ (own ++ others s)) (scope_after d now.known H typed)
            ∙ sym (append_assoc now.stated own (others (scope_of H)))));
        other =
            now.other
            ∙ (ap (λ ds. later_by place (other_place ds now.known)) whole
            ∙ (ap (λ o. later_by place (place_after (other_place rest) o)) typed
            ∙ later_one place (other_place rest H)));
      }

  pub one_refused : Checks c y false d now.known now.stated → other_place defs [] ≡ Some place
  unfolding definition_typed later_by
  one_refused none =
      now.other
      ∙ (ap (λ ds. later_by place (other_place ds now.known)) whole
      ∙ (ap (λ o. later_by place (place_after (other_place rest) o)) none
      ∙ ap Some (omega arith)))

pub all_checked : (a b : Contents) (x : CheckState) (defs left : List CodeDef) (place : ℕ) → left ≡ [] → Checking a b x defs left place
    → (other_place defs [] ≡ None) × AllZip (IsStated b) x.roots.items (stated_at [] (definitions defs))
unfolding later_by
all_checked a b x defs left place none now = (
  now.other ∙ ap (λ ds. later_by place (other_place ds now.known)) none,
  subst (AllZip (IsStated b) x.roots.items) (sym (now.states ∙ (ap (λ ds. now.stated ++ stated_at now.known (definitions ds)) none ∙ append-nil now.stated))) now.knows.roots,
)
