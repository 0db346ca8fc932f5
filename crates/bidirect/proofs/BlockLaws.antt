-- What is known after definitions, and what stands in them.
use Rattle.std.proofs.Common.{◌≡◌, ℕ, zero, suc, List, [], ◌∷◌, ◌++◌, Some, None, Bool, true, false, refl, sym, ap, ap₂, ◌∙◌, append_assoc, length}
use Rattle.std.specs.Option.{option_and_then}
use Rattle.trees.specs.Trees.{Tree}
use Rattle.trees.specs.Judgements.{Context, Judgement}
use Rattle.translation.specs.Translated.{Stated, done}
use Rattle.translation.specs.Forms.{Means, after, defined}
use Rattle.codes.specs.declared.code.CodeDef.{CodeDef, CodeDef'}
use Rattle.codes.specs.Codes.{meaning, binders, definition, definitions}
use Rattle.direct.specs.Known.{Known, Variable, Interval, Definition, scope_of, value_at}
use Rattle.direct.specs.Typings.{where_true}
use Rattle.typing_tasks.specs.States.{State, Inferred, place, place_of, forgetting, stated_at}
use Rattle.typing_tasks.specs.Outcomes.{definition_typed, block_typed}

pub where_some : {A : Type 0} (p : Bool) (x y : A) → where_true p (Some x) ≡ Some y → x ≡ y
where_some true x y e = cc e
where_some false x y e = absurd (cc e)

-- one definition

pub record DefinitionFacts (d : CodeDef) (F G : Known) : Type 0 where
  pub number : ℕ
  pub body : Tree
  pub type : Tree
  pub is : G ≡ Definition number body type ∷ F
  pub scope : scope_of G ≡ (definition d (scope_of F)).value

pub definition_facts : (d : CodeDef) (F G : Known) → definition_typed d F ≡ Some G → DefinitionFacts d F G
unfolding definition_typed
definition_facts (CodeDef' x n shape bs t c) F G e =
    let m : Means ℕ (Tree × Tree) = defined (binders bs) (meaning t) done (meaning c) in
    let v = value_at F m in
    let same : Definition n v.1 v.0 ∷ F ≡ G = where_some _ (Definition n v.1 v.0 ∷ F) G e in
    record {
      number = n;
      body = v.1;
      type = v.0;
      is = sym same;
      scope = ap scope_of (sym same);
    }

-- definitions in order

pub record BlockFacts (ds : List CodeDef) (F G : Known) : Type 0 where
  pub scope : scope_of G ≡ (definitions ds (scope_of F)).value
  pub outside : place_of G ≡ place_of F
  pub forgets : forgetting (length ds) G ≡ Some F

forgetting_more : (n : ℕ) (F G K : Known) (k : ℕ) (t A : Tree) → K ≡ Definition k t A ∷ F → forgetting n G ≡ Some K → forgetting (suc n) G ≡ Some F
forgetting_more zero F G K k t A is e =
    let same : G ≡ Definition k t A ∷ F = cc (e, is) in
    ap (forgetting 1) same
forgetting_more (suc n) F (Definition m u B ∷ G) K k t A is e = forgetting_more n F G K k t A is e
forgetting_more (suc n) F (Variable B ∷ G) K k t A is e = absurd (cc e)
forgetting_more (suc n) F (Interval ∷ G) K k t A is e = absurd (cc e)
forgetting_more (suc n) F [] K k t A is e = absurd (cc e)

pub block_facts : (ds : List CodeDef) (F G : Known) → block_typed ds F ≡ Some G → BlockFacts ds F G
block_facts [] F G e =
    let same : F ≡ G = cc e in
    record { scope = ap scope_of (sym same); outside = ap place_of (sym same); forgets = ap Some (sym same) }
block_facts (d ∷ ds) F G e =
    elim (definition_typed d F) as (λ o. definition_typed d F ≡ o → option_and_then (block_typed ds) o ≡ Some G → BlockFacts (d ∷ ds) F G) [
      | None ↦ λ f g. absurd (cc g)
      | Some K ↦ λ f g.
          let one = definition_facts d F K f in
          let more = block_facts ds K G g in
          record {
            scope = more.scope ∙ ap (λ H. (definitions ds H).value) one.scope;
            outside = more.outside ∙ ap place_of one.is;
            forgets = forgetting_more (length ds) F G K one.number one.body one.type one.is more.forgets;
          }
    ] refl e

-- what a text after definitions makes of a state

abbrev pub made : (Context → Tree → List Judgement) → (Context → Tree → List Inferred) → Known → Context → Tree → List (Stated ℕ) → State
made fs rs K C v ds = record { known = K; found = fs C v; inferred = rs C v; stated = ds }

pub let_state : (ds : List CodeDef) (m : Means ℕ Tree) (S : State) (G : Known) → BlockFacts ds S.known G → (fs : Context → Tree → List Judgement) (rs : Context → Tree → List Inferred)
    → made fs rs S.known (place S) (value_at S.known (after (definitions ds) m)) (S.stated ++ stated_at S.known (after (definitions ds) m))
    ≡ made fs rs S.known (place_of G) (value_at G m) ((S.stated ++ stated_at S.known (definitions ds)) ++ stated_at G m)
let_state ds m S G facts fs rs =
    let H = (definitions ds (scope_of S.known)).value in
    ap (made fs rs S.known (place S) (m H).value) (sym (append_assoc S.stated (stated_at S.known (definitions ds)) (m H).stated))
    ∙ ap₂ (λ K C. made fs rs S.known C (m K).value ((S.stated ++ stated_at S.known (definitions ds)) ++ (m K).stated)) (sym facts.scope) (sym facts.outside)
