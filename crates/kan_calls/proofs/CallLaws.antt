-- A call runs a recipe that is right, and gives what it states.
use Rattle.std.proofs.Common.{◌≡◌, ℕ, zero, suc, ◌<◌, List, [], ◌∷◌, length, take, drop, refl, sym, ◌∙◌, ap, ap₂, subst, arith, leb-true, Some}
use Rattle.std.specs.Prelude.{Bool, true, ◌&&◌, nat_le, slice_get, slice_index}
use Rattle.std.proofs.lemmas.Bool.{and_parts}
use Rattle.trees.specs.Judgements.{Judgement}
use Rattle.trees.specs.Things.{Thing, meanings}
use Rattle.trees.proofs.Meanings.{meanings-length}
use Rattle.book.specs.Contents.{Contents}
use Rattle.book.specs.Shown.{book_concludes}
use Rattle.recipes.specs.declared.row.Row.{Row}
use Rattle.recipes.specs.Made.{node_at}
use Rattle.recipes.specs.Statements.{Statement}
use Rattle.recipes.specs.Derivations.{RunsTo, Derives, MayStandAt, premises_at, conclusions_at}
use Rattle.recipe_runner.specs.Running.{MayDerive, MayRun, most_added_by, most_made_by}
use Rattle.kan_calls.specs.Calls.{MayCall, IsRecipe}

-- what a derivation by an earlier recipe asks for, of its statement
record Stands (s : Statement) (b : Contents) (premises : List ℕ) (things : List Thing) (gives : List Judgement) : Type 0 where
  premises_are : meanings (book_concludes b) premises ≡ Some (premises_at s things)
  may_stand : MayStandAt s things
  given : gives ≡ conclusions_at s things

may-run-same : (ss earlier : List Statement) (s : Statement) (b : Contents) (rows : List Row) (outs parts premises : List ℕ) (k : ℕ) (gives : List Judgement) → Derives earlier s rows outs → (h : MayDerive ss b k parts premises gives) → s ≡ h.statement → MayRun earlier b rows outs parts premises gives
may-run-same ss earlier s b rows outs parts premises k gives d h same =
    let t = subst (λ u. Stands u b premises h.things gives) (sym same) (record { premises_are = h.premises_are; may_stand = h.may_stand; given = h.given }) in
    record {
      things = h.things;
      judgements = premises_at s h.things;
      parts_are = h.parts_are;
      premises_are = t.premises_are;
      runs = subst (λ z. RunsTo earlier h.things (premises_at s h.things) rows outs z) (sym t.given) (d.derives h.things t.may_stand);
    }

pub at-number : (ss : List Statement) (s t : Statement) (k : ℕ) → slice_get ss k ≡ Some s → slice_get ss k ≡ Some t → s ≡ t
at-number ss s t k e f = let p : Some s ≡ Some t = sym e ∙ f in cc

-- the recipe of that number
pub may-run-at : (ss earlier : List Statement) (s : Statement) (b : Contents) (rows : List Row) (outs parts premises : List ℕ) (k : ℕ) (gives : List Judgement) → slice_get ss k ≡ Some s → Derives earlier s rows outs → MayDerive ss b k parts premises gives → MayRun earlier b rows outs parts premises gives
may-run-at ss earlier s b rows outs parts premises k gives at d h =
    may-run-same ss earlier s b rows outs parts premises k gives d h (at-number ss s h.statement k at h.is)

-- the recipe of that number, as one of others
pub may-derive-at : (ss ts : List Statement) (s : Statement) (b : Contents) (k m : ℕ) (parts premises : List ℕ) (gives : List Judgement) → slice_get ss k ≡ Some s → slice_get ts m ≡ Some s → MayDerive ss b k parts premises gives → MayDerive ts b m parts premises gives
may-derive-at ss ts s b k m parts premises gives at there h = record {
  statement = h.statement;
  things = h.things;
  is = there ∙ sym at ∙ h.is;
  parts_are = h.parts_are;
  premises_are = h.premises_are;
  may_stand = h.may_stand;
  given = h.given;
}

-- a table as a recipe, by its counts

abbrev pub fits : (ℕ → ℕ) → Statement → List Row → List ℕ → ℕ → Bool
fits most s rows gives added =
    (nat_le (most_made_by rows) 512 && nat_le (length gives) 16) && (nat_le (length s.wants) 16 && nat_le (most_added_by most rows) added)

pub is-recipe : (earlier : List Statement) (most : ℕ → ℕ) (s : Statement) (rows : List Row) (gives : List ℕ) (added : ℕ) → Derives earlier s rows gives → fits most s rows gives added ≡ true → IsRecipe earlier most s rows gives added
is-recipe earlier most s rows gives added d e =
    let halves = and_parts _ _ e in
    let table = and_parts _ _ halves.0 in
    let rest = and_parts _ _ halves.1 in
    record {
      derives = d;
      made = leb-true (most_made_by rows) 512 table.0;
      gives_few = leb-true (length gives) 16 table.1;
      wants_few = leb-true (length s.wants) 16 rest.0;
      adds = leb-true (most_added_by most rows) added rest.1;
    }

pub recipe-at : (earlier : List Statement) (most : ℕ → ℕ) (ss : List Statement) (mosts : List ℕ) (s t : Statement) (rows : List Row) (gives : List ℕ) (k n : ℕ) → k ≡ n → slice_get ss n ≡ Some s → IsRecipe earlier most s rows gives (slice_index mosts n) → slice_get ss k ≡ Some t → IsRecipe earlier most t rows gives (slice_index mosts k)
recipe-at earlier most ss mosts s t rows gives k n e at h there =
    let same = at-number ss s t k (ap (slice_get ss) e ∙ at) there in
    subst (λ u. IsRecipe earlier most u rows gives (slice_index mosts k)) same
    (subst (λ m. IsRecipe earlier most s rows gives (slice_index mosts m)) (sym e) h)

-- the recipe of a number, whichever it is
pub may-run-recipe : (ss earlier : List Statement) (most : ℕ → ℕ) (b : Contents) (rows : List Row) (outs parts premises : List ℕ) (k added : ℕ) (gives : List Judgement) → ((s : Statement) → slice_get ss k ≡ Some s → IsRecipe earlier most s rows outs added) → MayDerive ss b k parts premises gives → MayRun earlier b rows outs parts premises gives
may-run-recipe ss earlier most b rows outs parts premises k added gives recipe h =
    may-run-same ss earlier h.statement b rows outs parts premises k gives (recipe h.statement h.is).derives h refl

-- where there is one earlier recipe

only-one : (s t : Statement) (k : ℕ) → slice_get (s ∷ []) k ≡ Some t → s ≡ t
only-one s t zero e = let same : s ≡ t = cc in same
only-one s t (suc k) e = absurd (cc e)

pub may-run-one : (earlier : List Statement) (s : Statement) (b : Contents) (rows : List Row) (outs parts premises : List ℕ) (k : ℕ) (gives : List Judgement) → Derives earlier s rows outs → MayDerive (s ∷ []) b k parts premises gives → MayRun earlier b rows outs parts premises gives
may-run-one earlier s b rows outs parts premises k gives d h =
    may-run-same (s ∷ []) earlier s b rows outs parts premises k gives d h (only-one s h.statement k h.is)

pub count-one : (s t : Statement) (k n : ℕ) (f : Statement → ℕ) → f s ≡ n → slice_get (s ∷ []) k ≡ Some t → n ≡ f t
count-one s t k n f e at = sym e ∙ ap f (only-one s t k at)

-- a call

pub may-run-call : (earlier : List Statement) (s : Statement) (b : Contents) (rows : List Row) (outs : List ℕ) (ctx : ℕ) (parts premises : List ℕ) (things : List Thing) → Derives earlier s rows outs → MayCall s b ctx parts premises things → MayRun earlier b rows outs parts (ctx ∷ premises) (conclusions_at s things)
may-run-call earlier s b rows outs ctx parts premises things d h = record {
  things = things;
  judgements = premises_at s things;
  parts_are = h.parts_are;
  premises_are = h.premises_are;
  runs = d.derives things h.may_stand;
}

-- as many premises as the statement wants
pub call-premises : (s : Statement) (b : Contents) (ctx : ℕ) (parts premises : List ℕ) (things : List Thing) → MayCall s b ctx parts premises things → suc (length premises) ≡ length (premises_at s things)
call-premises s b ctx parts premises things h =
    meanings-length (book_concludes b) (ctx ∷ premises) (premises_at s things) h.premises_are

-- as many conclusions as rows are named
pub run-gives : (earlier : List Statement) (b : Contents) (rows : List Row) (outs parts premises : List ℕ) (gives : List Judgement) → MayRun earlier b rows outs parts premises gives → length outs ≡ length gives
run-gives earlier b rows outs parts premises gives h =
    meanings-length (node_at h.runs.whole) outs gives h.runs.outs_are

pub run-along : (earlier : List Statement) (b : Contents) (rows : List Row) (outs xs ys us vs : List ℕ) (gives : List Judgement) → xs ≡ us → ys ≡ vs → MayRun earlier b rows outs us vs gives → MayRun earlier b rows outs xs ys gives
run-along earlier b rows outs xs ys us vs gives e f h =
    subst (λ z. MayRun earlier b rows outs z ys gives) (sym e)
    (subst (λ z. MayRun earlier b rows outs us z gives) (sym f) h)

-- a list that is cut past its first
pub cut-one : (xs first rest : List ℕ) → 0 < length xs → first ≡ take 1 xs → rest ≡ drop 1 xs → slice_index first 0 ∷ rest ≡ xs
cut-one [] first rest some e f = absurd (omega arith)
cut-one (x ∷ xs) first rest some e f = ap₂ (λ u v. slice_index u 0 ∷ v) e f
