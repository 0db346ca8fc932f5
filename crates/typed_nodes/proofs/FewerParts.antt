-- Rows that name the first parts alone run alike over these.
use Rattle.std.proofs.Common.{◌≡◌, ℕ, zero, suc, ◌<◌, List, [], ◌∷◌, ◌++◌, length, take, refl, sym, ◌∙◌, arith, Some}
use Rattle.std.specs.Prelude.{slice_get, Bool, true, false, ◌&&◌}
use Rattle.std.specs.List.{list_all}
use Rattle.std.proofs.lemmas.Bool.{ltb-true}
use Rattle.trees.specs.Judgements.{Judgement}
use Rattle.trees.specs.Things.{Thing, meanings}
use Rattle.trees.proofs.Meanings.{meanings-length}
use Rattle.book.specs.Contents.{Contents}
use Rattle.book.specs.Shown.{book_concludes}
use Rattle.recipes.specs.declared.row.Row.{Row}
use Rattle.recipes.specs.declared.row.Row.TheVariants as row
use Rattle.recipes.specs.Made.{Made, node_at}
use Rattle.recipes.specs.Statements.{Statement}
use Rattle.recipes.specs.Derivations.{Makes, Runs, RunsTo, premises_at, conclusions_at}
use Rattle.recipe_runner.specs.Running.{MayRun, nothing}
use Rattle.recipe_runner.proofs.FlatLaws.{flat-derives}
use Rattle.typed_nodes.specs.Calls.{names_first, IsTableOf, MayCall}

slice_get-first : {A : Type 0} (n k : ℕ) (xs : List A) → k < n → slice_get (take n xs) k ≡ slice_get xs k
slice_get-first zero k xs lt = absurd (omega arith)
slice_get-first (suc n) k [] lt = refl
slice_get-first (suc n) zero (x ∷ xs) lt = refl
slice_get-first (suc n) (suc k) (x ∷ xs) lt = slice_get-first n k xs (omega arith)

makes-fewer : (earlier : List Statement) (n : ℕ) (things : List Thing) (premises : List Judgement) (known : List Made) (r : Row) (new : List Made) → names_first n r ≡ true → Makes earlier things premises known r new → Makes earlier (take n things) premises known r new
makes-fewer earlier n things premises known (row.Part k) new h m = (m.0, slice_get-first n k things (ltb-true k n h) ∙ m.1, m.2, m.3)
makes-fewer earlier n things premises known (row.Premise k) new h m = m
makes-fewer earlier n things premises known (row.Field node at) new h m = m
makes-fewer earlier n things premises known (row.Var k) new h m = m
makes-fewer earlier n things premises known (row.Make op ks) new h m = m
makes-fewer earlier n things premises known (row.Instance t d) new h m = m
makes-fewer earlier n things premises known (row.Shift k) new h m = m
makes-fewer earlier n things premises known (row.Push d t) new h m = m
makes-fewer earlier n things premises known (row.Then d e) new h m = m
makes-fewer earlier n things premises known row.Nil new h m = m
makes-fewer earlier n things premises known (row.WithVar G t) new h m = m
makes-fewer earlier n things premises known (row.WithName G) new h m = m
makes-fewer earlier n things premises known (row.WithFace G p) new h m = m
makes-fewer earlier n things premises known (row.Conclude name ps ns) new h m = m
makes-fewer earlier n things premises known (row.Derive k ps ns) new h m = m

both : (a b : Bool) → (a && b) ≡ true → (a ≡ true) × (b ≡ true)
both true b h = (refl, h)
both false b h = absurd (cc h)

runs-fewer : (earlier : List Statement) (n : ℕ) (things : List Thing) (premises : List Judgement) (known : List Made) (rows : List Row) (whole : List Made) → list_all (names_first n) rows ≡ true → Runs earlier things premises known rows whole → Runs earlier (take n things) premises known rows whole
runs-fewer earlier n things premises known [] whole h runs = runs
runs-fewer earlier n things premises known (r ∷ rows) whole h runs =
    let e = both (names_first n r) (list_all (names_first n) rows) h in
    (runs.0, (makes-fewer earlier n things premises known r runs.0 e.0 runs.1.0, runs-fewer earlier n things premises (known ++ runs.0) rows whole e.1 runs.1.1))

runs-to-fewer : (earlier : List Statement) (n : ℕ) (things : List Thing) (premises : List Judgement) (rows : List Row) (outs : List ℕ) (gives : List Judgement) → list_all (names_first n) rows ≡ true → RunsTo earlier things premises rows outs gives → RunsTo earlier (take n things) premises rows outs gives
runs-to-fewer earlier n things premises rows outs gives h runs = record {
  whole = runs.whole;
  runs = runs-fewer earlier n things premises [] rows runs.whole h runs.runs;
  outs_are = runs.outs_are;
}

-- a call may run its table
pub may-run : (s : Statement) (b : Contents) (rows : List Row) (outs parts premises : List ℕ) (things : List Thing) → IsTableOf s rows outs (length parts) → MayCall s b parts premises things → MayRun (nothing ∷ []) b rows outs parts premises (conclusions_at s things)
may-run s b rows outs parts premises things is h = record {
  things = take (length parts) things;
  judgements = premises_at s things;
  parts_are = h.parts_are;
  premises_are = h.premises_are;
  runs = runs-to-fewer (nothing ∷ []) (length parts) things (premises_at s things) rows outs (conclusions_at s things) is.first ((flat-derives (nothing ∷ []) s rows outs is.derives).derives things h.may_stand);
}

-- as many nodes as rows are named
pub given-length : (s : Statement) (b c : Contents) (rows : List Row) (outs parts premises nodes : List ℕ) (things : List Thing) → IsTableOf s rows outs (length parts) → MayCall s b parts premises things → meanings (book_concludes c) nodes ≡ Some (conclusions_at s things) → length nodes ≡ length outs
given-length s b c rows outs parts premises nodes things is h e =
    let run = may-run s b rows outs parts premises things is h in
    meanings-length (book_concludes c) nodes (conclusions_at s things) e ∙ sym (meanings-length (node_at run.runs.whole) outs (conclusions_at s things) run.runs.outs_are)
