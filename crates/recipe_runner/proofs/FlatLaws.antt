-- Recipes that name no earlier ones, and what gives nothing.
use Rattle.std.proofs.Common.{◌≡◌, ℕ, zero, suc, List, [], ◌∷◌, ◌++◌, sym, ◌∙◌, ap, Some}
use Rattle.std.specs.Prelude.{slice_get}
use Rattle.trees.specs.Judgements.{Judgement}
use Rattle.trees.specs.Things.{Thing}
use Rattle.book.specs.Contents.{Contents}
use Rattle.recipes.specs.declared.row.Row.{Row}
use Rattle.recipes.specs.declared.row.Row.TheVariants as row
use Rattle.recipes.specs.Made.{Made}
use Rattle.recipes.specs.Statements.{Statement}
use Rattle.recipes.specs.Derivations.{Makes, Runs, Derives, conclusions_at}
use Rattle.recipe_runner.specs.Running.{MayDerive, nothing}

flat-makes : (earlier : List Statement) (things : List Thing) (judgements : List Judgement) (known : List Made) (r : Row) (new : List Made) → Makes [] things judgements known r new → Makes earlier things judgements known r new
flat-makes earlier things judgements known (row.Premise k) new h = h
flat-makes earlier things judgements known (row.Conclude name ps ns) new h = h
flat-makes earlier things judgements known (row.Derive k ps ns) new h = absurd (let e = h.1.is in cc e)
flat-makes earlier things judgements known r new h = h

flat-runs : (earlier : List Statement) (things : List Thing) (judgements : List Judgement) (known : List Made) (rows : List Row) (whole : List Made) → Runs [] things judgements known rows whole → Runs earlier things judgements known rows whole
flat-runs earlier things judgements known [] whole h = h
flat-runs earlier things judgements known (r ∷ rows) whole h =
    (h.0, (flat-makes earlier things judgements known r h.0 h.1.0, flat-runs earlier things judgements (known ++ h.0) rows whole h.1.1))

pub flat-derives : (earlier : List Statement) (s : Statement) (rows : List Row) (outs : List ℕ) → Derives [] s rows outs → Derives earlier s rows outs
flat-derives earlier s rows outs d = record {
  derives = λ parts may.
      let r = d.derives parts may in
      record { whole = r.whole; runs = flat-runs earlier parts _ [] rows r.whole r.runs; outs_are = r.outs_are };
}

is-nothing : (s : Statement) (k : ℕ) → slice_get (nothing ∷ []) k ≡ Some s → nothing ≡ s
is-nothing s zero e = let same : nothing ≡ s = cc in same
is-nothing s (suc k) e = absurd (cc e)

pub gives-nothing : (b : Contents) (k : ℕ) (parts premises : List ℕ) (gives : List Judgement) → MayDerive (nothing ∷ []) b k parts premises gives → gives ≡ []
gives-nothing b k parts premises gives h =
    h.given ∙ ap (λ s. conclusions_at s h.things) (sym (is-nothing h.statement k h.is))

pub counts-nothing : (k : ℕ) (f : Statement → ℕ) → f nothing ≡ 0 → (s : Statement) → slice_get (nothing ∷ []) k ≡ Some s → 0 ≡ f s
counts-nothing k f none s e = sym none ∙ ap f (is-nothing s k e)
