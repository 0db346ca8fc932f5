-- Nodes as their words say them: the rule, the form of the conclusion and its rows, the parts and
-- the premises.
use Rattle.std.specs.Prelude.{ℕ, List, ◌∷◌, take, drop, length, Option, Some, None, slice_get}
use Rattle.std.specs.Prelude.{option_and_then}
use Rattle.theory.specs.declared.rule.RuleName.{RuleName}
use Rattle.theory.specs.declared.rule.TheConstants.{RULES}
use Rattle.theory.specs.RuleNames.{kinds_of}
use Rattle.trees.specs.declared.claim.JudgementForm.{JudgementForm}
use Rattle.trees.specs.declared.claim.JudgementForm.TheVariants as form
use Rattle.trees.specs.Judgements.{Judgement}
use Rattle.trees.specs.Things.{Meanings, both, meanings}
use Rattle.trees.specs.Claimed.{said}
use Rattle.book.specs.declared.node_words.TheConstants.{FORMS}

pub record Node : Type 0 where
  pub rule : RuleName
  pub form : JudgementForm
  pub claimed : List ℕ
  pub parts : List ℕ
  pub premises : List ℕ

-- how many rows a judgement of that form names
abbrev pub places_of : JudgementForm → ℕ
places_of form.Ctx = 1
places_of form.Ty = 2
places_of form.TyEq = 3
places_of form.Tm = 3
places_of form.TmEq = 4
places_of form.Sb = 3

-- a node of this rule and form: cells are the rows of its conclusion, its parts and its premises
abbrev pub node_of : List ℕ → RuleName → JudgementForm → Option Node
node_of cells rule form = Some (record {
  rule = rule;
  form = form;
  claimed = take (places_of form) cells;
  parts = take (length (kinds_of rule)) (drop (places_of form) cells);
  premises = drop (length (kinds_of rule)) (drop (places_of form) cells);
})

-- the node that words say
abbrev pub node_coded : List ℕ → Option Node
node_coded (rule ∷ form ∷ cells) =
    both (node_of cells) (slice_get RULES.now rule) (slice_get FORMS form)
node_coded _ = None

abbrev pub node_at : List (List ℕ) → ℕ → Option Node
node_at nodes k = option_and_then node_coded (slice_get nodes k)

-- what a node concludes, where rows mean these things
abbrev pub judgement_of : Meanings → Node → Option Judgement
judgement_of f n = said n.form (meanings f n.claimed)

abbrev pub concluded : Meanings → List (List ℕ) → ℕ → Option Judgement
concluded f nodes k = option_and_then (judgement_of f) (node_at nodes k)
