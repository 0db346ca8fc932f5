-- What contracts see of the rows of a file.
use Rattle.std.specs.Prelude.{◌≡◌, ℕ, List, [], ◌∷◌, true, is_some}
use Rattle.std.specs.List.{list_all, flat_map}
use Rattle.std.specs.Option.{option_to_list}
use Rattle.trees.specs.Judgements.{Judgement}
use Rattle.rows.specs.Shown.{things}
use Rattle.deriv_file.specs.declared.row.Row.{Row}
use Rattle.deriv_file.specs.declared.row.Row.TheVariants.{Root}
use Rattle.derivation.specs.Meanings.{Meaning, conclusion_at}
use Rattle.replay.specs.declared.row_judge.RowJudge.{RowJudge}
use Rattle.replay.specs.Filed.{file_meanings}

-- what each row means
abbrev pub meant_by : RowJudge → List Meaning
meant_by judge = file_meanings (things judge.store) judge.filed

-- these rows are nodes
abbrev pub AreNodes : List Meaning → List ℕ → Type 0
AreNodes meant rows = list_all (λ k. is_some (conclusion_at meant k)) rows ≡ true

-- the conclusions of the nodes among these rows
abbrev pub conclusions : List Meaning → List ℕ → List Judgement
conclusions meant rows = flat_map (λ k. option_to_list (conclusion_at meant k)) rows

-- the nodes that are roots, in order
abbrev pub root_node : Row → List ℕ
root_node (Root node) = node ∷ []
root_node row = []

abbrev pub root_nodes : List Row → List ℕ
root_nodes rows = flat_map root_node rows
