-- The rows that a row of any kind names.
use Rattle.std.specs.Prelude.{ℕ, List}
use Rattle.rows.specs.declared.views.Row.{Row}
use Rattle.rows.specs.declared.views.Row.TheVariants as row
use Rattle.rows.specs.Views.{term_names, sub_names, ctx_names}

abbrev pub row_names : Row → List ℕ
row_names (row.Term r) = term_names r
row_names (row.Subst r) = sub_names r
row_names (row.Context r) = ctx_names r
